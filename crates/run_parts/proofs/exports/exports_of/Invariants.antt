use Rattle.std.proofs.Common.{◌≡◌, ◌++◌, drop, map}
use Rattle.run_parts.proofs.exports.exports_of.Given as goal
use Rattle.run_world.specs.Seats.{export_of}
use Rattle.page_meaning.specs.Exports.{exports_of}

abbrev pub invariant-loop-variable : goal.invariant-loop-variable
invariant-loop-variable l = map export_of l.exports.items ++ exports_of l.entries (drop l.variable-index l.variables) ≡ exports_of l.entries l.variables
