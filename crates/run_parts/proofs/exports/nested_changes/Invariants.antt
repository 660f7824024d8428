use Rattle.std.proofs.Common.{◌≡◌, ◌++◌, drop, map}
use Rattle.run_parts.proofs.exports.nested_changes.Given as goal
use Rattle.run_parts.specs.Exports.{change_of, nested_changes}
use Rattle.run_world.specs.Seats.{export_of}
use Rattle.page_meaning.specs.Variables.{entries_of_frame}

abbrev pub invariant-loop-export : goal.invariant-loop-export
invariant-loop-export l =
    map change_of l.changes.items ++ nested_changes (map export_of (drop l.export-index l.exports)) (entries_of_frame l.scopes l.scopes.current)
    ≡ nested_changes (map export_of l.exports) (entries_of_frame l.scopes l.scopes.current)
