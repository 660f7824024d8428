use Rattle.std.proofs.Common.{◌≡◌, ◌++◌, drop, map}
use Rattle.run_parts.proofs.exports.own_changes.Given as goal
use Rattle.run_parts.specs.Exports.{change_of, is_copied, own_changes}
use Rattle.run_world.specs.Seats.{export_of}
use Rattle.page_meaning.specs.Variables.{entries_of_frame}

abbrev pub invariant-loop-export : goal.invariant-loop-export
invariant-loop-export l =
    map change_of l.changes.items ++ own_changes (is_copied l.time) (map export_of (drop l.export-index l.exports)) (entries_of_frame l.scopes l.scopes.current)
    ≡ own_changes (is_copied l.time) (map export_of l.exports) (entries_of_frame l.scopes l.scopes.current)
