use Rattle.std.proofs.Common.{◌≡◌, ◌++◌, drop}
use Rattle.page_pieces.specs.ReadNames.{names_in}
use Rattle.page_pieces.proofs.name_run.joined.Given as goal

abbrev pub invariant-loop-run : goal.invariant-loop-run
invariant-loop-run l = l.names ++ names_in (drop l.run-index l.runs) ≡ names_in l.runs
