use Rattle.std.proofs.Common.{◌≡◌, ◌++◌, drop}
use Rattle.page_pieces.specs.ReadNames.{names_in}
use Rattle.page_pieces.proofs.name_run.push_runs.Given as goal

abbrev pub invariant-loop-run : goal.invariant-loop-run
invariant-loop-run l = names_in l.runs.items ++ names_in (drop l.run-index l.more) ≡ names_in l.fn.runs.items ++ names_in l.more
