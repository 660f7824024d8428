use Rattle.std.proofs.Common.{◌≡◌, drop}
use Rattle.page_pieces.specs.ReadNames.{names_in}
use Rattle.page_pieces.specs.Settings.{contains_text}
use Rattle.page_pieces.proofs.name_run.have_name.Given as goal

abbrev pub invariant-loop-run : goal.invariant-loop-run
invariant-loop-run l = contains_text l.name (names_in (drop l.run-index l.runs)) ≡ contains_text l.name (names_in l.runs)
