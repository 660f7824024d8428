use Rattle.std.proofs.Common.{◌≡◌, drop}
use Rattle.page_pieces.specs.Settings.{contains_text}
use Rattle.page_directives.specs.Rows.{words}
use Rattle.page_directives.proofs.words.is_among.Given as goal

abbrev pub invariant-loop-item : goal.invariant-loop-item
invariant-loop-item l = contains_text l.text (words (drop l.item-index l.texts)) ≡ contains_text l.text (words l.texts)
