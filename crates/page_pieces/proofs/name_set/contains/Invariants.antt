use Rattle.std.proofs.Common.{◌≡◌, drop}
use Rattle.page_pieces.specs.Settings.{contains_text}
use Rattle.page_pieces.proofs.name_set.contains.Given as goal

abbrev pub invariant-loop-item : goal.invariant-loop-item
invariant-loop-item l = contains_text l.text (drop l.item-index l.texts) ≡ contains_text l.text l.texts
