use Rattle.std.proofs.Common.{◌≡◌, take, drop}
use Rattle.page_pieces.specs.Repeats.{has_repeat}
use Rattle.page_pieces.proofs.RepeatLemmas.{hits, HasNames}
use Rattle.page_pieces.proofs.attribute.has_repeat.Given as goal

abbrev pub invariant-loop-attribute : goal.invariant-loop-attribute
invariant-loop-attribute l = record {
  seen : HasNames l.seen (take l.attribute-index l.attributes);
  left : hits (take l.attribute-index l.attributes) (drop l.attribute-index l.attributes) ≡ has_repeat l.attributes;
}
