use Rattle.std.proofs.Common.{◌≡◌, drop}
use Rattle.page_pieces.specs.Repeats.{has_name}
use Rattle.page_pieces.proofs.attribute.has_name.Given as goal

abbrev pub invariant-loop-attribute : goal.invariant-loop-attribute
invariant-loop-attribute l = has_name l.name (drop l.attribute-index l.attributes) ≡ has_name l.name l.attributes
