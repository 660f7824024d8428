use Rattle.std.proofs.Common.{◌≡◌, drop}
use Rattle.page_pieces.specs.Settings.{value_of}
use Rattle.page_pieces.proofs.attribute.value_of.Given as goal

abbrev pub invariant-loop-attribute : goal.invariant-loop-attribute
invariant-loop-attribute l = value_of l.name (drop l.attribute-index l.attributes) ≡ value_of l.name l.attributes
