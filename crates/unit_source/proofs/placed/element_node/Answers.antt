use Rattle.std.proofs.Common.{rules}
use Rattle.unit_source.specs.declared.placed.PlacedNode.TheViews.{the_lemmas}
use Rattle.unit_source.proofs.PlacedLemmas.{row_placed}
use Rattle.unit_source.proofs.placed.element_node.Goals as goal

pub returns : goal.returns
returns c = search (rules, the_lemmas, row_placed)
