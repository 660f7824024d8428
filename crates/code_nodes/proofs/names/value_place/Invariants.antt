use Rattle.std.proofs.Common.{◌≡◌, drop}
use Rattle.page_acts.specs.Views.{attributes_of}
use Rattle.page_meaning.specs.Beans.{value_place}
use Rattle.code_nodes.proofs.names.value_place.Given as goal

abbrev pub invariant-loop-attribute : goal.invariant-loop-attribute
invariant-loop-attribute l = value_place (attributes_of (drop l.attribute-index l.list)) l.place ≡ value_place (attributes_of l.list) l.place
