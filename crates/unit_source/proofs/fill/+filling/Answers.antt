use Rattle.std.proofs.Common.{◌∙◌, List, ap, map, sym}
use Rattle.std.proofs.lemmas.List.{nil_from_length}
use Rattle.unit_source.specs.declared.placed.PlacedNode.{PlacedNode}
use Rattle.unit_source.specs.Placed.{in_place}
use Rattle.unit_source.specs.ReadSplice.{found_of}
use Rattle.unit_source.specs.ReadSteps.{Filled, filled, filled_behind}
use Rattle.unit_source.proofs.PlacedLemmas.{followed_done}
use Rattle.unit_source.proofs.fill.+filling.Goals as goal

pub fill_nodes-returns-clause-nodes : goal.fill_nodes-returns-clause-nodes
fill_nodes-returns-clause-nodes t c =
    let all = in_place c.loop-node.all.items in
    let rest = c.loop-node.node-iterator.rest in
    let none = nil_from_length rest.items (sym rest.ok.0 ∙ c.in-None.ensures.steps.0) in
    sym (followed_done all)
    ∙ ap (λ (f : Filled). f.nodes) (ap (λ (ns : List PlacedNode). filled_behind all (filled (in_place ns) (map found_of c.loop-node.found.items))) (sym none) ∙ c.loop-node.invariant)
