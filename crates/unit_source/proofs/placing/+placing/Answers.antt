use Rattle.std.proofs.Common.{◌∙◌, List, ap, sym}
use Rattle.std.proofs.lemmas.List.{nil_from_length}
use Rattle.page_reader.specs.declared.node.Node.{Node}
use Rattle.page_reader.specs.Trees.{trees_of}
use Rattle.unit_source.specs.InPlace.{followed, placed}
use Rattle.unit_source.specs.Placed.{in_place}
use Rattle.unit_source.specs.ReadPlacing.{blanked}
use Rattle.unit_source.proofs.PlacedLemmas.{followed_done}
use Rattle.unit_source.proofs.PlacingLemmas.{none_blanked}
use Rattle.unit_source.proofs.placing.+placing.Goals as goal

pub placed_nodes-returns : goal.placed_nodes-returns
placed_nodes-returns t c =
    let all = in_place c.loop-node.all.items in
    let rest = c.loop-node.node-iterator.rest in
    let none = nil_from_length rest.items (sym rest.ok.0 ∙ c.in-None.ensures.steps.0) in
    sym (followed_done all) ∙ ap (followed all) (sym (none_blanked c.args.trims))
    ∙ ap (λ (ns : List Node). followed all (placed (blanked c.args.trims (trees_of ns)))) (sym none) ∙ c.loop-node.invariant
