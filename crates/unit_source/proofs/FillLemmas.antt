-- Nodes that are filled with what was found at their include directives.
use Rattle.std.proofs.Common.{◌≡◌, List, [], ◌∷◌, refl, ap, sym, ◌∙◌}
use Rattle.unit_source.specs.declared.placed.PlacedNode.{PlacedNode}
use Rattle.unit_source.specs.InPlace.{InPlace, done, leaf, element, broken, included, followed}
use Rattle.unit_source.specs.Placed.{in_place, node_in_place}
use Rattle.unit_source.specs.ReadSteps.{Found, Filled, filled_by, leaf_filled, filled, filled_behind}
use Rattle.unit_source.proofs.PlacedLemmas.{followed_assoc}

-- nodes that are filled, and then others
pub filled_followed : (a b : InPlace) (found : List Found) → filled (followed a b) found ≡ filled_behind (filled a found).nodes (filled b (filled a found).left)
filled_followed done b found = refl
filled_followed (leaf kind place next) b found = ap (leaf_filled (leaf kind place)) (filled_followed next b found)
filled_followed (element opened body next) b found = ap (leaf_filled (element opened (filled body found).nodes)) (filled_followed next b (filled body found).left)
filled_followed (broken fault next) b found = ap (leaf_filled (broken fault)) (filled_followed next b found)
filled_followed (included d entry body next) b [] = ap (leaf_filled (included d entry body)) (filled_followed next b [])
filled_followed (included d entry body next) b (f ∷ found) = ap (leaf_filled (included d f.entry f.nodes)) (filled_followed next b found)

-- one more node is filled
pub next_filled : (all made : InPlace) (node : PlacedNode) (nodes : List PlacedNode) (found left : List Found) (total : Filled)
    → filled_behind all (filled (followed (node_in_place node) (in_place nodes)) found) ≡ total
    → made ≡ (filled (node_in_place node) found).nodes → left ≡ (filled (node_in_place node) found).left
    → filled_behind (followed all made) (filled (in_place nodes) left) ≡ total
next_filled all made node nodes found left total whole is_made is_left =
    ap (λ m. filled_behind (followed all m) (filled (in_place nodes) left)) is_made
    ∙ ap (λ l. filled_behind (followed all here.nodes) (filled (in_place nodes) l)) is_left
    ∙ ap (λ n. filled_by n (filled (in_place nodes) here.left).left) (followed_assoc all here.nodes (filled (in_place nodes) here.left).nodes)
    ∙ ap (filled_behind all) (sym (filled_followed (node_in_place node) (in_place nodes) found)) ∙ whole
  where
    here : Filled
    here = filled (node_in_place node) found
