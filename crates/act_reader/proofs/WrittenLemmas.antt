-- The attributes of a start tag that are evaluated, one after the other.
use Rattle.std.proofs.Common.{◌≡◌, ◌∙◌, ◌<◌, ◌+◌, ℕ, List, [], ◌∷◌, drop, get_or, length, map, refl, ap, sym}
use Rattle.std.proofs.lemmas.List.{drop_more}
use Rattle.act_reader.specs.Before.{attributes_before}
use Rattle.page_acts.specs.declared.acts.ActAttribute.{ActAttribute}
use Rattle.page_meaning.specs.Page.{Attributes}
use Rattle.unit_meaning.specs.Named.{written_before}
use Rattle.unit_nodes.specs.Nodes.{Given}
use Rattle.unit_nodes.specs.Views.{given_of}
use Rattle.unit_nodes.specs.declared.unit.UnitAttribute.{UnitAttribute}

-- one attribute before others
written_one : (statics : List (List ℕ)) (a : Given) (rest : List Given) (others : Attributes)
    → written_before statics (a ∷ []) (written_before statics rest others) ≡ written_before statics (a ∷ rest) others
written_one statics a rest others = refl

-- the loop looked at one more attribute
pub next_written : (statics : List (List ℕ)) (all : List UnitAttribute) (i : ℕ) (a : UnitAttribute) (before found : List ActAttribute) (total : Attributes → Attributes)
    → i < length all → a ≡ get_or all i a
    → ((others : Attributes) → attributes_before before (written_before statics (map given_of (drop i all)) others) ≡ total others)
    → ((others : Attributes) → attributes_before found others ≡ attributes_before before (written_before statics (given_of a ∷ []) others))
    → (others : Attributes) → attributes_before found (written_before statics (map given_of (drop (i + 1) all)) others) ≡ total others
next_written statics all i a before found total lt is whole more others =
    more (written_before statics (map given_of (drop (i + 1) all)) others)
    ∙ ap (attributes_before before) (written_one statics (given_of a) (map given_of (drop (i + 1) all)) others)
    ∙ ap (λ left. attributes_before before (written_before statics (map given_of left) others)) (sym split)
    ∙ whole others
  where
    split : drop i all ≡ a ∷ drop (i + 1) all
    split = drop_more all i a lt ∙ ap (λ x. x ∷ drop (i + 1) all) (sym is)
