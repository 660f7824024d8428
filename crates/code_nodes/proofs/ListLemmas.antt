-- The codes of nodes and of params, one after the other.
use Rattle.std.proofs.Common.{◌≡◌, ℕ, suc, ◌+◌, ◌<◌, ◌≤◌, List, [], ◌∷◌, ◌++◌, length, drop, get_or, refl, sym, ap, ◌∙◌, append_assoc}
use Rattle.std.proofs.lemmas.List.{append-nil, drop_all, drop_more}
use Rattle.page_acts.specs.Views.{act_of, acts_of, attributes_of, params_of}
use Rattle.page_acts.specs.declared.acts.Act.{Act}
use Rattle.page_acts.specs.declared.acts.ActParam.{ActParam}
use Rattle.page_code.specs.Shapes.{up}
use Rattle.page_code.specs.declared.code.Cell.{Cell}
use Rattle.page_code.specs.declared.shape.Shape.{Shape}
use Rattle.code_forms.specs.Codes.{form_code}
use Rattle.code_lowering.specs.Expressions.{visits}
use Rattle.code_lowering.specs.Lowering.{node_form, node_visits, nodes_form, param_count, params_form}
use Rattle.page_meaning.specs.Page.{Page, place_of}
use Rattle.code_nodes.specs.Params.{param_form}

pub next_of : {R : Type 0} (all : List R) (i : ℕ) (x : R) → i < length all → x ≡ get_or all i x → drop i all ≡ x ∷ drop (i + 1) all
next_of all i x lt is = drop_more all i x lt ∙ ap (λ y. y ∷ drop (i + 1) all) (sym is)

-- nothing is left to do
pub all_of : {R : Type 0} (codes : List R → List Cell) (all : List R) (i : ℕ) (code total : List Cell) → codes [] ≡ [] → length all ≤ i → code ++ codes (drop i all) ≡ total → code ≡ total
all_of codes all i code total none past whole = sym (append-nil code) ∙ ap (λ cells. code ++ cells) (sym (ap codes (drop_all i all past) ∙ none)) ∙ whole

-- as many params as there are in memory
pub param_count_is : (list : List ActParam) → param_count (params_of list) ≡ length list
param_count_is [] = refl
param_count_is (made ∷ list) = ap suc (param_count_is list)

module _ (page : Page) where
  abbrev pub nodes_code : Shape → List Act → List Cell
  nodes_code sh acts = form_code sh (nodes_form page (acts_of acts))

  abbrev pub params_code : Shape → List ActParam → List Cell
  params_code sh list = form_code sh (params_form page (params_of list))

  -- one node more
  pub nodes_from : (sh : Shape) (total : List Cell) (acts : List Act) (i : ℕ) (x : Act) (code more made : List Cell) → i < length acts → x ≡ get_or acts i x → more ≡ code ++ made
      → made ≡ form_code sh (visits (node_visits (act_of x)) (place_of (act_of x))) ++ form_code sh (node_form page (act_of x)) → code ++ nodes_code sh (drop i acts) ≡ total
      → more ++ nodes_code sh (drop (i + 1) acts) ≡ total
  nodes_from sh total acts i x code more made lt is joined made_is whole =
      ap (λ cells. cells ++ others) joined
      ∙ append_assoc code made others
      ∙ ap (λ cells. code ++ (cells ++ others)) made_is
      ∙ ap (λ rest. code ++ nodes_code sh rest) (sym (next_of acts i x lt is)) ∙ whole
    where
      others : List Cell
      others = nodes_code sh (drop (i + 1) acts)

  -- one param more
  pub params_from : (sh : Shape) (total : List Cell) (list : List ActParam) (i : ℕ) (x : ActParam) (code more : List Cell) (above : Shape) → i < length list → x ≡ get_or list i x
      → more ≡ code ++ form_code sh (param_form page (attributes_of x.attributes.items) (acts_of x.body.items) x.place.now) → above ≡ up 2 sh
      → code ++ params_code sh (drop i list) ≡ total → more ++ params_code above (drop (i + 1) list) ≡ total
  params_from sh total list i x code more above lt is made stands whole =
      ap (λ s. more ++ params_code s (drop (i + 1) list)) stands
      ∙ ap (λ cells. cells ++ params_code (up 2 sh) (drop (i + 1) list)) made
      ∙ append_assoc code (form_code sh (param_form page (attributes_of x.attributes.items) (acts_of x.body.items) x.place.now)) (params_code (up 2 sh) (drop (i + 1) list))
      ∙ ap (λ rest. code ++ params_code sh rest) (sym (next_of list i x lt is)) ∙ whole
