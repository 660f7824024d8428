-- The branches of a choice, one after the other.
use Rattle.std.proofs.Common.{◌≡◌, ℕ, ◌+◌, ◌<◌, ◌≤◌, List, [], ◌∷◌, ◌++◌, codes, false, length, drop, get_or, sym, ap, ◌∙◌, append_assoc}
use Rattle.std.proofs.lemmas.List.{drop_all}
use Rattle.code_actions.proofs.Actions.{either_is}
use Rattle.code_actions.proofs.Choosings.{before_push}
use Rattle.code_actions.specs.Choosing.{before, when_code}
use Rattle.code_actions.specs.declared.choosing.TestedBranch.{TestedBranch}
use Rattle.page_acts.specs.Views.{branch_before, branches_of}
use Rattle.page_acts.specs.declared.acts.ActBranch.{ActBranch}
use Rattle.page_code.specs.Shapes.{cell, up}
use Rattle.page_code.specs.declared.code.Cell.{Cell}
use Rattle.page_code.specs.declared.instr.Instr.TheVariants as instr
use Rattle.page_code.specs.declared.shape.Shape.{Shape}
use Rattle.code_forms.specs.Codes.{arranged_code, either_code, form_code}
use Rattle.code_lowering.specs.Expressions.{visits}
use Rattle.code_lowering.specs.Lowering.{attributes_form, branches_form, names_in, nodes_form}
use Rattle.page_meaning.specs.Attributes.{coercion_in}
use Rattle.page_meaning.specs.Coercions.{test_coercions}
use Rattle.page_meaning.specs.Page.{Page, Attributes, Nodes, Branches, when, otherwise}
use Rattle.pg_text.specs.declared.place.Place.{Place}
use Rattle.code_nodes.proofs.ListLemmas.{next_of}

module _ (page : Page) (sh : Shape) where
  abbrev pub branches_code : Branches → List Cell
  branches_code bs = form_code sh (branches_form page bs)

  -- a branch with a test before the others
  pub when_is : (list : Attributes) (nodes : Nodes) (place : Place) (names : List (List ℕ)) (seen valued body : List Cell) (made : TestedBranch) (others : Branches)
      → names ≡ names_in test_coercions list → seen ≡ form_code sh (visits 1 place) → valued ≡ seen ++ form_code sh (attributes_form page list (coercion_in test_coercions))
      → body ≡ form_code sh (nodes_form page nodes) → made ≡ record { code = valued ++ when_code sh place names body; place = place }
      → before sh (made ∷ []) (branches_code others) ≡ branches_code (when list nodes place others)
  when_is list nodes place names seen valued body made others names_are seen_is valued_is body_is made_is =
      ap (λ w. before sh (w ∷ []) rest) made_is
      ∙ ap (λ cells. (cells ++ when_code sh place names body) ++ over) (valued_is ∙ ap (λ cells. cells ++ values) seen_is)
      ∙ append_assoc (visit ++ values) (when_code sh place names body) over
      ∙ append_assoc visit values (when_code sh place names body ++ over)
      ∙ ap (λ cells. visit ++ (values ++ cells)) (append_assoc (arranged_code sh place (codes "test" ∷ []) names 0) (cell (up 1 sh) place (instr.JumpIf false (length body + 1)) ∷ body) over)
      ∙ ap (λ cells. visit ++ (values ++ (arranged_code sh place (codes "test" ∷ []) names 0 ++ cells))) (either_is sh place body rest)
      ∙ ap (λ ns. visit ++ (values ++ (arranged_code sh place (codes "test" ∷ []) ns 0 ++ either body))) names_are
      ∙ ap (λ cells. visit ++ (values ++ (arranged_code sh place (codes "test" ∷ []) (names_in test_coercions list) 0 ++ either cells))) body_is
    where
      rest : List Cell
      rest = branches_code others

      visit : List Cell
      visit = form_code sh (visits 1 place)

      values : List Cell
      values = form_code sh (attributes_form page list (coercion_in test_coercions))

      over : List Cell
      over = cell (up 0 sh) place (instr.Jump (length rest)) ∷ rest

      either : List Cell → List Cell
      either first = either_code (up 1 sh) (up 0 sh) place (instr.JumpIf false) first rest

  -- one branch with a test more
  pub branches_from : (total : List Cell) (list : List ActBranch) (i : ℕ) (b : ActBranch) (whens more : List TestedBranch) (made : TestedBranch) (list2 : Attributes) (nodes : Nodes) (place : Place)
      → i < length list → b ≡ get_or list i b → more ≡ whens ++ made ∷ [] → ((others : Branches) → before sh (made ∷ []) (branches_code others) ≡ branches_code (when list2 nodes place others))
      → ((others : Branches) → branch_before b others ≡ when list2 nodes place others) → before sh whens (branches_code (branches_of (drop i list))) ≡ total
      → before sh more (branches_code (branches_of (drop (i + 1) list))) ≡ total
  branches_from total list i b whens more made list2 nodes place lt is pushed made_is whole_is whole =
      ap (λ ws. before sh ws (branches_code rest)) pushed
      ∙ before_push sh whens made (branches_code rest)
      ∙ ap (λ cells. before sh whens cells) (made_is rest ∙ ap branches_code (sym (whole_is rest)))
      ∙ ap (λ bs. before sh whens (branches_code (branches_of bs))) (sym (next_of list i b lt is)) ∙ whole
    where
      rest : Branches
      rest = branches_of (drop (i + 1) list)

  -- the branch without a test is the last
  pub branches_end : (total : List Cell) (list : List ActBranch) (i : ℕ) (b : ActBranch) (whens : List TestedBranch) (last : List Cell) (nodes : Nodes) (place : Place)
      → i < length list → b ≡ get_or list i b → last ≡ form_code sh (visits 1 place) ++ form_code sh (nodes_form page nodes)
      → ((others : Branches) → branch_before b others ≡ otherwise nodes place others) → before sh whens (branches_code (branches_of (drop i list))) ≡ total
      → before sh whens last ≡ total
  branches_end total list i b whens last nodes place lt is last_is whole_is whole =
      ap (λ cells. before sh whens cells) (last_is ∙ ap branches_code (sym (whole_is (branches_of (drop (i + 1) list)))))
      ∙ ap (λ bs. before sh whens (branches_code (branches_of bs))) (sym (next_of list i b lt is)) ∙ whole

  -- there is no branch without a test
  pub branches_past : (total : List Cell) (list : List ActBranch) (i : ℕ) (whens : List TestedBranch) (last : List Cell) → length list ≤ i → last ≡ []
      → before sh whens (branches_code (branches_of (drop i list))) ≡ total → before sh whens last ≡ total
  branches_past total list i whens last past none whole =
      ap (λ cells. before sh whens cells) none ∙ ap (λ bs. before sh whens (branches_code (branches_of bs))) (sym (drop_all i list past)) ∙ whole
