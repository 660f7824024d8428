-- Lists, maps and calls, from the codes of what stands in them.
use Rattle.std.proofs.Common.{◌≡◌, ℕ, List, ◌++◌, length, map, Option, Some, None, refl, sym, ap, ◌∙◌}
use Rattle.el_reader.specs.El.{pair_of, tree_of}
use Rattle.el_reader.specs.Tree.{Pairs, Trees, pairs_of, trees_of}
use Rattle.el_reader.specs.declared.el.El.{El}
use Rattle.code_expressions.specs.Calls.{call_code}
use Rattle.page_code.specs.declared.code.Cell.{Cell}
use Rattle.page_code.specs.declared.op.Op.TheVariants as op
use Rattle.page_code.specs.declared.shape.Shape.{Shape}
use Rattle.code_forms.specs.Codes.{form_code}
use Rattle.code_forms.specs.Forms.{does}
use Rattle.code_lowering.specs.Expressions.{call_form, pair_count, pairs_form, tree_count, trees_form}
use Rattle.pg_text.specs.declared.place.Place.{Place}
use Rattle.pg_value.specs.declared.function.Function.{Function}
use Rattle.code_expressions.proofs.ListLemmas.{pairs_code, pair_count_is, tree_count_is, trees_code}

module _ (sh : Shape) (place : Place) where
  -- the code of a list of so many values
  abbrev pub list_code : ℕ → List Cell → List Cell
  list_code n values = values ++ form_code sh (does (op.MakeList n) place)

  -- the code of a map of so many entries
  abbrev pub map_code : ℕ → List Cell → List Cell
  map_code n values = values ++ form_code sh (does (op.MakeMap n) place)

  called_is : (found : Option Function) (ts : Trees) → call_code sh place found (tree_count ts) (form_code sh (trees_form place ts)) ≡ form_code sh (call_form place found (tree_count ts) (trees_form place ts))
  called_is (Some f) ts = refl
  called_is None ts = refl

  pub list_is : (ts : Trees) (items : List El) (n : ℕ) (values : List Cell) → ts ≡ trees_of (map tree_of items) → n ≡ length items → values ≡ trees_code sh place items
      → list_code n values ≡ list_code (tree_count ts) (form_code sh (trees_form place ts))
  list_is ts items n values is count valued =
      ap (λ vs. list_code n vs) valued ∙ ap (λ m. list_code m (trees_code sh place items)) (count ∙ sym (tree_count_is items))
      ∙ ap (λ (t : Trees). list_code (tree_count t) (form_code sh (trees_form place t))) (sym is)

  pub map_is : (ps : Pairs) (pairs : List (El × El)) (n : ℕ) (values : List Cell) → ps ≡ pairs_of (map pair_of pairs) → n ≡ length pairs → values ≡ pairs_code sh place pairs
      → map_code n values ≡ map_code (pair_count ps) (form_code sh (pairs_form place ps))
  map_is ps pairs n values is count valued =
      ap (λ vs. map_code n vs) valued ∙ ap (λ m. map_code m (pairs_code sh place pairs)) (count ∙ sym (pair_count_is pairs))
      ∙ ap (λ (p : Pairs). map_code (pair_count p) (form_code sh (pairs_form place p))) (sym is)

  pub call_is : (found : Option Function) (ts : Trees) (items : List El) (n : ℕ) (arguments : List Cell) → ts ≡ trees_of (map tree_of items) → n ≡ length items
      → arguments ≡ trees_code sh place items
      → call_code sh place found n arguments ≡ form_code sh (call_form place found (tree_count ts) (trees_form place ts))
  call_is found ts items n arguments is count valued =
      ap (λ vs. call_code sh place found n vs) valued
      ∙ ap (λ m. call_code sh place found m (trees_code sh place items)) (count ∙ sym (tree_count_is items))
      ∙ ap (λ (t : Trees). call_code sh place found (tree_count t) (form_code sh (trees_form place t))) (sym is)
      ∙ called_is found ts
