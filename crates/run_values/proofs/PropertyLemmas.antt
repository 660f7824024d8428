-- The property of a record by what stands under its name.
use Rattle.std.proofs.Common.{◌≡◌, subst, ℕ, ◌+◌, List, [], ◌∷◌, ◌++◌, take, drop, Some, None, Result, Ok, Err, refl, sym, ap, ◌∙◌}
use Rattle.std.specs.Prelude.{IsErrAnd}
use Rattle.std.proofs.lemmas.List.{take-append-drop, drop-drop}
use Rattle.el_ops.specs.Operands.{answered}
use Rattle.jstl_functions.specs.Functions.{and_then, measured}
use Rattle.run_values.specs.Properties.{Found, changed_all, changed_one, one_changed, property_found}
use Rattle.page_meaning.specs.Attributes.{coerced}
use Rattle.page_meaning.specs.Beans.{all_by_parameters, by_parameter, filled, like, property_of}
use Rattle.page_meaning.specs.Core.{property_replaced, with_property}
use Rattle.pg_text.specs.Failure.{AnswersAs}
use Rattle.pg_text.specs.declared.failure.Failure.{Failure}
use Rattle.pg_text.specs.declared.failure.Failure.TheVariants as failure
use Rattle.pg_value.proofs.Inverses.{entry_list-entries_of}
use Rattle.pg_value.specs.Attrs.{entry_at, with_entry}
use Rattle.pg_value.specs.Datum.{Datum, Entries, rec, entry_list, entries_of}
use Rattle.pg_value.specs.Value.{datum_of}
use Rattle.pg_value.specs.declared.scope.Scope.{Scope}
use Rattle.pg_value.specs.declared.value.Value.{Value}
use Rattle.pg_value.specs.declared.value.Value.TheVariants as variant
use Rattle.pg_value.specs.declared.fault.RunFault.{RunFault}
use Rattle.pg_value.specs.declared.fault.RunFault.TheVariants as fault

there : (name : List ℕ) (es : Entries) (d : Datum) → entry_at name (entry_list es) ≡ Some d → property_of name (rec es) ≡ Ok d
there name es d h = rw h refl

absent : (name : List ℕ) (es : Entries) → entry_at name (entry_list es) ≡ None → property_of name (rec es) ≡ Err fault.NoProperty
absent name es h = rw h refl

pub property_there : (name : List ℕ) (es : List (List ℕ × Datum)) (d : Datum) → entry_at name es ≡ Some d → property_of name (rec (entries_of es)) ≡ Ok d
property_there name es d h = there name (entries_of es) d (ap (entry_at name) (entry_list-entries_of es) ∙ h)

pub property_absent : (name : List ℕ) (es : List (List ℕ × Datum)) → entry_at name es ≡ None → property_of name (rec (entries_of es)) ≡ Err fault.NoProperty
property_absent name es h = absent name (entries_of es) (ap (entry_at name) (entry_list-entries_of es) ∙ h)

pub ruleset properties = (property_there, property_absent)

-- a property that was found
abbrev found_at : Scope → List (List ℕ × Datum) → Datum → Found
found_at sc x o = record { scope = sc; entries = x; old = o }

-- what is made of a record
module _ (v : Value) (es : List (List ℕ × Datum)) (is : v ≡ variant.Rec es) where
  pub changed_all_is : (params : List (List ℕ × Datum)) → changed_all params (datum_of v) ≡ all_by_parameters params es es
  changed_all_is params = ap (λ x. changed_all params (datum_of x)) is ∙ ap (λ x. all_by_parameters params x x) (entry_list-entries_of es)

  pub changed_one_is : (params : List (List ℕ × Datum)) (property parameter : List ℕ) (old d new : Datum) → property_of property (datum_of v) ≡ Ok old → filled (entry_at parameter params) ≡ Some d
      → coerced (like old) d ≡ Ok new → changed_one params property parameter (datum_of v) ≡ Ok (Some (with_entry es property new))
  changed_one_is params property parameter old d new p f c =
      ap (λ x. changed_one params property parameter (datum_of x)) is
      ∙ ap (λ r. and_then r (λ o. one_changed (entry_list (entries_of es)) property o (filled (entry_at parameter params)))) (sym (ap (λ x. property_of property (datum_of x)) is) ∙ p)
      ∙ ap (one_changed (entry_list (entries_of es)) property old) f ∙ ap (answered (λ n. Some (with_entry (entry_list (entries_of es)) property n))) c
      ∙ ap (λ x. Ok (Some (with_entry x property new))) (entry_list-entries_of es)

  pub property_found_is : (property : List ℕ) (sc : Scope) (old : Datum) → property_of property (datum_of v) ≡ Ok old
      → property_found property sc (datum_of v) ≡ Ok (record { scope = sc; entries = es; old = old })
  property_found_is property sc old p =
      ap (λ x. property_found property sc (datum_of x)) is
      ∙ ap (answered (λ o. found_at sc (entry_list (entries_of es)) o)) (sym (ap (λ x. property_of property (datum_of x)) is) ∙ p)
      ∙ ap (λ x. Ok (found_at sc x old)) (entry_list-entries_of es)

  pub property_replaced_is : (name : List ℕ) (d : Datum) → property_replaced name d (datum_of v) ≡ measured (rec (entries_of (with_property name d es)))
  property_replaced_is name d = ap (λ x. property_replaced name d (datum_of x)) is ∙ ap (λ x. measured (rec (entries_of (with_property name d x)))) (entry_list-entries_of es)

-- properties set in two parts
pub by_parts : (params xs ys onto : List (List ℕ × Datum)) → all_by_parameters params (xs ++ ys) onto ≡ and_then (all_by_parameters params xs onto) (λ o. all_by_parameters params ys o)
by_parts params [] ys onto = refl
by_parts params (p ∷ xs) ys onto = go (by_parameter params p) (λ d. by_parts params xs ys (with_entry onto p.0 d))
  where
    go : (r : Result Datum RunFault)
        → ((d : Datum) → all_by_parameters params (xs ++ ys) (with_entry onto p.0 d) ≡ and_then (all_by_parameters params xs (with_entry onto p.0 d)) (λ o. all_by_parameters params ys o))
        → and_then r (λ d. all_by_parameters params (xs ++ ys) (with_entry onto p.0 d)) ≡ and_then (and_then r (λ d. all_by_parameters params xs (with_entry onto p.0 d))) (λ o. all_by_parameters params ys o)
    go (Ok d) rest = rest d
    go (Err f) rest = refl

module _ (params es onto next : List (List ℕ × Datum)) (done k : ℕ) (is : next ≡ take k (drop done es)) where
  parted : all_by_parameters params (drop done es) onto ≡ and_then (all_by_parameters params next onto) (λ o. all_by_parameters params (drop k (drop done es)) o)
  parted =
      ap (λ xs. all_by_parameters params xs onto) (sym (take-append-drop k (drop done es)))
      ∙ by_parts params (take k (drop done es)) (drop k (drop done es)) onto
      ∙ ap (λ xs. and_then (all_by_parameters params xs onto) (λ o. all_by_parameters params (drop k (drop done es)) o)) (sym is)

  -- the next of them are set
  pub next_set : (new : List (List ℕ × Datum)) → all_by_parameters params next onto ≡ Ok new → all_by_parameters params (drop (done + k) es) new ≡ all_by_parameters params (drop done es) onto
  next_set new set =
      ap (λ xs. all_by_parameters params xs new) (sym (drop-drop k done es))
      ∙ sym (ap (λ r. and_then r (λ o. all_by_parameters params (drop k (drop done es)) o)) set)
      ∙ sym parted

  -- or have a fault
  pub next_fails : (f : RunFault) → all_by_parameters params next onto ≡ Err f → all_by_parameters params (drop done es) onto ≡ Err f
  next_fails f set = parted ∙ ap (λ r. and_then r (λ o. all_by_parameters params (drop k (drop done es)) o)) set

  pub next_failed : (e : Failure RunFault) → AnswersAs (λ (x : List (List ℕ × Datum)). x) (all_by_parameters params next onto) (Err e) → AnswersAs (λ (x : List (List ℕ × Datum)). x) (all_by_parameters params (drop done es) onto) (Err e)
  next_failed (failure.Fault f) answers = next_fails f answers
  next_failed failure.NoMemory answers = tt

-- what a `?` hands on
pub handed_on : (expected : Result (List (List ℕ × Datum)) RunFault) (e : Failure RunFault) (result : Result (List (List ℕ × Datum)) (Failure RunFault)) → IsErrAnd result (λ f. f ≡ e)
    → AnswersAs (λ (x : List (List ℕ × Datum)). x) expected (Err e) → AnswersAs (λ (x : List (List ℕ × Datum)). x) expected result
handed_on expected e (Ok x) is answers = absurd is
handed_on expected e (Err f) is answers = subst (λ f. AnswersAs (λ (x : List (List ℕ × Datum)). x) expected (Err f)) (sym is) answers
