-- Values under their names, and in pairs.
use Rattle.std.proofs.Common.{◌≡◌, ◌<◌, ◌≤◌, ◌-◌, ℕ, List, [], ◌∷◌, ◌++◌, length, get_or, take, drop, map, reverse, Result, Ok, refl, sym, ap, ◌∙◌, arith}
use Rattle.std.proofs.lemmas.List.{map-append, reverse-append, take_all}
use Rattle.el_coercion.specs.Text.{text_of}
use Rattle.jstl_functions.specs.Functions.{and_then}
use Rattle.page_meaning.specs.Expressions.{record_onto}
use Rattle.page_table.specs.Operations.{pairs_in}
use Rattle.pg_value.specs.Attrs.{of_entries, with_entries, with_entry}
use Rattle.pg_value.specs.Datum.{Datum}
use Rattle.pg_value.specs.Value.{datum_of, entry_of}
use Rattle.pg_value.specs.declared.fault.RunFault.{RunFault}
use Rattle.pg_value.specs.declared.value.Value.{Value}
use Rattle.scopes.specs.Scopes.{Entries}

pub map-reverse : {A B : Type 0} (f : A → B) (xs : List A) → map f (reverse xs) ≡ reverse (map f xs)
map-reverse f [] = refl
map-reverse f (x ∷ xs) = ap (map f) (reverse-append (x ∷ []) xs) ∙ map-append f (reverse xs) (x ∷ []) ∙ ap (λ rest. rest ++ f x ∷ []) (map-reverse f xs) ∙ sym (reverse-append (f x ∷ []) (map f xs))

-- fewer values than two make no pair
pub short_pairs : (values : List Value) → length values < 2 → pairs_in (map datum_of values) ≡ []
short_pairs [] h = refl
short_pairs (v ∷ []) h = refl
short_pairs (v ∷ w ∷ rest) h = absurd (omega (arith, h))

onto_more : (done es : Entries) (e : List ℕ × Datum) → with_entries done (es ++ e ∷ []) ≡ with_entry (with_entries done es) e.0 e.1
onto_more done [] e = refl
onto_more done (first ∷ es) e = onto_more (with_entry done first.0 first.1) es e

-- one more entry
entries_more : (es : List (List ℕ × Value)) (e : List ℕ × Value) → of_entries (map entry_of (es ++ e ∷ [])) ≡ with_entry (of_entries (map entry_of es)) e.0 (datum_of e.1)
entries_more es e = ap of_entries (map-append entry_of es (e ∷ [])) ∙ onto_more [] (map entry_of es) (entry_of e)

-- one more pair
pub record_more : (entries more : List (List ℕ × Value)) (pairs : List Value) (key value copy : Value) (name : List ℕ) (all : Result Entries RunFault)
    → 2 ≤ length pairs → key ≡ get_or pairs 0 key → value ≡ get_or pairs 1 value → copy ≡ value → text_of (datum_of key) ≡ Ok name → more ≡ entries ++ (name, copy) ∷ []
    → record_onto (of_entries (map entry_of entries)) (pairs_in (map datum_of pairs)) ≡ all
    → record_onto (of_entries (map entry_of more)) (pairs_in (map datum_of (take (length pairs - 2) (drop 2 pairs)))) ≡ all
record_more entries more [] key value copy name all two first second same told put so_far = absurd (omega (arith, two))
record_more entries more (k ∷ []) key value copy name all two first second same told put so_far = absurd (omega (arith, two))
record_more entries more (k ∷ v ∷ rest) key value copy name all two first second same told put so_far =
    ap (λ vs. record_onto (of_entries (map entry_of more)) (pairs_in (map datum_of vs))) (take_all (length (k ∷ v ∷ rest) - 2) rest (omega arith))
    ∙ ap (λ es. record_onto (of_entries (map entry_of es)) left) put
    ∙ ap (λ es. record_onto es left) (entries_more entries (name, copy))
    ∙ ap (λ d. record_onto (with_entry made name d) left) (ap datum_of (same ∙ second))
    ∙ sym (ap (λ r. and_then r (λ n. record_onto (with_entry made n (datum_of v)) left)) (ap (λ x. text_of (datum_of x)) (sym first) ∙ told))
    ∙ so_far
  where
    made : Entries
    made = of_entries (map entry_of entries)

    left : List (Datum × Datum)
    left = pairs_in (map datum_of rest)
