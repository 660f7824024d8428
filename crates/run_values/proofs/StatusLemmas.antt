-- The entries of a status are in order, and of those of one round those of another round of the same loop are made.
use Rattle.std.proofs.Common.{◌≡◌, ℕ, zero, suc, pos, List, [], ◌∷◌, get_or, length, map, Option, Some, Result, Ok, Err, IfOk, refl, sym, ap, ◌∙◌, subst}
use Rattle.std.specs.Prelude.{◌==◌, slice_get, unwrap_or}
use Rattle.page_meaning.specs.Attributes.{Values}
use Rattle.page_meaning.specs.Rounds.{Round}
use Rattle.pg_value.proofs.Gathered.{AreInOrder-of_entries}
use Rattle.pg_value.proofs.Placed.{length-with_value_at}
use Rattle.pg_value.specs.Attrs.{AreInOrder, with_value_at}
use Rattle.pg_value.specs.Datum.{Datum, number, truth}
use Rattle.pg_value.specs.Value.{datum_of, entry_of}
use Rattle.pg_value.specs.declared.value.Value.{Value}
use Rattle.run_values.specs.Rounds.{IfStatusOf, IsStatusOf, status_entries}
use Rattle.scopes.specs.Scopes.{Entries}

pub status_in_order : (es : Entries) (vs : Values) (r : Round) (current : Datum) → es ≡ status_entries vs r current → AreInOrder es
status_in_order es vs r current is = subst AreInOrder (sym is) (AreInOrder-of_entries (status_entries vs r current))

-- how many entries there are
pub status_length : (vs es : Values) → IsStatusOf vs es → length es ≡ 8
status_length vs es h = ap length h.is

pub kept_length : (es new : Values) (at : ℕ) (d : Datum) → new ≡ with_value_at es at d → length es ≡ 8 → length new ≡ 8
kept_length es new at d is h = ap length is ∙ length-with_value_at es at d ∙ h

-- a value that stands at a place already
pub stands : (es : Values) (at : ℕ) (e : List ℕ × Datum) (d : Datum) → Some e ≡ slice_get es at → e.1 ≡ d → es ≡ with_value_at es at d
stands [] at e d got is = refl
stands (x ∷ es) zero e d got is =
    let same : e ≡ x = ap (λ o. unwrap_or o e) got in
    ap (λ v. (x.0, v) ∷ es) (ap (λ y. y.1) (sym same) ∙ is)
stands (x ∷ es) (suc at) e d got is = ap (λ more. x ∷ more) (stands es at e d got is)

-- with what tells a round apart put in its places
abbrev with_round : Values → Round → Datum → Values
with_round es r current =
    with_value_at (with_value_at (with_value_at (with_value_at (with_value_at es 1 (number (pos r.count))) 2 current) 4 (truth (r.count == 1))) 5 (number (pos r.index))) 6 (truth r.is_last)

-- which is done one after the other
pub set_round : (vs : Values) (r : Round) (current n i : Datum) (e0 e1 e2 e3 e4 e5 : Values) → IsStatusOf vs e0 → n ≡ number (pos r.count) → i ≡ number (pos r.index) → e1 ≡ with_value_at e0 1 n
    → e2 ≡ with_value_at e1 2 current → e3 ≡ with_value_at e2 4 (truth (r.count == 1)) → e4 ≡ with_value_at e3 5 i → e5 ≡ with_value_at e4 6 (truth r.is_last) → e5 ≡ status_entries vs r current
set_round vs r current n i e0 e1 e2 e3 e4 e5 h is_n is_i h1 h2 h3 h4 h5 =
    h5
    ∙ ap (λ es. with_value_at es 6 (truth r.is_last)) (h4 ∙ ap (with_value_at e3 5) is_i)
    ∙ ap (λ es. with_value_at (with_value_at es 5 (number (pos r.index))) 6 (truth r.is_last)) h3
    ∙ ap (λ es. with_value_at (with_value_at (with_value_at es 4 (truth (r.count == 1))) 5 (number (pos r.index))) 6 (truth r.is_last)) h2
    ∙ ap (λ es. with_value_at (with_value_at (with_value_at (with_value_at es 2 current) 4 (truth (r.count == 1))) 5 (number (pos r.index))) 6 (truth r.is_last)) (h1 ∙ ap (with_value_at e0 1) is_n)
    ∙ ap (λ es. with_round es r current) h.is

-- what is true of these entries is true of the record that is made of them
pub if_made : {E : Type 0} (made : Result Values E) (es : Values) (P : Values → Type 0) → IfOk made (λ m. m ≡ es) → P es → IfOk made P
if_made (Ok m) es P is h = subst P (sym is) h
if_made (Err e) es P is h = tt

-- entries that are there are a status
pub there : (vs : Values) (o : Option Values) (es : Values) → o ≡ Some es → IfStatusOf vs o → IsStatusOf vs es
there vs o es is h = subst (IfStatusOf vs) is h
