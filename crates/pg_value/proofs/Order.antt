-- Entries in order, and what keeps them so.
use Rattle.std.proofs.Common.{◌≡◌, ℕ, List, [], ◌∷◌, map, filter, Result, Ok, Err, OnOk, OnErr, not, Bool, true, false, Less, Equal, Greater, cond, refl, sym, ap, ◌∙◌, subst}
use Rattle.std.specs.declared.cmp.Ordering.{Ordering}
use Rattle.std.specs.Cmp.Lexicographic.{slice_cmp, nat_list_cmp_total}
use Rattle.std.specs.List.{AllByRecursion}
use Rattle.std.specs.List.Sorted.{IsStrictlySortedBy}
use Rattle.std.specs.Map.{keys_of}
use Rattle.std.specs.Ordering.{nat_cmp, match_ordering, ordering_reverse}
use Rattle.std.specs.Str.{bytes_eq}
use Rattle.std.proofs.lemmas.List.Kept.{IsStrictlySortedBy-filter}
use Rattle.pg_value.specs.Attrs.{AreInOrder, with_entry, without_entry}
use Rattle.pg_value.specs.Datum.{Datum}
use Rattle.pg_value.specs.Value.{entry_of}
use Rattle.pg_value.specs.declared.value.Value.{Value}

pub AreInOrder-none : AreInOrder []
unfolding IsStrictlySortedBy
AreInOrder-none = tt

-- the order of keys
abbrev order : List ℕ → List ℕ → Ordering
order = slice_cmp nat_cmp

abbrev Entries : Type 0
Entries = List (List ℕ × Datum)

-- what is above a key is above a lower one
pub above_lower : (k l : List ℕ) (keys : List (List ℕ)) → order k l ≡ Less → AllByRecursion (λ m. order l m ≡ Less) keys → AllByRecursion (λ m. order k m ≡ Less) keys
above_lower k l [] below above = tt
above_lower k l (m ∷ keys) below above = (nat_list_cmp_total.trans k l m below above.0, above_lower k l keys below above.1)

above_by : (o : Ordering) (k l : List ℕ) (d : Datum) (e : List ℕ × Datum) (es : Entries)
    → order l k ≡ Less → order l e.0 ≡ Less → AllByRecursion (λ m. order l m ≡ Less) (keys_of es) → AllByRecursion (λ m. order l m ≡ Less) (keys_of (with_entry es k d))
    → AllByRecursion (λ m. order l m ≡ Less) (keys_of (match_ordering o ((k, d) ∷ e ∷ es) ((e.0, d) ∷ es) (e ∷ with_entry es k d)))
above_by Less k l d e es new first rest later = (new, (first, rest))
above_by Equal k l d e es new first rest later = (first, rest)
above_by Greater k l d e es new first rest later = (first, later)

-- where all keys are above one, they still are with another key above it
above_with : (k l : List ℕ) (d : Datum) (es : Entries) → order l k ≡ Less → AllByRecursion (λ m. order l m ≡ Less) (keys_of es) → AllByRecursion (λ m. order l m ≡ Less) (keys_of (with_entry es k d))
above_with k l d [] new above = (new, tt)
above_with k l d (e ∷ es) new above = above_by (order k e.0) k l d e es new above.0 above.1 (above_with k l d es new above.1)

sorted_by : (o : Ordering) (k : List ℕ) (d : Datum) (e : List ℕ × Datum) (es : Entries) → order k e.0 ≡ o
    → AllByRecursion (λ m. order e.0 m ≡ Less) (keys_of es) → IsStrictlySortedBy order (keys_of es) → IsStrictlySortedBy order (keys_of (with_entry es k d))
    → IsStrictlySortedBy order (keys_of (match_ordering o ((k, d) ∷ e ∷ es) ((e.0, d) ∷ es) (e ∷ with_entry es k d)))
unfolding IsStrictlySortedBy
sorted_by Less k d e es h above sorted later = ((h, above_lower k e.0 (keys_of es) h above), (above, sorted))
sorted_by Equal k d e es h above sorted later = (above, sorted)
sorted_by Greater k d e es h above sorted later = (above_with k e.0 d es (nat_list_cmp_total.antisymm e.0 k ∙ ap ordering_reverse h) above, later)

pub AreInOrder-with_entry : (es : Entries) (k : List ℕ) (d : Datum) → AreInOrder es → AreInOrder (with_entry es k d)
unfolding IsStrictlySortedBy
AreInOrder-with_entry [] k d h = (tt, tt)
AreInOrder-with_entry (e ∷ es) k d h = sorted_by (order k e.0) k d e es refl h.0 h.1 (AreInOrder-with_entry es k d h.1)

keys_by : (test : Bool) (k : List ℕ) (e : List ℕ × Datum) (es : Entries) → keys_of (without_entry es k) ≡ filter (λ l. not (bytes_eq k l)) (keys_of es)
    → keys_of (cond test (e ∷ without_entry es k) (without_entry es k)) ≡ cond test (e.0 ∷ filter (λ l. not (bytes_eq k l)) (keys_of es)) (filter (λ l. not (bytes_eq k l)) (keys_of es))
keys_by true k e es h = ap (λ keys. e.0 ∷ keys) h
keys_by false k e es h = h

keys_of-without_entry : (es : Entries) (k : List ℕ) → keys_of (without_entry es k) ≡ filter (λ l. not (bytes_eq k l)) (keys_of es)
keys_of-without_entry [] k = refl
keys_of-without_entry (e ∷ es) k = keys_by (not (bytes_eq k e.0)) k e es (keys_of-without_entry es k)

pub AreInOrder-without_entry : (es : Entries) (k : List ℕ) → AreInOrder es → AreInOrder (without_entry es k)
AreInOrder-without_entry es k h =
    subst (IsStrictlySortedBy order) (sym (keys_of-without_entry es k)) (IsStrictlySortedBy-filter order (λ l. not (bytes_eq k l)) (keys_of es) h)

-- what a `put` leaves is in order, whether or not it failed
pub AreInOrder-put : {T E : Type 0} (r : Result T E) (old new : List (List ℕ × Value)) (k : List ℕ) (d : Datum)
    → OnOk r (map entry_of new ≡ with_entry (map entry_of old) k d) → OnErr r (new ≡ old) → AreInOrder (map entry_of old) → AreInOrder (map entry_of new)
AreInOrder-put (Ok x) old new k d ok err h = subst AreInOrder (sym ok) (AreInOrder-with_entry (map entry_of old) k d h)
AreInOrder-put (Err e) old new k d ok err h = subst (λ es. AreInOrder (map entry_of es)) (sym err) h

entries_by : (test : Bool) (e : List ℕ × Value) (more : List (List ℕ × Value)) (kept : Entries) → map entry_of more ≡ kept
    → map entry_of (cond test (e ∷ more) more) ≡ cond test (entry_of e ∷ kept) kept
entries_by true e more kept h = ap (λ es. entry_of e ∷ es) h
entries_by false e more kept h = h

-- values are kept as their data are
pub without_entry-entry_of : (es : List (List ℕ × Value)) (k : List ℕ) → map entry_of (filter (λ e. not (bytes_eq k e.0)) es) ≡ without_entry (map entry_of es) k
without_entry-entry_of [] k = refl
without_entry-entry_of (e ∷ es) k =
    entries_by (not (bytes_eq k e.0)) e (filter (λ e. not (bytes_eq k e.0)) es) (without_entry (map entry_of es) k) (without_entry-entry_of es k)
