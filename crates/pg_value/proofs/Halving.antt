-- What a search by halving finds among the entries of a record.
use Rattle.std.proofs.Common.{◌≡◌, ◌<◌, ℕ, List, [], ◌∷◌, length, get_or, map, Some, None, Result, Ok, Err, Less, Equal, Greater, true, refl, sym, ap, ◌∙◌, subst, arith}
use Rattle.std.specs.declared.cmp.Ordering.{Ordering}
use Rattle.std.specs.Cmp.Lexicographic.{nat_list_cmp_total}
use Rattle.std.specs.List.{AllByRecursion}
use Rattle.std.specs.List.Sorted.{IsStrictlySortedBy, IsBinarySearchResult, IsSearchInRange}
use Rattle.std.specs.Map.{keys_of}
use Rattle.std.specs.Ordering.{is_eq, match_ordering}
use Rattle.std.specs.Str.{bytes_eq}
use Rattle.std.proofs.lemmas.List.{get_or_default}
use Rattle.std.proofs.lemmas.Map.Text.{is_eq-slice_cmp}
use Rattle.std.proofs.lemmas.Slice.Eq.{bytes_eq-Decides}
use Rattle.pg_text.specs.Names.{next_place}
use Rattle.pg_text.proofs.Halving.{by_order, order}
use Rattle.pg_text.proofs.Halving as names
use Rattle.pg_text.proofs.NameOrder.{before_ok, before_err}
use Rattle.pg_value.specs.Attrs.{AreInOrder, place_of, entry_at}
use Rattle.pg_value.specs.Value.{datum_of, entry_of}
use Rattle.pg_value.specs.declared.value.Value.{Value}
use Rattle.pg_value.specs.declared.value.Value.TheVariants.{Null}

abbrev Entry : Type 0
Entry = List ℕ × Value

keys-entry_of : (es : List Entry) → keys_of (map entry_of es) ≡ map (λ e. e.0) es
keys-entry_of [] = refl
keys-entry_of (e ∷ es) = ap (λ keys. e.0 ∷ keys) (keys-entry_of es)

pub searched : (key : List ℕ) (es : List Entry) (r : Result ℕ ℕ) → AreInOrder (map entry_of es) → IsSearchInRange r (length es) → IsBinarySearchResult (λ e. order e.0 key) es r → r ≡ place_of key es
searched key es r sorted within found = names.searched (λ e. e.0) (key, Null) key es r (subst (IsStrictlySortedBy order) (keys-entry_of es) sorted) within found

equal_by : (o : Ordering) → is_eq o ≡ true → o ≡ Equal
equal_by Less h = cc
equal_by Equal h = refl
equal_by Greater h = cc

equal_order : (key other : List ℕ) → bytes_eq key other ≡ true → order other key ≡ Equal
equal_order key other met =
    let same : other ≡ key = sym ((bytes_eq-Decides key other).0 met) in
    equal_by (order other key) (is_eq-slice_cmp other key ∙ (bytes_eq-Decides other key).1 same)

-- a key that was met is found there
pub met_at : (key : List ℕ) (es : List Entry) (i : ℕ) (e : Entry) → AreInOrder (map entry_of es) → i < length es → bytes_eq key (get_or es i e).0 ≡ true → place_of key es ≡ Ok i
met_at key es i e sorted within met =
    sym (searched key es (Ok i) sorted within (λ d. equal_order key (get_or es i d).0 (ap (λ x. bytes_eq key x.0) (get_or_default es i d e within) ∙ met)))

found_by : (o : Ordering) (key : List ℕ) (e : Entry) (es : List Entry) (i : ℕ) (d : Entry) → order key e.0 ≡ o
    → ((j : ℕ) → place_of key es ≡ Ok j → entry_at key (map entry_of es) ≡ Some (datum_of (get_or es j d).1))
    → match_ordering o (Err 0) (Ok 0) (next_place (place_of key es)) ≡ Ok i → entry_at key (map entry_of (e ∷ es)) ≡ Some (datum_of (get_or (e ∷ es) i d).1)
found_by Less key e es i d is later h = cc
found_by Equal key e es i d is later h =
    let here : 0 ≡ i = cc in
    rw (by_order Equal key e.0 is) (ap (λ n. Some (datum_of (get_or (e ∷ es) n d).1)) here)
found_by Greater key e es i d is later h =
    let before = before_ok (place_of key es) i h in
    rw (by_order Greater key e.0 is) (later before.0 before.1 ∙ ap (λ n. Some (datum_of (get_or (e ∷ es) n d).1)) before.2)

-- what stands under a key that was found
pub found_at : (key : List ℕ) (es : List Entry) (i : ℕ) (d : Entry) → place_of key es ≡ Ok i → entry_at key (map entry_of es) ≡ Some (datum_of (get_or es i d).1)
found_at key [] i d h = cc
found_at key (e ∷ es) i d h = found_by (order key e.0) key e es i d refl (λ j next. found_at key es j d next) h

pub within : (key : List ℕ) (es : List Entry) (i : ℕ) → place_of key es ≡ Ok i → i < length es
within key [] i h = cc
within key (e ∷ es) i h = within_by (order key e.0) key e es i (λ j next. within key es j next) h
  where
    within_by : (o : Ordering) (key : List ℕ) (e : Entry) (es : List Entry) (i : ℕ) → ((j : ℕ) → place_of key es ≡ Ok j → j < length es)
        → match_ordering o (Err 0) (Ok 0) (next_place (place_of key es)) ≡ Ok i → i < length (e ∷ es)
    within_by Less key e es i later h = cc
    within_by Equal key e es i later h = let here : 0 ≡ i = cc in omega arith
    within_by Greater key e es i later h =
        let before = before_ok (place_of key es) i h in
        omega (arith, later before.0 before.1, before.2)

-- above all keys, or below them all
below_all : (key l : List ℕ) (es : List Entry) → order key l ≡ Less → AllByRecursion (λ m. order l m ≡ Less) (keys_of (map entry_of es)) → entry_at key (map entry_of es) ≡ None
below_all key l [] h all = refl
below_all key l (e ∷ es) h all = rw (by_order Less key e.0 (nat_list_cmp_total.trans key l e.0 h all.0)) (below_all key l es h all.1)

missing_by : (o : Ordering) (key : List ℕ) (e : Entry) (es : List Entry) (i : ℕ) → order key e.0 ≡ o
    → AllByRecursion (λ m. order e.0 m ≡ Less) (keys_of (map entry_of es))
    → ((j : ℕ) → place_of key es ≡ Err j → entry_at key (map entry_of es) ≡ None)
    → match_ordering o (Err 0) (Ok 0) (next_place (place_of key es)) ≡ Err i → entry_at key (map entry_of (e ∷ es)) ≡ None
missing_by Less key e es i is all later h = rw (by_order Less key e.0 is) (below_all key e.0 es is all)
missing_by Equal key e es i is all later h = cc
missing_by Greater key e es i is all later h =
    let before = before_err (place_of key es) i h in
    rw (by_order Greater key e.0 is) (later before.0 before.1)

-- nothing stands under a key that was not found
pub missing_at : (key : List ℕ) (es : List Entry) (i : ℕ) → AreInOrder (map entry_of es) → place_of key es ≡ Err i → entry_at key (map entry_of es) ≡ None
unfolding IsStrictlySortedBy
missing_at key [] i sorted h = refl
missing_at key (e ∷ es) i sorted h = missing_by (order key e.0) key e es i refl sorted.0 (λ j next. missing_at key es j sorted.1 next) h
