-- Names in order: what one more makes of them, and where a name stands.
use Rattle.std.proofs.Common.{◌≡◌, ℕ, suc, ◌≤◌, false, ◌||◌, List, [], ◌∷◌, length, Result, Ok, Err, Less, Equal, Greater, refl, sym, ap, subst, ◌∙◌, arith}
use Rattle.std.specs.declared.cmp.Ordering.{Ordering}
use Rattle.std.specs.Cmp.Lexicographic.{nat_list_cmp_total}
use Rattle.std.specs.List.{AllByRecursion, insert}
use Rattle.std.specs.List.Sorted.{IsStrictlySortedBy}
use Rattle.std.specs.Ordering.{match_ordering}
use Rattle.std.specs.Result.{is_ok}
use Rattle.std.specs.Str.{bytes_eq}
use Rattle.pg_text.specs.Names.{AreInOrder, has_name, next_place, place_in, with_name}
use Rattle.pg_text.proofs.Halving.{by_order, order, turned}

abbrev IsBelowAll : List ℕ → List (List ℕ) → Type 0
IsBelowAll name names = AllByRecursion (λ n. order name n ≡ Less) names

-- what is below a name is below all that are above it
below_all : (k l : List ℕ) (names : List (List ℕ)) → order k l ≡ Less → IsBelowAll l names → IsBelowAll k names
below_all k l [] h all = tt
below_all k l (n ∷ names) h all = (nat_list_cmp_total.trans k l n h all.0, below_all k l names h all.1)

all_with : (k name : List ℕ) (names : List (List ℕ)) → order k name ≡ Less → IsBelowAll k names → IsBelowAll k (with_name name names)
all_with k name [] h all = (h, tt)
all_with k name (n ∷ names) h all = go (order name n) (all_with k name names h all.1)
  where
    go : (o : Ordering) → IsBelowAll k (with_name name names) → IsBelowAll k (match_ordering o (name ∷ n ∷ names) (n ∷ names) (n ∷ with_name name names))
    go Less rest = (h, all)
    go Equal rest = all
    go Greater rest = (all.0, rest)

pub order_with_name : (name : List ℕ) (names : List (List ℕ)) → AreInOrder names → AreInOrder (with_name name names)
unfolding IsStrictlySortedBy
order_with_name name [] sorted = (tt, tt)
order_with_name name (n ∷ names) sorted = go (order name n) refl (order_with_name name names sorted.1)
  where
    go : (o : Ordering) → order name n ≡ o → AreInOrder (with_name name names) → AreInOrder (match_ordering o (name ∷ n ∷ names) (n ∷ names) (n ∷ with_name name names))
    go Less is rest = ((is, below_all name n names is sorted.0), sorted)
    go Equal is rest = sorted
    go Greater is rest = (all_with n name names (turned name n Greater is) sorted.0, rest)

-- the place before
pub before_ok : (r : Result ℕ ℕ) (i : ℕ) → next_place r ≡ Ok i → (j : ℕ) × (r ≡ Ok j) × (suc j ≡ i)
before_ok (Ok j) i h = (j, refl, cc)
before_ok (Err j) i h = absurd (cc)

pub before_err : (r : Result ℕ ℕ) (i : ℕ) → next_place r ≡ Err i → (j : ℕ) × (r ≡ Err j) × (suc j ≡ i)
before_err (Ok j) i h = absurd (cc)
before_err (Err j) i h = (j, refl, cc)

-- a name that stands there changes nothing
pub stands : (name : List ℕ) (names : List (List ℕ)) (i : ℕ) → place_in name names ≡ Ok i → with_name name names ≡ names
stands name [] i h = absurd (cc)
stands name (n ∷ names) i h = go (order name n) h (λ j found. stands name names j found)
  where
    go : (o : Ordering) → match_ordering o (Err 0) (Ok 0) (next_place (place_in name names)) ≡ Ok i → ((j : ℕ) → place_in name names ≡ Ok j → with_name name names ≡ names)
        → match_ordering o (name ∷ n ∷ names) (n ∷ names) (n ∷ with_name name names) ≡ n ∷ names
    go Less h rest = absurd (cc)
    go Equal h rest = refl
    go Greater h rest = let before = before_ok (place_in name names) i h in ap (λ l. n ∷ l) (rest before.0 before.1)

-- one that doesn't is inserted at its place
pub inserts : (name : List ℕ) (names : List (List ℕ)) (i : ℕ) → place_in name names ≡ Err i → (i ≤ length names) × (insert names i name ≡ with_name name names)
inserts name [] i h = let here : 0 ≡ i = cc in subst (λ n. (n ≤ 0) × (insert [] n name ≡ name ∷ [])) here (omega arith, refl)
inserts name (n ∷ names) i h = go (order name n) h (λ j found. inserts name names j found)
  where
    go : (o : Ordering) → match_ordering o (Err 0) (Ok 0) (next_place (place_in name names)) ≡ Err i → ((j : ℕ) → place_in name names ≡ Err j → (j ≤ length names) × (insert names j name ≡ with_name name names))
        → (i ≤ length (n ∷ names)) × (insert (n ∷ names) i name ≡ match_ordering o (name ∷ n ∷ names) (n ∷ names) (n ∷ with_name name names))
    go Less h rest = let here : 0 ≡ i = cc in subst (λ m. (m ≤ length (n ∷ names)) × (insert (n ∷ names) m name ≡ name ∷ n ∷ names)) here (omega arith, refl)
    go Equal h rest = absurd (cc)
    go Greater h rest =
        let before = before_err (place_in name names) i h in
        let more = rest before.0 before.1 in
        subst (λ m. (m ≤ length (n ∷ names)) × (insert (n ∷ names) m name ≡ n ∷ with_name name names)) before.2 (omega (arith, more.0), ap (λ l. n ∷ l) more.1)

-- a name below all of them is none of them
absent : (name : List ℕ) (names : List (List ℕ)) → IsBelowAll name names → has_name name names ≡ false
absent name [] below = refl
absent name (n ∷ names) below = rw (by_order Less name n below.0) (absent name names below.1)

next_ok : (r : Result ℕ ℕ) → is_ok (next_place r) ≡ is_ok r
next_ok (Ok i) = refl
next_ok (Err i) = refl

-- a name has a place exactly where it is one of them
pub placed : (name : List ℕ) (names : List (List ℕ)) → AreInOrder names → is_ok (place_in name names) ≡ has_name name names
unfolding IsStrictlySortedBy
placed name [] sorted = refl
placed name (n ∷ names) sorted = go (order name n) refl (placed name names sorted.1)
  where
    go : (o : Ordering) → order name n ≡ o → is_ok (place_in name names) ≡ has_name name names
        → is_ok (match_ordering o (Err 0) (Ok 0) (next_place (place_in name names))) ≡ (bytes_eq name n || has_name name names)
    go Less is rest = sym (ap (λ b. b || has_name name names) (by_order Less name n is) ∙ absent name names (below_all name n names is sorted.0))
    go Equal is rest = sym (ap (λ b. b || has_name name names) (by_order Equal name n is))
    go Greater is rest = next_ok (place_in name names) ∙ rest ∙ sym (ap (λ b. b || has_name name names) (by_order Greater name n is))

pub none_in_order : AreInOrder []
unfolding IsStrictlySortedBy
none_in_order = tt
