-- Names among others, those that are put twice, and those that are taken out.
use Rattle.std.proofs.Common.{◌≡◌, ℕ, Bool, true, false, not, List, [], ◌∷◌, ◌++◌, refl, ap, if◌then◌else◌}
use Rattle.std.specs.List.{All, AllByRecursion, filter}
use Rattle.std.specs.List.Sorted.{IsStrictlySortedBy}
use Rattle.std.specs.Ordering.{match_ordering}
use Rattle.std.specs.Str.{bytes_eq}
use Rattle.std.specs.declared.cmp.Ordering.{Ordering}
use Rattle.std.specs.declared.cmp.Ordering.TheVariants.{Less, Equal, Greater}
use Rattle.std.proofs.lemmas.Cmp.{nat_list_cmp_total, tied_itself}
use Rattle.std.proofs.lemmas.List.Elements.{All-head, All-tail}
use Rattle.pg_text.specs.Names.{AreInOrder, with_name, without_name}
use Rattle.pg_text.specs.Order.{path_cmp}
use Rattle.pg_text.proofs.OrderLemmas.{above_from_below, below_from_above}

-- a name goes behind those that are lower,
pub with_lower : (name : List ℕ) (lower names : List (List ℕ)) → All (λ n. path_cmp n name ≡ Less) lower → with_name name (lower ++ names) ≡ lower ++ with_name name names
with_lower name [] names below = refl
with_lower name (n ∷ lower) names below =
    rw (above_from_below n name (All-head (λ n. path_cmp n name ≡ Less) n lower below)) (ap (λ l. n ∷ l) (with_lower name lower names (All-tail (λ n. path_cmp n name ≡ Less) n lower below)))

-- and before those that are higher
pub with_higher : (name : List ℕ) (higher : List (List ℕ)) → All (λ n. path_cmp n name ≡ Greater) higher → with_name name higher ≡ name ∷ higher
with_higher name [] above = refl
with_higher name (n ∷ higher) above = rw (below_from_above n name (All-head (λ n. path_cmp n name ≡ Greater) n higher above)) refl

-- a name that is put twice stands there once
pub put_twice : (name : List ℕ) (names : List (List ℕ)) → with_name name (with_name name names) ≡ with_name name names
put_twice name [] = rw (tied_itself nat_list_cmp_total name) refl
put_twice name (n ∷ names) = go (path_cmp name n) refl (put_twice name names)
  where
    go : (o : Ordering) → path_cmp name n ≡ o → with_name name (with_name name names) ≡ with_name name names
        → with_name name (match_ordering o (name ∷ n ∷ names) (n ∷ names) (n ∷ with_name name names)) ≡ match_ordering o (name ∷ n ∷ names) (n ∷ names) (n ∷ with_name name names)
    go Less is more = rw (tied_itself nat_list_cmp_total name) refl
    go Equal is more = rw is refl
    go Greater is more = rw is (ap (λ l. n ∷ l) more)

-- what is below all names is below those that are left
below_left : (k : List ℕ) (p : List ℕ → Bool) (names : List (List ℕ)) → AllByRecursion (λ n. path_cmp k n ≡ Less) names → AllByRecursion (λ n. path_cmp k n ≡ Less) (filter p names)
below_left k p [] all = tt
below_left k p (n ∷ names) all = go (p n) (below_left k p names all.1)
  where
    go : (b : Bool) → AllByRecursion (λ n. path_cmp k n ≡ Less) (filter p names) → AllByRecursion (λ n. path_cmp k n ≡ Less) (if b then n ∷ filter p names else filter p names)
    go true more = (all.0, more)
    go false more = more

-- names of which some are left are in order
pub order_left : (p : List ℕ → Bool) (names : List (List ℕ)) → AreInOrder names → AreInOrder (filter p names)
unfolding IsStrictlySortedBy
order_left p [] sorted = tt
order_left p (n ∷ names) sorted = go (p n) (order_left p names sorted.1)
  where
    go : (b : Bool) → AreInOrder (filter p names) → AreInOrder (if b then n ∷ filter p names else filter p names)
    go true more = (below_left n p names sorted.0, more)
    go false more = more

-- names that are left are in order
pub order_without_name : (name : List ℕ) (names : List (List ℕ)) → AreInOrder names → AreInOrder (without_name name names)
order_without_name name names sorted = order_left (λ n. not (bytes_eq n name)) names sorted
