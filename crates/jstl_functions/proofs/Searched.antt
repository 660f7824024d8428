-- A binary search finds whether a number is among others that rise.
use Rattle.std.proofs.Common.{◌≡◌, ◌==◌, ◌<◌, ◌≤◌, ℕ, Bool, List, Result, Ok, Err, false, true, get_or, refl, sym, arith}
use Rattle.std.proofs.lemmas.List.Elements.{All-from_get_or}
use Rattle.std.proofs.lemmas.List.Folds.{list_any_at, list_any_none}
use Rattle.std.proofs.lemmas.List.Sorted.{IsNonDecreasingBy-from_sort, searched}
use Rattle.std.specs.List.Sorted.{IsBinarySearchResult, IsSorted}
use Rattle.std.specs.Ordering.{nat_cmp}
use Rattle.std.specs.Result.{is_ok}
use Rattle.jstl_functions.specs.Texts.{is_one_of}
use lib.Dec.{ltb}
use borrow.Author.Tests.{eq-eqb, ltb-false, ltb-true, ne_eqb}

-- beside the place where it would stand
off_gap : (at i x value : ℕ) → (i < at → x < value) → (at ≤ i → value < x) → (x == value) ≡ false
off_gap at i x value below above = go (ltb i at) refl
  where
    go : (b : Bool) → ltb i at ≡ b → (x == value) ≡ false
    go true e =
        let h = below (ltb-true i at e) in
        ne_eqb x value (λ same. omega (arith, h, same))
    go false e =
        let h = above (ltb-false i at e) in
        ne_eqb x value (λ same. omega (arith, h, same))

pub found : (values : List ℕ) (value : ℕ) (r : Result ℕ ℕ) → IsSorted nat_cmp values → IsBinarySearchResult (λ y. nat_cmp y value) values r → is_ok r ≡ is_one_of values value
found values value (Ok at) order is =
    let here = searched values value (Ok at) is (λ i j low high. IsNonDecreasingBy-from_sort (λ n. n) values order i j 0 low high) in
    sym (list_any_at (λ d. d == value) values at 0 here.0 (eq-eqb (get_or values at 0) value here.1))
found values value (Err at) order is =
    let gap = searched values value (Err at) is (λ i j low high. IsNonDecreasingBy-from_sort (λ n. n) values order i j 0 low high) in
    sym (list_any_none (λ d. d == value) values (All-from_get_or (λ d. (d == value) ≡ false) values 0 (λ i within.
    off_gap at i (get_or values i 0) value (gap.1 i) (λ from. gap.2 i from within))))
