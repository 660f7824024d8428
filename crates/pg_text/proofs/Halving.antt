-- What a search by halving finds among items whose names rise.
use Rattle.std.proofs.Common.{◌≡◌, ◌+◌, false, ◌<◌, ◌≤◌, ℕ, zero, suc, List, [], ◌∷◌, length, get_or, map, Result, Ok, Err, Less, Equal, Greater, sym, ap, ◌∙◌, subst, arith}
use Rattle.std.specs.declared.cmp.Ordering.{Ordering}
use Rattle.std.specs.Cmp.Lexicographic.{slice_cmp, nat_list_cmp_total}
use Rattle.std.specs.List.{AllByRecursion}
use Rattle.std.specs.List.Sorted.{IsStrictlySortedBy, IsSortedBy, IsBinarySearchResult, IsSearchInRange}
use Rattle.std.specs.Ordering.{nat_cmp, match_ordering, ordering_reverse, is_lt, is_eq}
use Rattle.std.specs.Str.{bytes_eq}
use Rattle.std.proofs.lemmas.List.Sorted.{searchable_from_sorted}
use Rattle.std.proofs.lemmas.Map.Text.{is_eq-slice_cmp}
use Rattle.std.proofs.lemmas.Slice.Eq.{bytes_eq-Decides}
use Rattle.pg_text.specs.Names.{AreInOrder, next_place, place_in}

abbrev pub order : List ℕ → List ℕ → Ordering
order = slice_cmp nat_cmp

-- the other way round
pub turned : (k l : List ℕ) (o : Ordering) → order k l ≡ o → order l k ≡ ordering_reverse o
turned k l o h = nat_list_cmp_total.antisymm l k ∙ ap ordering_reverse h

-- what the order of two names says of their equality
pub by_order : (o : Ordering) (k l : List ℕ) → order k l ≡ o → bytes_eq k l ≡ is_eq o
by_order o k l h = sym (is_eq-slice_cmp k l) ∙ ap is_eq h

pub equal_names : (k l : List ℕ) → order k l ≡ Equal → k ≡ l
equal_names k l h = (bytes_eq-Decides k l).0 (by_order Equal k l h)

module _ {A : Type 0} (name_of : A → List ℕ) where
  -- an item in order is above those before it
  above : (l : List ℕ) (es : List A) (i : ℕ) (d : A) → AllByRecursion (λ m. order l m ≡ Less) (map name_of es) → i < length es → order l (name_of (get_or es i d)) ≡ Less
  above l [] i d h lt = absurd (omega arith)
  above l (e ∷ es) zero d h lt = h.0
  above l (e ∷ es) (suc i) d h lt = above l es i d h.1 (omega arith)

  -- where the name of the item is found
  at_equal : (name : List ℕ) (es : List A) (i : ℕ) (d : A) → AreInOrder (map name_of es) → i < length es → order (name_of (get_or es i d)) name ≡ Equal → place_in name (map name_of es) ≡ Ok i
  unfolding IsStrictlySortedBy
  at_equal name [] i d sorted lt h = absurd (omega arith)
  at_equal name (e ∷ es) zero d sorted lt h = ap (λ o. match_ordering o (Err 0) (Ok 0) (next_place (place_in name (map name_of es)))) (turned (name_of e) name Equal h)
  at_equal name (e ∷ es) (suc i) d sorted lt h =
      let below : order (name_of e) name ≡ Less = subst (λ k. order (name_of e) k ≡ Less) (equal_names _ _ h) (above (name_of e) es i d sorted.0 (omega arith)) in
      ap (λ o. match_ordering o (Err 0) (Ok 0) (next_place (place_in name (map name_of es)))) (turned (name_of e) name Less below)
      ∙ ap next_place (at_equal name es i d sorted.1 (omega arith) h)

  -- where the name would stand
  at_gap : (name : List ℕ) (es : List A) (i : ℕ) → i ≤ length es
      → ((j : ℕ) (d : A) → j < i → order (name_of (get_or es j d)) name ≡ Less) → ((j : ℕ) (d : A) → i ≤ j → j < length es → order (name_of (get_or es j d)) name ≡ Greater)
      → place_in name (map name_of es) ≡ Err i
  at_gap name [] i le low high = ap Err (omega arith)
  at_gap name (e ∷ es) zero le low high = ap (λ o. match_ordering o (Err 0) (Ok 0) (next_place (place_in name (map name_of es)))) (turned (name_of e) name Greater (high 0 e (omega arith) (omega arith)))
  at_gap name (e ∷ es) (suc i) le low high =
      ap (λ o. match_ordering o (Err 0) (Ok 0) (next_place (place_in name (map name_of es)))) (turned (name_of e) name Less (low 0 e (omega arith)))
      ∙ ap next_place (at_gap name es i (omega arith) (λ j d lt. low (suc j) d (omega arith)) (λ j d a b. high (suc j) d (omega arith) (omega arith)))

  not_below : (k l : List ℕ) → order k l ≡ Less → is_lt (order l k) ≡ false
  not_below k l h = ap is_lt (turned k l Less h)

  up : (es : List A) → AreInOrder (map name_of es) → IsSortedBy (λ a b. is_lt (order (name_of a) (name_of b))) es
  unfolding IsStrictlySortedBy
  up [] sorted k d low high = absurd (omega arith)
  up (e ∷ es) sorted zero d low high = not_below (name_of e) (name_of (get_or es 0 d)) (above (name_of e) es 0 d sorted.0 (omega arith))
  up (e ∷ es) sorted (suc k) d low high =
      subst (λ n. is_lt (order (name_of (get_or (e ∷ es) n d)) (name_of (get_or es k d))) ≡ false) {x = suc (k + 1)} (omega arith) (up es sorted.1 k d (omega arith) (omega arith))

  -- a search by halving answers the place, where some item is at hand
  pub searched : (some : A) (name : List ℕ) (es : List A) (r : Result ℕ ℕ) → AreInOrder (map name_of es) → IsSearchInRange r (length es)
      → IsBinarySearchResult (λ e. order (name_of e) name) es r → r ≡ place_in name (map name_of es)
  searched some name es (Ok i) sorted within equal = sym (at_equal name es i some sorted within (equal some))
  searched some name es (Err i) sorted within parted =
      let parts = parted (searchable_from_sorted nat_list_cmp_total name_of es name (up es sorted)) in
      sym (at_gap name es i within (λ j d lt. parts.0 j d (omega arith) lt) (λ j d a b. parts.1 j d a b))
