-- What stands where a search among items in the order of their paths ends.
use Rattle.std.proofs.Common.{◌≡◌, ℕ, ◌+◌, ◌<◌, Bool, true, not, List, [], ◌∷◌, ◌++◌, length, get_or, take, drop, set, Some, None, Result, Ok, Err, add-one, refl, sym, ap, subst, ◌∙◌, lit<, arith}
use Rattle.std.specs.List.{All, filter, find, insert, remove}
use Rattle.std.specs.Option.{option_or}
use Rattle.std.specs.Str.{bytes_eq}
use Rattle.std.specs.declared.cmp.Ordering.{Ordering}
use Rattle.std.specs.List.Sorted.{IsSearchInRange, IsBinarySearchResult, IsNonDecreasingBy}
use Rattle.std.specs.Ordering.{is_lt, is_gt, ordering_index}
use Rattle.std.specs.declared.cmp.Ordering.TheVariants.{Less, Equal, Greater}
use Rattle.std.proofs.lemmas.Cmp.{nat_list_cmp_total, alike_right}
use Rattle.std.proofs.lemmas.List.{length-take, length-drop, get_or-take, get_or-drop, take-append-drop, drop-drop, append-nil, drop_more, set_split}
use Rattle.std.proofs.lemmas.List.Elements.{All-weaker, filter-append}
use Rattle.std.proofs.lemmas.List.Folds.{find-append}
use Rattle.std.proofs.lemmas.List.Sorted.{searchable_from_sorted}
use Rattle.pg_text.specs.Order.{path_cmp, AreRising, IsSplit, IsPlace, item_at, with_item, without_item}
use Rattle.pg_text.proofs.ListLemmas.{filter_all, filter_none, find_none, option_or_none}
use Rattle.pg_text.proofs.OrderLemmas.{above_from_below, eq_tested}

module _ {X : Type 0} (P : X → Type 0) where
  -- what holds at the first n indices holds of the first n elements
  All_front : (n : ℕ) (xs : List X) → ((k : ℕ) (d : X) → k < n → k < length xs → P (get_or xs k d)) → All P (take n xs)
  All_front n xs each k d within =
      let inside : k < n = omega (arith, length-take n xs) in
      subst P (sym (get_or-take n xs k d inside)) (each k d inside (omega (arith, length-take n xs)))

  -- what holds at the indices from n on holds of the elements behind the first n
  All_rest : (n : ℕ) (xs : List X) → ((k : ℕ) (d : X) → n + k < length xs → P (get_or xs (n + k) d)) → All P (drop n xs)
  All_rest n xs each k d within = subst P (sym (get_or-drop n xs k d)) (each k d (omega (arith, length-drop n xs)))

module _ {A : Type 0} (path_of : A → List ℕ) (path : List ℕ) (items : List A) (order : AreRising path_of items) where
  -- the comparisons with the path rise along the items, as a binary search asks
  comparisons_rise : IsNonDecreasingBy (λ item. ordering_index (path_cmp (path_of item) path)) items
  comparisons_rise =
      searchable_from_sorted nat_list_cmp_total path_of items path
      (λ k d low high. ap is_lt (above_from_below (path_of (get_or items k d)) (path_of (get_or items (k + 1) d)) (order k (k + 1) d (omega arith) high)))

  -- a binary search by path ends at the path's place
  pub placed : (r : Result ℕ ℕ) → IsSearchInRange r (length items) → IsBinarySearchResult (λ item. path_cmp (path_of item) path) items r → IsPlace path_of path items r
  placed (Ok at) within equal = (
    within,
    record {
      is = sym (take-append-drop at items) ∙ ap (λ rest. take at items ++ rest) (sym (take-append-drop 1 (drop at items)) ∙ ap (λ rest. take 1 (drop at items) ++ rest) (drop-drop 1 at items));
      below = All_front (λ item. path_cmp (path_of item) path ≡ Less) at items (λ k d before in_range.
          sym (alike_right nat_list_cmp_total (path_of (get_or items at d)) path (path_of (get_or items k d)) (equal d)) ∙ order k at d before within);
      at = All_front (λ item. path_cmp (path_of item) path ≡ Equal) 1 (drop at items) (λ k d first in_range.
          let here : at + k ≡ at = omega arith in
          ap (λ (item : A). path_cmp (path_of item) path) (get_or-drop at items k d ∙ ap (λ i. get_or items i d) here) ∙ equal d);
      above = All_rest (λ item. path_cmp (path_of item) path ≡ Greater) (at + 1) items (λ k d in_range.
          sym (alike_right nat_list_cmp_total (path_of (get_or items at d)) path (path_of (get_or items (at + 1 + k) d)) (equal d))
          ∙ above_from_below (path_of (get_or items at d)) (path_of (get_or items (at + 1 + k) d)) (order at (at + 1 + k) d (omega arith) in_range));
    },
  )
  placed (Err at) within parted = (
    within,
    record {
      is = sym (take-append-drop at items);
      below = All_front (λ item. path_cmp (path_of item) path ≡ Less) at items (λ k d before in_range. (parted comparisons_rise).0 k d (omega arith) before);
      at = λ k d none. absurd (omega arith);
      above = All_rest (λ item. path_cmp (path_of item) path ≡ Greater) at items (λ k d in_range. (parted comparisons_rise).1 (at + k) d (omega arith) in_range);
    },
  )

module _ {A : Type 0} (path_of : A → List ℕ) where
  module _ (path : List ℕ) (items lower same higher : List A) (split : IsSplit path_of path items lower same higher) where
    -- a test keeps of the items what it keeps of the three parts
    filter_split : (p : A → Bool) → filter p items ≡ filter p lower ++ (filter p same ++ filter p higher)
    filter_split p = ap (filter p) split.is ∙ filter-append p lower (same ++ higher) ∙ ap (λ rest. filter p lower ++ rest) (filter-append p same higher)

    -- the item at the path is the first that has it
    pub item_at_split : item_at path_of path items ≡ find (λ item. bytes_eq (path_of item) path) same
    item_at_split =
        let test = λ (item : A). bytes_eq (path_of item) path in
        let none_below = find_none test lower (All-weaker _ _ (λ item below. eq_tested (path_of item) path Less below) lower split.below) in
        let none_above = find_none test higher (All-weaker _ _ (λ item above. eq_tested (path_of item) path Greater above) higher split.above) in
        ap (find test) split.is ∙ find-append test lower (same ++ higher) ∙ ap (λ found. option_or found (find test (same ++ higher))) none_below
        ∙ find-append test same higher ∙ ap (λ found. option_or (find test same) found) none_above ∙ option_or_none (find test same)

    pub without_split : without_item path_of path items ≡ lower ++ higher
    without_split =
        let test = λ (item : A). not (bytes_eq (path_of item) path) in
        let all_below = filter_all test lower (All-weaker _ _ (λ item below. ap not (eq_tested (path_of item) path Less below)) lower split.below) in
        let none_same = filter_none test same (All-weaker _ _ (λ item at. ap not (eq_tested (path_of item) path Equal at)) same split.at) in
        let all_above = filter_all test higher (All-weaker _ _ (λ item above. ap not (eq_tested (path_of item) path Greater above)) higher split.above) in
        filter_split test ∙ rw (all_below, none_same, all_above) refl

  -- paths that all stand in one way to a path answer a test in one way
  all_tested : (test : Ordering → Bool) (path : List ℕ) (o : Ordering) (items : List A) → All (λ item. path_cmp (path_of item) path ≡ o) items
      → All (λ item. test (path_cmp (path_of item) path) ≡ test o) items
  all_tested test path o items all k d within = ap test (all k d within)

  -- an item is put between those with lower paths and those with higher ones
  pub with_split : (item : A) (items lower same higher : List A) → IsSplit path_of (path_of item) items lower same higher → with_item path_of item items ≡ lower ++ item ∷ higher
  with_split item items lower same higher split =
      let below = λ (other : A). is_lt (path_cmp (path_of other) (path_of item)) in
      let above = λ (other : A). is_gt (path_cmp (path_of other) (path_of item)) in
      let all_below = filter_all below lower (all_tested is_lt (path_of item) _ lower split.below) in
      let none_at_below = filter_none below same (all_tested is_lt (path_of item) _ same split.at) in
      let none_above_below = filter_none below higher (all_tested is_lt (path_of item) _ higher split.above) in
      let none_below_above = filter_none above lower (all_tested is_gt (path_of item) _ lower split.below) in
      let none_at_above = filter_none above same (all_tested is_gt (path_of item) _ same split.at) in
      let all_above = filter_all above higher (all_tested is_gt (path_of item) _ higher split.above) in
      let front : filter below items ≡ lower = filter_split (path_of item) items lower same higher split below ∙ rw (all_below, none_at_below, none_above_below) (append-nil lower) in
      let back : filter above items ≡ higher = filter_split (path_of item) items lower same higher split above ∙ rw (none_below_above, none_at_above, all_above) refl in
      rw (front, back) refl

  module _ (path : List ℕ) (items : List A) (at : ℕ) where
    -- the item that a search found is the one at the path
    pub item_found : (item : A) → IsPlace path_of path items (Ok at) → item ≡ get_or items at item → item_at path_of path items ≡ Some item
    item_found item place read =
        let only : take 1 (drop at items) ≡ item ∷ [] = rw (drop_more items at item place.0, ← read) refl in
        let has_path : bytes_eq (path_of item) path ≡ true = eq_tested (path_of item) path Equal (ap (λ (same : List A). path_cmp (path_of (get_or same 0 item)) path) (sym only) ∙ place.1.at 0 item (rw only (lit< tt))) in
        item_at_split path items _ _ _ place.1 ∙ rw (only, has_path) refl

    pub item_absent : IsPlace path_of path items (Err at) → item_at path_of path items ≡ None
    item_absent place = item_at_split path items _ _ _ place.1

    -- an item that is removed where a search found it
    pub without_found : IsPlace path_of path items (Ok at) → remove items at ≡ without_item path_of path items
    without_found place = sym (without_split path items _ _ _ place.1 ∙ rw add-one refl)

    pub without_absent : IsPlace path_of path items (Err at) → items ≡ without_item path_of path items
    without_absent place = sym (without_split path items _ _ _ place.1 ∙ take-append-drop at items)

  module _ (item : A) (items : List A) (at : ℕ) where
    -- an item that is written where a search found its path
    pub with_found : IsPlace path_of (path_of item) items (Ok at) → set items at item ≡ with_item path_of item items
    with_found place = set_split items at item place.0 ∙ sym (with_split item items _ _ _ place.1 ∙ rw add-one refl)

    -- an item that is inserted where a search told it to go
    pub with_absent : IsPlace path_of (path_of item) items (Err at) → insert items at item ≡ with_item path_of item items
    with_absent place = sym (with_split item items _ _ _ place.1)
