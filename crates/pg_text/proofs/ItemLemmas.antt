-- What is put into a list in the order of the paths, and what is taken out of it.
use Rattle.std.proofs.Common.{◌≡◌, ℕ, ◌+◌, ◌<◌, suc, true, false, List, [], ◌∷◌, ◌++◌, length, map, drop, get_or, ap, sym, ◌∙◌, refl, Bool, not, Some, None, if◌then◌else◌, inl, inr, arith, append_assoc, Option, option_map, subst}
use Rattle.std.specs.List.{All, AllByRecursion, filter, find}
use Rattle.std.specs.List.Sorted.{IsStrictlySortedBy}
use Rattle.std.specs.Ordering.{is_lt, is_gt}
use Rattle.std.specs.declared.cmp.Ordering.{Ordering}
use Rattle.std.specs.declared.cmp.Ordering.TheVariants.{Less, Equal, Greater}
use Rattle.std.proofs.lemmas.Cmp.{nat_list_cmp_total, nat_list_eq_equiv, tied_back}
use Rattle.std.proofs.lemmas.List.{drop_more}
use Rattle.std.proofs.lemmas.List.Elements.{All-cons, All-filter, All-head, All-map, All-tail, All-weaker, filter_passes}
use Rattle.std.proofs.lemmas.List.Kept.{AllPairs-cons, AllPairs-filter}
use Rattle.pg_text.specs.Names.{AreInOrder}
use Rattle.pg_text.specs.Order.{path_cmp, AreRising, item_at, with_item, without_item}
use Rattle.pg_text.proofs.OrderLemmas.{below_from_above, above_from_below, eq_tested}
use Rattle.std.specs.Cmp.Lexicographic.{same_text}
use Rattle.std.specs.Option.{option_or}
use Rattle.std.specs.Str.{bytes_eq}
use Rattle.std.proofs.lemmas.Bool.{cases_Bool}
use Rattle.std.proofs.lemmas.List.Folds.{find-append}
use Rattle.pg_text.proofs.ListLemmas.{find_none, find_filter, find_filter_none, option_or_none, AllPairs-append}

is_less : (o : Ordering) → is_lt o ≡ true → o ≡ Less
is_less Less is = refl
is_less Equal is = cc
is_less Greater is = cc

is_greater : (o : Ordering) → is_gt o ≡ true → o ≡ Greater
is_greater Less is = cc
is_greater Equal is = cc
is_greater Greater is = refl

module _ {A : Type 0} (path_of : A → List ℕ) where
  -- the first path is below the second
  abbrev pub IsBelow : A → A → Type 0
  IsBelow item later = path_cmp (path_of item) (path_of later) ≡ Less

  -- an item that is put keeps the order
  pub order_with : (item : A) (items : List A) → AreRising path_of items → AreRising path_of (with_item path_of item items)
  order_with item items order =
      let lower = filter (λ (other : A). is_lt (path_cmp (path_of other) (path_of item))) items in
      let higher = filter (λ (other : A). is_gt (path_cmp (path_of other) (path_of item))) items in
      let below : All (λ other. IsBelow other item) lower =
      All-weaker (λ other. is_lt (path_cmp (path_of other) (path_of item)) ≡ true) (λ other. IsBelow other item) (λ other passed. is_less _ passed) lower (filter_passes _ items) in
      let above : All (λ other. IsBelow item other) higher =
      All-weaker (λ other. is_gt (path_cmp (path_of other) (path_of item)) ≡ true) (λ other. IsBelow item other) (λ other passed. below_from_above (path_of other) (path_of item) (is_greater _ passed)) higher (filter_passes _ items) in
      AllPairs-append IsBelow lower (item ∷ higher)
      (AllPairs-filter IsBelow _ items order)
      (AllPairs-cons IsBelow item higher above (AllPairs-filter IsBelow _ items order))
      (All-weaker (λ other. IsBelow other item) (λ other. All (IsBelow other) (item ∷ higher))
      (λ other low. All-cons (IsBelow other) item higher low (All-weaker (λ high. IsBelow item high) (IsBelow other) (λ high up. nat_list_cmp_total.trans (path_of other) (path_of item) (path_of high) low up) higher above)) lower below)

  module _ (item : A) (path : List ℕ) (items : List A) where
    abbrev here : A → Bool
    here other = bytes_eq (path_of other) path

    abbrev below : A → Bool
    below other = is_lt (path_cmp (path_of other) (path_of item))

    abbrev above : A → Bool
    above other = is_gt (path_cmp (path_of other) (path_of item))

    -- what is at the path stands to the item as the path does
    stands : (test : Ordering → Bool) (o : Ordering) → path_cmp path (path_of item) ≡ o → (other : A) → here other ≡ true → test (path_cmp (path_of other) (path_of item)) ≡ test o
    stands test o is other same = ap (λ p. test (path_cmp p (path_of item))) (same_text (path_of other) path (sym same)) ∙ ap test is

    -- a search goes through the three parts of the list with the item
    found_in_parts : item_at path_of path (with_item path_of item items) ≡ option_or (find here (filter below items)) (if here item then Some item else find here (filter above items))
    found_in_parts = find-append here (filter below items) (item ∷ filter above items)

    by_order : (o : Ordering) → path_cmp path (path_of item) ≡ o → item_at path_of path (with_item path_of item items) ≡ (if here item then Some item else item_at path_of path items)
    by_order Less is =
        found_in_parts
        ∙ rw (eq_tested (path_of item) path Greater (above_from_below path (path_of item) is), find_filter here below (stands is_lt Less is) items, find_filter_none here above (stands is_gt Less is) items)
        (option_or_none (find here items))
    by_order Equal is =
        found_in_parts ∙ rw (eq_tested (path_of item) path Equal (tied_back nat_list_cmp_total path (path_of item) is), find_filter_none here below (stands is_lt Equal is) items) refl
    by_order Greater is =
        found_in_parts
        ∙ rw (eq_tested (path_of item) path Less (below_from_above path (path_of item) is), find_filter_none here below (stands is_lt Greater is) items, find_filter here above (stands is_gt Greater is) items)
        refl

  -- an item that is put stands at its path, and nothing else changes
  pub at_with : (item : A) (path : List ℕ) (items : List A) → item_at path_of path (with_item path_of item items) ≡ (if bytes_eq (path_of item) path then Some item else item_at path_of path items)
  at_with item path items = by_order item path items _ refl

  -- the item that is taken out is gone, and nothing else changes
  pub at_without : (deleted path : List ℕ) (items : List A) → item_at path_of path (without_item path_of deleted items) ≡ (if bytes_eq deleted path then None else item_at path_of path items)
  at_without deleted path items =
      let here = λ (item : A). bytes_eq (path_of item) path in
      let kept = λ (item : A). not (bytes_eq (path_of item) deleted) in
      let as_deleted : (item : A) → here item ≡ true → bytes_eq (path_of item) deleted ≡ bytes_eq deleted path =
      λ item same. nat_list_eq_equiv.congr (path_of item) path deleted same ∙ nat_list_eq_equiv.symm path deleted in
      elim (cases_Bool (bytes_eq deleted path)) [
        | inl same ↦ rw same (find_filter_none here kept (λ item found. ap not (as_deleted item found ∙ same)) items)
        | inr other ↦ rw other (find_filter here kept (λ item found. ap not (as_deleted item found ∙ other)) items)
      ]

module _ {A B : Type 0} (f : A → B) (p : A → Bool) where
  -- what is told of the first item and of the others
  told_first : (item : A) (items : List A) (b : Bool) → map f (if b then item ∷ filter p items else filter p items) ≡ (if b then f item ∷ map f (filter p items) else map f (filter p items))
  told_first item items true = refl
  told_first item items false = refl

  told_then : (before rest : List B) (x : B) (b : Bool) → (if b then before ++ x ∷ [] else before) ++ rest ≡ before ++ (if b then x ∷ rest else rest)
  told_then before rest x true = append_assoc before (x ∷ []) rest
  told_then before rest x false = refl

  -- what was told before the item at this place, with what is still to be told, is the same once it was told of this one
  pub told_more : (items : List A) (i : ℕ) (item : A) (before after whole : List B) → i < length items → item ≡ get_or items i item → before ++ map f (filter p (drop i items)) ≡ whole
      → after ≡ (if p item then before ++ f item ∷ [] else before) → after ++ map f (filter p (drop (i + 1) items)) ≡ whole
  told_more items i item before after whole within read sofar now =
      let rest = map f (filter p (drop (i + 1) items)) in
      let here : drop i items ≡ item ∷ drop (i + 1) items = drop_more items i item within ∙ ap (λ x. x ∷ drop (i + 1) items) (sym read) in
      ap (λ l. l ++ rest) now ∙ told_then before rest (f item) (p item)
      ∙ ap (λ l. before ++ l) (sym (ap (λ l. map f (filter p l)) here ∙ told_first item (drop (i + 1) items) (p item))) ∙ sofar

module _ {A : Type 0} (path_of : A → List ℕ) where
  -- the first item is below the others
  pub later : (item : A) (items : List A) → AreRising path_of (item ∷ items) → All (IsBelow path_of item) items
  later item items order k d within = order 0 (suc k) d (omega arith) (omega arith)

  -- and the others are in order
  pub rest : (item : A) (items : List A) → AreRising path_of (item ∷ items) → AreRising path_of items
  rest item items order i j d before within = order (suc i) (suc j) d (omega arith) (omega arith)

  by_recursion : (path : List ℕ) (items : List A) → All (λ item. path_cmp path (path_of item) ≡ Less) items → AllByRecursion (λ other. path_cmp path other ≡ Less) (map path_of items)
  by_recursion path [] all = tt
  by_recursion path (item ∷ items) all = (All-head (λ item. path_cmp path (path_of item) ≡ Less) item items all, by_recursion path items (All-tail (λ item. path_cmp path (path_of item) ≡ Less) item items all))

  -- the paths of items in order are names
  pub names_of : (items : List A) → AreRising path_of items → AreInOrder (map path_of items)
  unfolding IsStrictlySortedBy
  names_of [] order = tt
  names_of (item ∷ items) order = (by_recursion (path_of item) items (later item items order), names_of items (rest item items order))

  -- so are those of some of them
  pub names_of_some : (p : A → Bool) (items : List A) → AreRising path_of items → AreInOrder (map path_of (filter p items))
  names_of_some p items order = names_of (filter p items) (AllPairs-filter (IsBelow path_of) p items order)

  -- an item is found among those that pass a test where it passes
  abbrev pub keep : (A → Bool) → Option A → Option A
  keep p None = None
  keep p (Some item) = if p item then Some item else None

  below_all : (path : List ℕ) (items : List A) → All (λ item. path_cmp path (path_of item) ≡ Less) items → item_at path_of path items ≡ None
  below_all path items all = find_none (λ item. bytes_eq (path_of item) path) items (λ k d within. eq_tested (path_of (get_or items k d)) path Greater (above_from_below path _ (all k d within)))

  pub kept_at : (p : A → Bool) (path : List ℕ) (items : List A) → AreRising path_of items → item_at path_of path (filter p items) ≡ keep p (item_at path_of path items)
  kept_at p path [] order = refl
  kept_at p path (item ∷ items) order = go (bytes_eq (path_of item) path) refl (p item) refl (kept_at p path items (rest item items order))
    where
      none : bytes_eq (path_of item) path ≡ true → item_at path_of path (filter p items) ≡ None
      none same = below_all path (filter p items) (All-filter p (λ (other : A). path_cmp path (path_of other) ≡ Less) items (subst (λ q. All (λ other. path_cmp q (path_of other) ≡ Less) items) (same_text (path_of item) path (sym same)) (later item items order)))

      go : (b : Bool) → bytes_eq (path_of item) path ≡ b → (c : Bool) → p item ≡ c → item_at path_of path (filter p items) ≡ keep p (item_at path_of path items) → item_at path_of path (filter p (item ∷ items)) ≡ keep p (item_at path_of path (item ∷ items))
      go true same true passes more = rw (same, passes, same) refl
      go true same false fails more = rw (same, fails) (none same)
      go false other true passes more = rw (other, passes, other) more
      go false other false fails more = rw (other, fails) more

  -- what is done to each item, its path left, is done to the one that is found
  pub changed_at : (f : A → A) → ((item : A) → path_of (f item) ≡ path_of item) → (path : List ℕ) (items : List A) → item_at path_of path (map f items) ≡ option_map f (item_at path_of path items)
  changed_at f same path [] = refl
  changed_at f same path (item ∷ items) = ap (λ q. if bytes_eq q path then Some (f item) else item_at path_of path (map f items)) (same item) ∙ go (bytes_eq (path_of item) path) (changed_at f same path items)
    where
      go : (b : Bool) → item_at path_of path (map f items) ≡ option_map f (item_at path_of path items) → (if b then Some (f item) else item_at path_of path (map f items)) ≡ option_map f (if b then Some item else item_at path_of path items)
      go true more = refl
      go false more = more

  -- and the order stays
  pub changed_order : (f : A → A) → ((item : A) → path_of (f item) ≡ path_of item) → (items : List A) → AreRising path_of items → AreRising path_of (map f items)
  changed_order f same [] order = λ i j d before within. absurd (omega arith)
  changed_order f same (item ∷ items) order =
      AllPairs-cons (IsBelow path_of) (f item) (map f items)
      (All-map (IsBelow path_of (f item)) f items (λ k d within. ap (λ q. path_cmp q (path_of (f (get_or items k d)))) (same item) ∙ ap (λ q. path_cmp (path_of item) q) (same (get_or items k d)) ∙ later item items order k d within))
      (changed_order f same items (rest item items order))
