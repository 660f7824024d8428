-- What is done to shelves is done to what they keep, and to what their paths need.
use Rattle.std.proofs.Common.{◌≡◌, ◌<◌, ℕ, ◌+◌, Bool, true, false, not, List, [], ◌∷◌, ◌++◌, length, get_or, map, filter, drop, Option, Some, option_map, refl, sym, ap, ◌∙◌, if◌then◌else◌}
use Rattle.std.specs.Prelude.{◌&&◌}
use Rattle.std.specs.List.{All}
use Rattle.std.specs.Ordering.{is_lt, is_gt}
use Rattle.std.specs.Str.{bytes_eq}
use Rattle.std.specs.declared.cmp.Ordering.TheVariants.{Less}
use Rattle.std.proofs.lemmas.Cmp.{nat_list_eq_equiv}
use Rattle.std.proofs.lemmas.List.{drop_more, map-append}
use Rattle.std.proofs.lemmas.List.Elements.{All-filter, All-head, All-map, All-tail, All-weaker}
use Rattle.std.proofs.lemmas.List.Folds.{list_any_none}
use Rattle.pg_text.specs.Names.{has_name}
use Rattle.pg_text.specs.Order.{AreRising, item_at, path_cmp, with_item}
use Rattle.pg_text.proofs.ItemLemmas.{IsBelow, later, rest}
use Rattle.pg_text.proofs.OrderLemmas.{eq_tested}
use Rattle.source_tree.specs.declared.file.File.{File}
use Rattle.source_tree.specs.declared.need.Need.{Need}
use Rattle.source_tree.specs.Stamps.{stamp_of}
use Rattle.site_words.specs.Trees.{agrees, opt_eq}
use Rattle.program_store.specs.declared.shelf.Shelf.{Shelf}
use Rattle.program_store.specs.Store.{clean_in, dirty_in, hit_of, is_dirty, kept_of, kept_path, others, shelf_path, value_for, without_values}

module _ {A B : Type 0} (f : A → B) where
  map_kept : (b : Bool) (x : A) (xs ys : List A) → map f (if b then x ∷ xs else ys) ≡ (if b then f x ∷ map f xs else map f ys)
  map_kept true x xs ys = refl
  map_kept false x xs ys = refl

  -- a filter before a map
  pub map_filter : (p : B → Bool) (xs : List A) → map f (filter (λ x. p (f x)) xs) ≡ filter p (map f xs)
  map_filter p [] = refl
  map_filter p (x ∷ xs) =
      map_kept (p (f x)) x (filter (λ x. p (f x)) xs) (filter (λ x. p (f x)) xs) ∙ ap (λ l. if p (f x) then f x ∷ l else l) (map_filter p xs)

  -- an item that is put
  pub map_with : (path_of : B → List ℕ) (item : A) (items : List A) → map f (with_item (λ x. path_of (f x)) item items) ≡ with_item path_of (f item) (map f items)
  map_with path_of item items =
      let low : B → Bool = λ other. is_lt (path_cmp (path_of other) (path_of (f item))) in
      let high : B → Bool = λ other. is_gt (path_cmp (path_of other) (path_of (f item))) in
      map-append f (filter (λ other. low (f other)) items) (item ∷ filter (λ other. high (f other)) items)
      ∙ ap (λ l. l ++ f item ∷ map f (filter (λ other. high (f other)) items)) (map_filter low items)
      ∙ ap (λ l. filter low (map f items) ++ f item ∷ l) (map_filter high items)

-- one need more stands so, or doesn't
pub agrees_more : (needs : List Need) (i : ℕ) (need : Need) (tree : List File) → i < length needs → need ≡ get_or needs i need
    → agrees (drop i needs) tree ≡ (opt_eq (stamp_of need.name tree) need.stamp && agrees (drop (i + 1) needs) tree)
agrees_more needs i need tree within read = ap (λ l. agrees l tree) (drop_more needs i need within ∙ ap (λ n. n ∷ drop (i + 1) needs) (sym read))

module _ {P : Type 0} where
  -- what is found among the shelves is found among what they keep
  pub found_kept : (path : List ℕ) (shelves : List (Shelf P)) → item_at kept_path path (map kept_of shelves) ≡ option_map kept_of (item_at shelf_path path shelves)
  found_kept path [] = refl
  found_kept path (shelf ∷ shelves) = go (bytes_eq shelf.path path) (found_kept path shelves)
    where
      go : (b : Bool) → item_at kept_path path (map kept_of shelves) ≡ option_map kept_of (item_at shelf_path path shelves)
          → (if b then Some (kept_of shelf) else item_at kept_path path (map kept_of shelves)) ≡ option_map kept_of (if b then Some shelf else item_at shelf_path path shelves)
      go true more = refl
      go false more = more

  -- what a store has for a path is what the shelf with the path has
  pub hit_at : (needed : P → List Need) (path : List ℕ) (tree : List File) (shelves : List (Shelf P)) (found : Option (Shelf P)) → item_at shelf_path path shelves ≡ found
      → hit_of needed path tree (map kept_of shelves) ≡ value_for needed tree (option_map kept_of found)
  hit_at needed path tree shelves found is = ap (value_for needed tree) (found_kept path shelves ∙ ap (option_map kept_of) is)

-- the items with other paths than those that pass a test

module _ {A : Type 0} (path_of : A → List ℕ) (p : A → Bool) where
  apart : (item : A) (items : List A) → AreRising path_of (item ∷ items) → All (λ other. bytes_eq (path_of item) (path_of other) ≡ false) items
  apart item items order = All-weaker (IsBelow path_of item) (λ other. bytes_eq (path_of item) (path_of other) ≡ false) (λ other below. eq_tested (path_of item) (path_of other) Less below) items (later path_of item items order)

  not_among : (path : List ℕ) (paths : List (List ℕ)) (items : List A) → All (λ other. bytes_eq path (path_of other) ≡ false) items
      → filter (λ x. not (has_name (path_of x) (path ∷ paths))) items ≡ filter (λ x. not (has_name (path_of x) paths)) items
  not_among path paths [] all = refl
  not_among path paths (x ∷ items) all =
      rw (nat_list_eq_equiv.symm (path_of x) path ∙ All-head (λ other. bytes_eq path (path_of other) ≡ false) x items all)
      (ap (λ l. if not (has_name (path_of x) paths) then x ∷ l else l) (not_among path paths items (All-tail (λ other. bytes_eq path (path_of other) ≡ false) x items all)))

  -- the items whose paths aren't those of the ones that pass a test are those that don't pass it
  pub others_left : (items : List A) → AreRising path_of items → filter (λ x. not (has_name (path_of x) (map path_of (filter p items)))) items ≡ filter (λ x. not (p x)) items
  others_left [] order = refl
  others_left (item ∷ items) order = go (p item) (others_left items (rest path_of item items order))
    where
      paths : List (List ℕ)
      paths = map path_of (filter p items)

      none : has_name (path_of item) paths ≡ false
      none = list_any_none (bytes_eq (path_of item)) paths (All-map (λ other. bytes_eq (path_of item) other ≡ false) path_of (filter p items) (All-filter p (λ other. bytes_eq (path_of item) (path_of other) ≡ false) items (apart item items order)))

      go : (b : Bool) → filter (λ x. not (has_name (path_of x) paths)) items ≡ filter (λ x. not (p x)) items
          → filter (λ x. not (has_name (path_of x) (map path_of (if b then item ∷ filter p items else filter p items)))) (item ∷ items) ≡ (if not b then item ∷ filter (λ x. not (p x)) items else filter (λ x. not (p x)) items)
      go true more = rw (nat_list_eq_equiv.refl (path_of item)) (not_among (path_of item) paths items (apart item items order) ∙ more)
      go false more = rw none (ap (λ l. item ∷ l) more)

-- what shelves keep for other paths than these
pub left_kept : {P : Type 0} (paths : List (List ℕ)) (shelves : List (Shelf P)) → map kept_of (others shelf_path paths shelves) ≡ without_values paths (map kept_of shelves)
left_kept {P} paths shelves = map_filter kept_of (λ (k : List ℕ × P). not (has_name k.0 paths)) shelves

-- the paths of what is dirty taken out, what is clean is left
pub cleared : {P : Type 0} (needed : P → List Need) (names paths : List (List ℕ)) (shelves : List (Shelf P)) → AreRising shelf_path shelves → paths ≡ dirty_in needed names (map kept_of shelves)
    → without_values paths (map kept_of shelves) ≡ clean_in needed names (map kept_of shelves)
cleared {P} needed names paths shelves order is =
    let dirty : Shelf P → Bool = λ shelf. is_dirty needed names (kept_of shelf) in
    let told : paths ≡ map shelf_path (filter dirty shelves) = is ∙ ap (map kept_path) (sym (map_filter kept_of (is_dirty needed names) shelves)) ∙ paths_are (filter dirty shelves) in
    ap (λ l. without_values l (map kept_of shelves)) told
    ∙ sym (map_filter kept_of (λ k. not (has_name k.0 (map shelf_path (filter dirty shelves)))) shelves)
    ∙ ap (map kept_of) (others_left shelf_path dirty shelves order) ∙ map_filter kept_of (λ k. not (is_dirty needed names k)) shelves
  where
    paths_are : (shelves : List (Shelf P)) → map kept_path (map kept_of shelves) ≡ map shelf_path shelves
    paths_are [] = refl
    paths_are (shelf ∷ shelves) = ap (λ l. shelf.path ∷ l) (paths_are shelves)
