-- Paths in byte order, and lists in the order of the paths of their items.
use Rattle.std.specs.Prelude.{◌≡◌, ℕ, ◌+◌, ◌<◌, ◌≤◌, List, [], ◌∷◌, ◌++◌, length, take, drop, filter, find, not, All, AllPairs, Option, Result, Ok, Err}
use Rattle.std.specs.declared.cmp.Ordering.{Ordering}
use Rattle.std.specs.declared.cmp.Ordering.TheVariants.{Less, Equal, Greater}
use Rattle.std.specs.Ordering.{nat_cmp, is_lt, is_gt}
use Rattle.std.specs.Str.{bytes_eq}
use Rattle.std.specs.Cmp.Lexicographic.{slice_cmp}

-- how two paths stand, byte by byte
abbrev pub path_cmp : List ℕ → List ℕ → Ordering
path_cmp = slice_cmp nat_cmp

-- the path of each item is below those of all items after it
abbrev pub AreRising : {A : Type 0} → (A → List ℕ) → List A → Type 0
AreRising path_of items = AllPairs (λ item later. path_cmp (path_of item) (path_of later) ≡ Less) items

-- the item with this path, where there is one
abbrev pub item_at : {A : Type 0} → (A → List ℕ) → List ℕ → List A → Option A
item_at path_of path items = find (λ item. bytes_eq (path_of item) path) items

-- the items with lower paths, then this item, then the items with higher paths
abbrev pub with_item : {A : Type 0} → (A → List ℕ) → A → List A → List A
with_item path_of item items =
    filter (λ other. is_lt (path_cmp (path_of other) (path_of item))) items ++ item ∷ filter (λ other. is_gt (path_cmp (path_of other) (path_of item))) items

-- the items with other paths than this one
abbrev pub without_item : {A : Type 0} → (A → List ℕ) → List ℕ → List A → List A
without_item path_of path items = filter (λ item. not (bytes_eq (path_of item) path)) items

-- the items are those with lower paths than this one, those with this path, and those with higher paths
pub record IsSplit {A : Type 0} (path_of : A → List ℕ) (path : List ℕ) (items lower same higher : List A) : Type 0 where
  pub is : items ≡ lower ++ (same ++ higher)
  pub below : All (λ item. path_cmp (path_of item) path ≡ Less) lower
  pub at : All (λ item. path_cmp (path_of item) path ≡ Equal) same
  pub above : All (λ item. path_cmp (path_of item) path ≡ Greater) higher

-- the item at this index has the path, or none has it and one would go to this index
abbrev pub IsPlace : {A : Type 0} → (A → List ℕ) → List ℕ → List A → Result ℕ ℕ → Type 0
IsPlace path_of path items (Ok at) = (at < length items) × IsSplit path_of path items (take at items) (take 1 (drop at items)) (drop (at + 1) items)
IsPlace path_of path items (Err at) = (at ≤ length items) × IsSplit path_of path items (take at items) [] (drop at items)
