-- What is kept for paths: a list of each path with its value, in byte order of the paths.
use Rattle.std.specs.Prelude.{ℕ, Bool, not, List, [], map, filter, Option, Some, None, if◌then◌else◌}
use Rattle.std.specs.Arc.{arc_value}
use Rattle.pg_text.specs.Names.{has_name}
use Rattle.pg_text.specs.Order.{item_at, with_item}
use Rattle.dep_graph.specs.Deps.{with_names}
use Rattle.dep_graph.specs.declared.entries.Dependent.{Dependent}
use Rattle.source_tree.specs.declared.file.File.{File}
use Rattle.source_tree.specs.declared.need.Need.{Need}
use Rattle.site_words.specs.Trees.{agrees, meets}
use Rattle.program_store.specs.declared.shelf.Shelf.{Shelf}

-- the name of a need
abbrev pub need_name : Need → List ℕ
need_name need = need.name

-- the names of needs, in order
abbrev pub names_in : List Need → List (List ℕ)
names_in needs = with_names (map need_name needs) []

-- the items with other paths than these
abbrev pub others : {A : Type 0} → (A → List ℕ) → List (List ℕ) → List A → List A
others path_of paths items = filter (λ item. not (has_name (path_of item) paths)) items

module _ {P : Type 0} where
  -- the path of a shelf
  abbrev pub shelf_path : Shelf P → List ℕ
  shelf_path shelf = shelf.path

  -- the path and the value of a shelf
  abbrev pub kept_of : Shelf P → List ℕ × P
  kept_of shelf = (shelf.path, arc_value shelf.made)

  -- what shelves keep
  abbrev pub kept_in : List (Shelf P) → List (List ℕ × P)
  kept_in shelves = map kept_of shelves

  -- the path of what is kept
  abbrev pub kept_path : List ℕ × P → List ℕ
  kept_path kept = kept.0

  -- what is kept, with this value for the path in the place of the one that was kept for it
  abbrev pub with_value : List ℕ → P → List (List ℕ × P) → List (List ℕ × P)
  with_value path value kept = with_item kept_path (path, value) kept

  -- what is kept for other paths than these
  abbrev pub without_values : List (List ℕ) → List (List ℕ × P) → List (List ℕ × P)
  without_values paths kept = others kept_path paths kept

module _ {P : Type 0} (needed : P → List Need) where
  -- the value, where its needs stand so in the tree
  abbrev pub value_for : List File → Option (List ℕ × P) → Option P
  value_for tree None = None
  value_for tree (Some kept) = if agrees (needed kept.1) tree then Some kept.1 else None

  -- the value of the path, where its needs stand so in the tree
  abbrev pub hit_of : List ℕ → List File → List (List ℕ × P) → Option P
  hit_of path tree kept = value_for tree (item_at kept_path path kept)

  -- a value needs one of the names
  abbrev pub is_dirty : List (List ℕ) → List ℕ × P → Bool
  is_dirty names kept = meets (needed kept.1) names

  -- the paths whose values need one of the names
  abbrev pub dirty_in : List (List ℕ) → List (List ℕ × P) → List (List ℕ)
  dirty_in names kept = map kept_path (filter (is_dirty names) kept)

  -- the values that need none of them
  abbrev pub clean_in : List (List ℕ) → List (List ℕ × P) → List (List ℕ × P)
  clean_in names kept = filter (λ k. not (is_dirty names k)) kept

  -- what a shelf says of its path: the names that its value needs
  abbrev pub dependent_of : Shelf P → Dependent
  dependent_of shelf = record { path = shelf.path; names = names_in (needed (arc_value shelf.made)) }

  -- the paths of shelves with the names that they need
  abbrev pub needing : List (Shelf P) → List Dependent
  needing shelves = map dependent_of shelves
