-- What paths need, and who needs a name.
use Rattle.std.specs.Prelude.{◌≡◌, ℕ, Bool, true, false, not, List, [], ◌∷◌, map, filter, Option, Some, None, option_map}
use Rattle.std.specs.List.{list_any}
use Rattle.pg_text.specs.Names.{has_name, with_name, without_name}
use Rattle.pg_text.specs.Order.{item_at, with_item, without_item}
use Rattle.dep_graph.specs.declared.entries.Dependent.{Dependent}
use Rattle.dep_graph.specs.declared.entries.Named.{Named}

-- the path that needs names
abbrev pub path_of : Dependent → List ℕ
path_of dependent = dependent.path

-- the name that is needed
abbrev pub name_of : Named → List ℕ
name_of named = named.name

-- a path by itself
abbrev pub itself : List ℕ → List ℕ
itself path = path

-- one of the names is among the changed ones
abbrev pub meets : List (List ℕ) → List (List ℕ) → Bool
meets names changed = list_any (λ name. has_name name changed) names

-- the paths that need the name
abbrev pub users_of : List ℕ → List Dependent → List (List ℕ)
users_of name dependents = map path_of (filter (λ dependent. has_name name dependent.names) dependents)

-- the paths that need one of the changed names
abbrev pub dirty_of : List (List ℕ) → List Dependent → List (List ℕ)
dirty_of changed dependents = map path_of (filter (λ dependent. meets dependent.names changed) dependents)

-- paths, where there are some
abbrev pub some_paths : List (List ℕ) → Option (List (List ℕ))
some_paths [] = None
some_paths (path ∷ paths) = Some (path ∷ paths)

-- the names that a path needs, none where it isn't there
abbrev pub names_at : Option Dependent → List (List ℕ)
names_at None = []
names_at (Some dependent) = dependent.names

-- the users that an index keeps for a name
abbrev pub kept_for : Option Named → List (List ℕ)
kept_for None = []
kept_for (Some named) = named.users

-- the index tells these users of each name, and nothing of a name that has none
abbrev pub Tells : List Named → (List ℕ → List (List ℕ)) → Type 0
Tells index users = (name : List ℕ) → option_map (λ named. named.users) (item_at name_of name index) ≡ some_paths (users name)

-- the index keeps for each name the paths that need it, and nothing for a name that none needs
abbrev pub IsIndexOf : List Dependent → List Named → Type 0
IsIndexOf dependents index = Tells index (λ name. users_of name dependents)

-- the path isn't among the users of these names
abbrev pub IsNew : List ℕ → List (List ℕ) → (List ℕ → List (List ℕ)) → Type 0
IsNew path names users = (name : List ℕ) → has_name name names ≡ true → has_name path (users name) ≡ false

-- the index once the path needs the name too
abbrev pub indexed : List ℕ → List ℕ → List Named → List Named
indexed path name index = with_item name_of (record { name = name; users = with_name path (kept_for (item_at name_of name index)) }) index

-- the index once the path needs all these names
abbrev pub all_indexed : List ℕ → List (List ℕ) → List Named → List Named
all_indexed path [] index = index
all_indexed path (name ∷ names) index = all_indexed path names (indexed path name index)

-- the index once the name has these users
abbrev pub relisted : List ℕ → List (List ℕ) → List Named → List Named
relisted name [] index = without_item name_of name index
relisted name (user ∷ users) index = with_item name_of (record { name = name; users = user ∷ users }) index

-- the index once the path doesn't need the name
abbrev pub unlisted : List ℕ → List ℕ → List Named → List Named
unlisted path name index = relisted name (without_name path (kept_for (item_at name_of name index))) index

-- the index once the path needs none of these names
abbrev pub all_unlisted : List ℕ → List (List ℕ) → List Named → List Named
all_unlisted path [] index = index
all_unlisted path (name ∷ names) index = all_unlisted path names (unlisted path name index)

-- without these paths among the users
abbrev pub let_go : List (List ℕ) → Named → Named
let_go paths named = record { name = named.name; users = filter (λ user. not (has_name user paths)) named.users }

-- there are some paths
abbrev pub has_some : List (List ℕ) → Bool
has_some [] = false
has_some (path ∷ paths) = true

-- some path needs the name
abbrev pub is_used : Named → Bool
is_used named = has_some named.users

-- the index once these paths need nothing
abbrev pub unindexed : List (List ℕ) → List Named → List Named
unindexed paths index = filter is_used (map (let_go paths) index)

-- what other paths than these need
abbrev pub without_paths : List (List ℕ) → List Dependent → List Dependent
without_paths paths dependents = filter (λ dependent. not (has_name dependent.path paths)) dependents

-- names in order, with all these
abbrev pub with_names : List (List ℕ) → List (List ℕ) → List (List ℕ)
with_names [] names = names
with_names (name ∷ more) names = with_names more (with_name name names)
