-- Trees by the stamps of their files.
use Rattle.std.specs.Prelude.{◌≡◌, ℕ, Bool, true, false, ◌&&◌, ◌==◌, List, [], ◌∷◌, Option, Some, None, ⊤}
use Rattle.std.specs.List.{list_any}
use Rattle.source_tree.specs.declared.file.File.{File}
use Rattle.source_tree.specs.Edits.{file_at}
use Rattle.source_tree.specs.Stamps.{stamp_of}
use Rattle.source_tree.specs.declared.need.Need.{Need}
use Rattle.pg_text.specs.Names.{has_name}

-- what a path of a tree needs; each definition takes it
abbrev pub Needs : Type 0
Needs = List File → List ℕ → List Need

-- P holds of each item
abbrev pub Each : {A : Type 0} → (A → Type 0) → List A → Type 0
Each P [] = ⊤
Each P (x ∷ xs) = P x × Each P xs

-- the test is true of each item
abbrev pub every : {A : Type 0} → (A → Bool) → List A → Bool
every test [] = true
every test (x ∷ xs) = test x && every test xs

-- the text of the file, none where there is no file
abbrev pub text_in : Option File → List ℕ
text_in None = []
text_in (Some file) = file.text

-- both have the same stamp, or none
abbrev pub opt_eq : Option ℕ → Option ℕ → Bool
opt_eq (Some a) (Some b) = a == b
opt_eq (Some a) None = false
opt_eq None (Some b) = false
opt_eq None None = true

-- each name stands so in the tree
abbrev pub agrees : List Need → List File → Bool
agrees needs files = every (λ (need : Need). opt_eq (stamp_of need.name files) need.stamp) needs

-- a needed name was changed
abbrev pub meets : List Need → List (List ℕ) → Bool
meets needs names = list_any (λ (need : Need). has_name need.name names) needs

-- where a path has one stamp in both, or none, it has one file in both
abbrev pub OneHistory : List File → List File → Type 0
OneHistory a b = (path : List ℕ) → stamp_of path a ≡ stamp_of path b → file_at path a ≡ file_at path b
