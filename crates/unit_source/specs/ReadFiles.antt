-- A file of the tree with its first reading, as the program keeps it. No public contract speaks of it.
use Rattle.std.specs.Prelude.{◌≡◌, ⊤, ℕ, List, [], ◌∷◌, Option, Some}
use Rattle.std.specs.Option.{option_map}
use Rattle.unit_source.specs.Files.{Files}

pub record Source : Type 0 where
  pub path : List ℕ
  pub text : List ℕ

abbrev pub source : (path text : List ℕ) → Source
source path text = record { path = path; text = text }

-- the path of a file
abbrev pub source_path : Source → List ℕ
source_path file = file.path

-- the file at a path, where there is one
abbrev pub source_at : Files → (path : List ℕ) → Option Source
source_at files path = option_map (source path) (files path)

-- a file is one of these files
abbrev pub IsOneOf : Files → Source → Type 0
IsOneOf files file = files file.path ≡ Some file.text

-- all of them are
abbrev pub AreOf : Files → List Source → Type 0
AreOf files [] = ⊤
AreOf files (file ∷ more) = IsOneOf files file × AreOf files more
