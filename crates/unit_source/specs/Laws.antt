-- On which files a page or a tag file, read twice, depends.
use Rattle.std.specs.Prelude.{◌≡◌, ⊤, ℕ, Bool, List, [], ◌∷◌}
use Rattle.unit_source.specs.Files.{Files}
use Rattle.unit_source.specs.Root.{rooted}

-- two sites hold the same at these names: the same text, or no file
abbrev pub Agree : Files → Files → List (List ℕ) → Type 0
Agree files others [] = ⊤
Agree files others (name ∷ names) = (files name ≡ others name) × Agree files others names

-- sites that hold the same at the names of a root have the same root
abbrev pub HasSameRoot : Type 0
HasSameRoot = (files others : Files) (in_tag : Bool) (path text : List ℕ) → Agree files others (rooted files in_tag path text).names → rooted files in_tag path text ≡ rooted others in_tag path text
