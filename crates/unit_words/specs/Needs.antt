-- What a unit needs of a tree: its dependencies with their stamps, and the bytes that are read.
use Rattle.std.specs.Prelude.{ℕ, ◌+◌, List, [], ◌∷◌, map, Option, Some, None, length}
use Rattle.source_tree.specs.declared.file.File.{File}
use Rattle.source_tree.specs.declared.need.Need.{Need}
use Rattle.source_tree.specs.Stamps.{stamp_of}
use Rattle.unit_source.specs.Files.{Files}

-- each name with the stamp of its file, or its absence
abbrev pub needs_of : List File → List (List ℕ) → List Need
needs_of tree names = map (λ name. record { name = name; stamp = stamp_of name tree }) names

abbrev pub bytes_in : Option (List ℕ) → ℕ
bytes_in None = 0
bytes_in (Some text) = length text

-- the bytes of those of these files that are there
abbrev pub bytes_of : Files → List (List ℕ) → ℕ
bytes_of files [] = 0
bytes_of files (name ∷ names) = bytes_in (files name) + bytes_of files names
