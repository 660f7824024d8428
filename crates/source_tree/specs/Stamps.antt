-- The stamps of a tree's names.
use Rattle.std.specs.Prelude.{ℕ, List, Option, Some, None}
use Rattle.source_tree.specs.declared.file.File.{File}
use Rattle.source_tree.specs.Edits.{file_at}

-- the stamp of the file, where there is one
abbrev pub stamp_in : Option File → Option ℕ
stamp_in None = None
stamp_in (Some file) = Some file.stamp

-- the stamp of the file at a path, where there is one
abbrev pub stamp_of : List ℕ → List File → Option ℕ
stamp_of path files = stamp_in (file_at path files)
