-- The files of a site, by their paths.
use Rattle.std.specs.Prelude.{ℕ, List, Option, Some, None, Result, Ok, Err}
use Rattle.std.specs.Option.{option_map}
use Rattle.pg_text.specs.declared.resolution.BadPath.{BadPath}
use Rattle.pg_text.specs.Path.{resolved, segments}
use Rattle.source_tree.specs.declared.file.File.{File}
use Rattle.source_tree.specs.Edits.{file_at}

-- the text of the file at a path, where there is one
abbrev pub Files : Type 0
Files = List ℕ → Option (List ℕ)

-- the texts of a tree
abbrev pub text_in : List File → Files
text_in tree path = option_map (λ file. file.text) (file_at path tree)

abbrev pub path_or_none : Result (List ℕ) BadPath → Option (List ℕ)
path_or_none (Ok path) = Some path
path_or_none (Err fault) = None

-- the path that a text names in a file, where it names one
abbrev pub path_in : (file : List ℕ) → Option (List ℕ) → Option (List ℕ)
path_in file None = None
path_in file (Some text) = path_or_none (resolved (segments (Some file) text))
