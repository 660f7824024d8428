-- The names that edits change.
use Rattle.std.specs.Prelude.{ℕ, Bool, List, [], ◌∷◌, if◌then◌else◌}
use Rattle.std.specs.Option.{is_some}
use Rattle.pg_text.specs.Names.{with_name}
use Rattle.source_tree.specs.declared.file.File.{File}
use Rattle.source_tree.specs.declared.edit.Edit.{Edit}
use Rattle.source_tree.specs.declared.edit.Edit.TheVariants.{Put, Delete}
use Rattle.source_tree.specs.Edits.{file_at}

-- a file stands at the path
abbrev pub has_file : List ℕ → List File → Bool
has_file path files = is_some (file_at path files)

-- the names with what an edit of these files changes: what is put, and what is deleted and stands there
abbrev pub changed_by : List File → List (List ℕ) → Edit → List (List ℕ)
changed_by files names (Put path text) = with_name path names
changed_by files names (Delete path) = if has_file path files then with_name path names else names

-- the names with what the edits change, one after the other
abbrev pub changed_from : List File → List (List ℕ) → List Edit → List (List ℕ)
changed_from files names [] = names
changed_from files names (edit ∷ edits) = changed_from files (changed_by files names edit) edits

-- the names that the edits of these files change, in order
abbrev pub changed : List Edit → List File → List (List ℕ)
changed edits files = changed_from files [] edits
