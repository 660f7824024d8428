-- The directives of a tag file that stand in the file itself.
use Rattle.std.specs.Prelude.{ℕ, Bool, List, filter}
use Rattle.std.specs.Str.{bytes_eq}
use Rattle.page_directives.specs.Directive.{Directive}
use Rattle.unit_source.specs.Root.{Root}

-- a directive stands in that file
abbrev pub stands_in : List ℕ → Directive → Bool
stands_in path d = bytes_eq d.place.file path

-- those of the first reading decide what it declares
abbrev pub root_directives : Root → List Directive
root_directives root = filter (stands_in root.path) root.first

-- those of the second reading alone have faults
abbrev pub judged_directives : Root → List Directive
judged_directives root = filter (stands_in root.path) root.directives
