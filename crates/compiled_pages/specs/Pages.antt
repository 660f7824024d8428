-- What stands at each path of a tree: the unit of a page, and the page as its meaning reads it.
use Rattle.std.specs.Prelude.{ℕ, Bool, true, false, List, [], Option, Some, None, Result, Ok, Err}
use Rattle.std.specs.Option.{option_map}
use Rattle.unit_meaning.specs.Context.{Paged, absent, plain, bad, good}
use Rattle.unit_meaning.specs.Page.{Page}
use Rattle.unit_meaning.specs.Shape.{page_of}
use Rattle.pg_text.specs.declared.place.PageFault.{PageFault}
use Rattle.site_words.specs.Running.{is_page}
use Rattle.source_tree.specs.Edits.{file_at}
use Rattle.source_tree.specs.declared.file.File.{File}
use Rattle.source_tree.specs.declared.need.Need.{Need}
use Rattle.unit_nodes.specs.Nodes as unit
use Rattle.unit_source.specs.Files.{text_in}
use Rattle.unit_words.specs.Needs.{needs_of}
use Rattle.unit_words.specs.Unit.{Unit, unit_at}

-- the unit of the page at a path of a tree, where a file stands there
unfoldable pub unit_in : List File → (path : List ℕ) → Option Unit
unit_in tree path = unit_at (text_in tree) path

-- what a unit needs of a tree: its dependencies, each with its stamp there
abbrev pub unit_needs : List File → Option Unit → List Need
unit_needs tree None = []
unit_needs tree (Some unit) = needs_of tree unit.deps

-- what a path of a tree needs; nothing where no file stands
abbrev pub needs_at : List File → (path : List ℕ) → List Need
needs_at tree path = unit_needs tree (unit_in tree path)

-- a unit's page as its meaning reads it, or its fault
abbrev pub page_read : Result unit.Page PageFault → Result Page PageFault
page_read (Ok page) = Ok (page_of page)
page_read (Err fault) = Err fault

-- the page at a path of a tree or its fault, where a file stands there
abbrev pub page_at : List File → (path : List ℕ) → Option (Result Page PageFault)
page_at tree path = option_map (λ unit. page_read unit.body) (unit_in tree path)

-- a page or its fault as what stands there
abbrev pub found_page : Option (Result Page PageFault) → Paged
found_page None = absent
found_page (Some (Ok page)) = good page
found_page (Some (Err fault)) = bad fault

-- a file that is no page as what stands there
abbrev pub found_file : Option File → Paged
found_file None = absent
found_file (Some file) = plain file.text

-- what stands there, by whether the path is that of a page
abbrev pub found_as : Bool → Option (Result Page PageFault) → Option File → Paged
found_as true page file = found_page page
found_as false page file = found_file file

-- what stands at a path of a tree
abbrev pub paged_at : List File → (path : List ℕ) → Paged
paged_at tree path = found_as (is_page path) (page_at tree path) (file_at path tree)
