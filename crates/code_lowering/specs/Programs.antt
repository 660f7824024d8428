-- The program of a page.
use Rattle.std.specs.Prelude.{ℕ, List, map}
use Rattle.page_code.specs.Shapes.{empty_shape}
use Rattle.page_code.specs.declared.code.Cell.{Cell}
use Rattle.page_meaning.specs.Context as meaning
use Rattle.page_meaning.specs.Page.{Page, TagFile, Nodes}
use Rattle.page_table.specs.Program.{TagCode, Program, Stored, absent, plain, bad, good}
use Rattle.pg_text.specs.declared.place.Place.{Place}
use Rattle.code_forms.specs.Codes.{form_code, handed_code}
use Rattle.code_lowering.specs.Lowering.{nodes_form}

-- where the end of a file's code stands
abbrev pub file_place : (path : List ℕ) → Place
file_place path = record { file = path; line = 1; column = 1; byte = 0 }

-- the code of nodes in the unit of a page, with its end
abbrev pub code_of : Page → (end : Place) → Nodes → List Cell
code_of page end nodes = handed_code end (form_code empty_shape (nodes_form page nodes))

-- the code of a tag file in the unit of a page
abbrev pub tag_code_of : Page → TagFile → TagCode
tag_code_of page tag = record { path = tag.path; decl = tag.decl; settings = tag.settings; code = code_of page (file_place tag.path) tag.nodes }

-- the program of a page
abbrev pub program_of : Page → Program
program_of page = record { path = page.path; settings = page.settings; code = code_of page (file_place page.path) page.nodes; tags = map (tag_code_of page) page.tags }

-- what stands at a path, with the page as its program
abbrev pub stored_of : meaning.Paged → Stored
stored_of meaning.absent = absent
stored_of (meaning.plain content) = plain content
stored_of (meaning.bad fault) = bad fault
stored_of (meaning.good page) = good (program_of page)
