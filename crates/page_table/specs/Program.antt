-- Programs as a run finds them: the codes of a page and its tag files, and what stands at each path of a request's tree.
use Rattle.std.specs.Prelude.{ℕ, List, [], Option}
use Rattle.std.specs.List.{find}
use Rattle.std.specs.Str.{bytes_eq}
use Rattle.http_in.specs.declared.request.Request.{Request}
use Rattle.pg_text.specs.declared.place.PageFault.{PageFault}
use Rattle.pg_value.specs.declared.settings.PageSettings.{PageSettings}
use Rattle.page_meaning.specs.TagDecl.{TagDecl}
use Rattle.page_code.specs.declared.code.Cell.{Cell}
use Rattle.page_meaning.specs.Context as meaning
use Rattle.page_meaning.specs.Faults.{Raise}
use Rattle.page_meaning.specs.Page.{Page, TagFile, no_nodes}

-- a tag file as its code
pub record TagCode : Type 0 where
  pub path : List ℕ
  pub decl : TagDecl
  pub settings : PageSettings
  pub code : List Cell

-- a page as its code, with the tag files of its unit
pub record Program : Type 0 where
  pub path : List ℕ
  pub settings : PageSettings
  pub code : List Cell
  pub tags : List TagCode

-- what stands at a path of the request's tree: nothing, a file that is no page, a page with a fault, or a page's program
pub data Stored : Type 0 where
  absent : Stored
  plain : (content : List ℕ) → Stored
  bad : PageFault → Stored
  good : Program → Stored

-- what no part of a run changes: the request, what stands at each path of its tree, and the fault that an error page sees
pub record Serving : Type 0 where
  pub request : Request
  pub stored : (path : List ℕ) → Stored
  pub exception : Option Raise

-- the tag file of this path among those of a unit
abbrev pub tag_at : List ℕ → List TagCode → Option TagCode
tag_at path tags = find (λ tag. bytes_eq path tag.path) tags

-- a tag file for the words that don't look at its nodes
abbrev pub file_of : TagCode → TagFile
file_of tag = record { path = tag.path; decl = tag.decl; settings = tag.settings; nodes = no_nodes }

-- a page for the words that look neither at its nodes nor at its unit
abbrev pub page_of : Program → Page
page_of program = record { path = program.path; nodes = no_nodes; settings = program.settings; tags = []; beans = [] }

-- the same of what stands at a path
abbrev pub paged_of : Stored → meaning.Paged
paged_of absent = meaning.absent
paged_of (plain content) = meaning.plain content
paged_of (bad fault) = meaning.bad fault
paged_of (good program) = meaning.good (page_of program)

-- what no part of a run changes, for the words of the meaning
abbrev pub served_of : Serving → meaning.Served
served_of serving = record { request = serving.request; pages = λ path. paged_of (serving.stored path); exception = serving.exception }
