-- Where nodes run: for which request, in which page run, and in which calls of tag files.
use Rattle.std.specs.Prelude.{ℕ, Bool, List, Option}
use Rattle.http_in.specs.declared.params.Param.{Param}
use Rattle.http_in.specs.declared.request.Request.{Request}
use Rattle.pg_text.specs.declared.place.PageFault.{PageFault}
use Rattle.tag_decl.specs.declared.declaration.VarScope.{VarScope}
use Rattle.page_meaning.specs.Faults.{Raise}
use Rattle.page_meaning.specs.Page.{Page, TagFile, Nodes}
use Rattle.page_meaning.specs.State.{State}
use Rattle.page_meaning.specs.Went.{Did}

-- what stands at a path of the request's tree: nothing, a file that is no page, a page with a fault, or a page
pub data Paged : Type 0 where
  absent : Paged
  plain : (content : List ℕ) → Paged
  bad : PageFault → Paged
  good : Page → Paged

-- what no part of a run changes: the request, what stands at each path of its tree, and the fault that an error page sees
pub record Served : Type 0 where
  pub request : Request
  pub pages : (path : List ℕ) → Paged
  pub exception : Option Raise

-- a page run: the page with its parameters
pub record Run : Type 0 where
  pub page : Page
  pub params : List Param

-- a named fragment that a call gives
pub record Fragment : Type 0 where
  pub name : List ℕ
  pub nodes : Nodes

-- the body that a call gives: none, a source text, or nodes
pub data GivenBody : Type 0 where
  nothing : GivenBody
  source_text : List ℕ → GivenBody
  body_nodes : Nodes → GivenBody

-- a variable that a tag file gives its caller: its name there, its name at the caller, and when it is copied
pub record Export : Type 0 where
  pub own : List ℕ
  pub outer : List ℕ
  pub scope : VarScope

-- a call of a tag file: the variables that it gives, the body and the fragments that it got, and the frame of its caller
pub record Called : Type 0 where
  pub tag : TagFile
  pub exports : List Export
  pub body : GivenBody
  pub fragments : List Fragment
  pub frame : ℕ

-- where nodes run: in the page itself, or in a tag file that was called from somewhere in it
pub data Here : Type 0 where
  in_page : Run → Here
  in_tag : Run → Called → (caller : Here) → Here

-- the page run in which nodes run
abbrev pub run_of : Here → Run
run_of (in_page run) = run
run_of (in_tag run call caller) = run

-- whether a name that is found nowhere is a fault
abbrev pub is_strict : Here → Bool
is_strict (in_page run) = run.page.settings.not_found_is_fault
is_strict (in_tag run call caller) = call.tag.settings.not_found_is_fault

-- what runs nodes one deeper, with so many levels left below it; nothing does at the greatest depth
pub data Deeper : Type 0 where
  no_deeper : Deeper
  deeper : (left : ℕ) → (Nodes → Here → State → Did) → Deeper
