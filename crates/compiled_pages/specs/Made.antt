-- When what is kept for a path is made from a tree.
use Rattle.std.specs.Prelude.{◌≡◌, ℕ, List, Some, Result, Ok, Err}
use Rattle.std.specs.Arc.{arc_value}
use Rattle.code_lowering.specs.Programs as lowering
use Rattle.compiled_pages.specs.Pages.{unit_in, page_at, needs_at}
use Rattle.compiled_pages.specs.declared.made.Made.{Made}
use Rattle.compiled_pages.specs.declared.made.MadeBody.{MadeBody}
use Rattle.compiled_pages.specs.declared.made.MadeBody.TheVariants as kept
use Rattle.unit_meaning.specs.Page.{Page}
use Rattle.unit_meaning.specs.Shape.{page_of}
use Rattle.pg_text.specs.declared.place.PageFault.{PageFault}
use Rattle.run_world.specs.Programs.{program_of}
use Rattle.run_world.specs.declared.program.Program.{Program}
use Rattle.source_tree.specs.declared.file.File.{File}
use Rattle.unit_nodes.specs.Nodes as unit
use Rattle.unit_nodes.specs.Views.{body_view}
use Rattle.unit_nodes.specs.declared.unit.Unit.{Unit}
use Rattle.unit_words.specs.Needs.{needs_of}
use Rattle.unit_words.specs.Views.{unit_view}

-- this page stands at a path of a tree
abbrev pub IsPageAt : Page → List File → (path : List ℕ) → Type 0
IsPageAt page tree path = page_at tree path ≡ Some (Ok page)

-- a program is that of the page at a path of a tree
pub record IsProgramOf (program : Program) (tree : List File) (path : List ℕ) : Type 0 where
  pub page : Page
  pub stands : IsPageAt page tree path
  pub lowered : program_of program ≡ lowering.program_of page

-- a fault is that of the page at a path of a tree
abbrev pub IsFaultOf : PageFault → List File → (path : List ℕ) → Type 0
IsFaultOf fault tree path = page_at tree path ≡ Some (Err fault)

-- a program or a fault is that of the page at a path of a tree
abbrev pub IsBodyOf : MadeBody → List File → (path : List ℕ) → Type 0
IsBodyOf (kept.Program program) tree path = IsProgramOf (arc_value program) tree path
IsBodyOf (kept.Fault fault) tree path = IsFaultOf fault tree path

-- a value is made from this path of a tree: it keeps what that needs, and the program of its page or the page's fault
pub record IsMade (made : Made) (tree : List File) (path : List ℕ) : Type 0 where
  pub deps : made.deps ≡ needs_at tree path
  pub body : IsBodyOf made.body tree path

-- what is told of paths is so: each program is that of the page there, and each fault the page's
pub record TellsPages (made : Program → List File → List ℕ → Type 0) (faulty : PageFault → List File → List ℕ → Type 0) : Type 0 where
  pub programs : (program : Program) (tree : List File) (path : List ℕ) → made program tree path → IsProgramOf program tree path
  pub faults : (fault : PageFault) (tree : List File) (path : List ℕ) → faulty fault tree path → IsFaultOf fault tree path

-- this is the unit of the page at a path of a tree, each dependency with its stamp there
pub record IsUnitOf (unit : Unit) (tree : List File) (path : List ℕ) : Type 0 where
  pub stands : unit_in tree path ≡ Some (unit_view unit)
  pub stamps : unit.deps ≡ needs_of tree (unit_view unit).deps

-- a program or a fault is that of a unit's body
abbrev pub IsBodyBy : MadeBody → Result unit.Page PageFault → Type 0
IsBodyBy (kept.Program program) (Ok page) = program_of (arc_value program) ≡ lowering.program_of (page_of page)
IsBodyBy (kept.Program program) (Err fault) = ⊥
IsBodyBy (kept.Fault fault) (Ok page) = ⊥
IsBodyBy (kept.Fault fault) (Err other) = fault ≡ other

-- a value is that of a unit
pub record IsMadeBy (made : Made) (unit : Unit) : Type 0 where
  pub deps : made.deps ≡ unit.deps
  pub body : IsBodyBy made.body (body_view unit.body)
