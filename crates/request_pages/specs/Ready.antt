-- What a page that isn't included needs where its run begins, and what the run keeps.
use Rattle.std.specs.Prelude.{◌≡◌, ℕ, Bool, List}
use Rattle.compiled_pages.specs.Made.{IsPageAt, IsProgramOf}
use Rattle.page_meaning.specs.Page.{Page}
use Rattle.page_meaning.specs.State.{State}
use Rattle.request_pages.specs.Headed.{IsHeaded}
use Rattle.request_pages.specs.Played.{IsFunded}
use Rattle.request_pages.specs.Point.{Point, PointStands}
use Rattle.run_pages.specs.Run.{IsInOrder}
use Rattle.run_stage.specs.Keeping.{HasCharged, KeepsSession}
use Rattle.run_world.specs.Origin.{Origin}
use Rattle.run_world.specs.declared.program.Program.{Program}
use Rattle.source_tree.specs.declared.file.File.{File}

-- a page may run at this point of a request: the writer holds a response to it, all is in order,
-- and the promise covers what the run may ask
pub record IsReady (close shown : Bool) (point : Point) : Type 0 where
  pub headed : IsHeaded close shown point.state.around point.state.writer
  pub in_order : IsInOrder point.state.scopes point.state.around point.asking
  pub funded : IsFunded point.state.around point.asking

-- this is the program of a page of the tree
abbrev pub IsProgramIn : Program → List File → Page → Type 0
IsProgramIn program tree page = (path : List ℕ) × IsProgramOf program tree path × IsPageAt page tree path

-- this is the program of some page of the tree, and what stands at the point stands for some state
-- of the meaning
pub record HasPage (program : Program) (tree : List File) (point : Point) : Type 0 where
  pub page : Page
  pub made : IsProgramIn program tree page
  pub origin : Origin
  pub state : State
  pub stands : PointStands origin point state

-- from one point of a request to another it was charged for what it took of its promise, and it
-- keeps its session and the fault that an error page sees
pub record KeepsRequest (old new : Point) : Type 0 where
  pub charged : HasCharged old.state.around new.state.around old.asking new.asking
  pub session : KeepsSession old.state.around new.state.around
  pub exception : new.state.around.exception ≡ old.state.around.exception
