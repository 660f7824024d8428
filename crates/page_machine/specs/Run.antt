-- What the run of a page promises.
use Rattle.std.specs.Prelude.{◌≡◌, ◌-◌, ◌≤◌, ℕ, List, ◌++◌, Option, is_some, option_map}
use Rattle.http_in.specs.declared.params.Param.{Param}
use Rattle.http_in.specs.declared.request.Request.{Request}
use Rattle.out_buffer.specs.Held.{Held, Stands}
use Rattle.run_world.specs.Origin.{Origin}
use Rattle.run_world.specs.Part.{given}
use Rattle.run_world.specs.Seats.{raise_of}
use Rattle.run_world.specs.declared.around.Around.{Around}
use Rattle.run_world.specs.declared.program.Program as machine_program
use Rattle.run_world.specs.declared.raised.Raise.{Raise}
use Rattle.page_machine.specs.declared.running.RunEnd.{RunEnd}
use Rattle.page_machine.specs.declared.running.RunEnd.TheVariants as ends
use Rattle.page_meaning.specs.Growth.{state_of, Grows, IsOrdered}
use Rattle.page_meaning.specs.State.{State}
use Rattle.page_meaning.specs.declared.limits.TheConstants.{LEVEL_LIMIT, VISIT_LIMIT}
use Rattle.page_meaning.specs.Went.{Did, Well, Raised, Ended, forwards, redirects}
use Rattle.page_table.specs.Checked.{ServingFits}
use Rattle.page_table.specs.Program.{Program, Serving, Stored}
use Rattle.page_table.specs.Runs.{PageRuns}
use Rattle.pg_text.specs.declared.place.PageFault.{PageFault}
use Rattle.scopes.specs.Limits.{max_session_weight}
use Rattle.scopes.specs.Scopes.{ScopeState}
use Rattle.site_words.specs.Law.{Answer}
use Rattle.site_words.specs.Running.{Asking}
use Rattle.source_tree.specs.declared.file.File.{File}
use Rattle.run_moves.specs.declared.flow.End.{End}
use Rattle.run_moves.specs.declared.flow.End.TheVariants as machine_ends
use Rattle.run_stage.specs.declared.limits.TheConstants.{MAX_CHARGE}
use Rattle.run_stage.specs.Stage.{StoresSo}
use Rattle.run_stage.specs.Keeping.{session_weight}

-- how many calls, includes, fragments and forwards may stand in one another
abbrev pub level_limit : ℕ
level_limit = LEVEL_LIMIT

-- what a port of this tree may tell of a path stands there, for this request and this error page's fault
pub record Serves (made : machine_program.Program → List File → List ℕ → Type 0) (faulty : PageFault → List File → List ℕ → Type 0) (tree : List File) (served : Request) (around : Around)
    (serving : Serving) : Type 0 where
  pub request : serving.request ≡ served
  pub exception : serving.exception ≡ option_map raise_of around.exception
  pub stored : StoresSo made faulty tree serving.stored

-- a world tells of each path what stands there, for this request and the fault that an error page sees
pub record SeesSo {W : Type 0} (stores : W → ((path : List ℕ) → Stored) → Type 0) (served : Request) (raised : Option Raise) (world : W) (serving : Serving) : Type 0 where
  pub request : serving.request ≡ served
  pub exception : serving.exception ≡ option_map raise_of raised
  pub stored : stores world serving.stored

-- there is such a serving, all of whose programs fit, and a state for which the world stands
pub record KnownSo {W : Type 0} (reached : W → Origin → W → State → Type 0) (stores : W → ((path : List ℕ) → Stored) → Type 0) (served : Request) (raised : Option Raise) (world : W) : Type 0 where
  pub serving : Serving
  pub sees : SeesSo stores served raised world serving
  pub fits : ServingFits serving
  pub origin : Origin
  pub state : State
  pub stands : reached world origin world state

-- there is what stands at each path, and all of its programs fit
pub record IsServed (made : machine_program.Program → List File → List ℕ → Type 0) (faulty : PageFault → List File → List ℕ → Type 0) (tree : List File) (request : Request) (around : Around) : Type 0 where
  pub serving : Serving
  pub serves : Serves made faulty tree request around serving
  pub fits : ServingFits serving

-- the scopes, the writer with its sink, what is kept across page runs and what was asked of the port stand for a state
pub record StandsFor (origin : Origin) (variables : ScopeState) (held : Held) (taken : Option (List ℕ)) (faults : ℕ) (around : Around) (asking : Asking) (s : State) : Type 0 where
  pub scopes : s.scopes ≡ variables
  pub asked : s.asked ≡ origin.asked ++ asking.asked
  pub ordered : IsOrdered s
  pub writer : Stands origin.start origin.before held taken faults s.writer
  pub visits : s.visits ≡ around.visits
  pub charge : s.charge ≡ around.charge
  pub id : s.id ≡ around.id
  pub fresh : s.is_fresh ≡ around.fresh

-- the session is the same for the scopes, for what is kept and for the port, its attributes weigh no more than they may, and the counts are within their limits
pub record IsInOrder (scopes : ScopeState) (around : Around) (asking : Asking) : Type 0 where
  pub session : is_some scopes.session ≡ is_some around.id
  pub asked : asking.has_session ≡ is_some around.id
  pub weight : session_weight scopes.session ≤ max_session_weight
  pub visits : around.visits ≤ VISIT_LIMIT
  pub charge : around.charge ≤ MAX_CHARGE

-- the end of a run as its caller sees it
abbrev pub end_of : End → RunEnd
end_of machine_ends.Normal = ends.Normal
end_of (machine_ends.Forward path params left) = ends.Forward path params
end_of (machine_ends.Redirect location) = ends.Redirect location
end_of (machine_ends.Raised fault place) = ends.Raised fault place
end_of machine_ends.NoMemory = ends.NoMemory

-- the depth behind a run: that of the target of a forward, by the levels that are left for it
abbrev pub depth_behind : ℕ → End → ℕ
depth_behind depth (machine_ends.Forward path params left) = level_limit - left
depth_behind depth other = depth

-- how deep the target of a forward runs; another end leaves the depth as it was
abbrev pub DepthSo : (old new : ℕ) → RunEnd → Type 0
DepthSo old new (ends.Forward path params) = new ≤ level_limit
DepthSo old new other = new ≡ old

-- a page's run ended so, and the target of a forward is as deep as the levels say that are left;
-- where memory ran out, the run went no further than any does from there
abbrev pub RunEndsSo : ((a : List Answer) → Did → Type 0) → (depth : ℕ) → RunEnd → State → Type 0
RunEndsSo runs depth ends.Normal s = (future : List Answer) → runs future (Well tt (given future s))
RunEndsSo runs depth (ends.Forward path params) s = (left : ℕ) × (depth ≡ level_limit - left) × ((future : List Answer) → runs future (Ended (forwards path params left) (given future s)))
RunEndsSo runs depth (ends.Redirect location) s = (future : List Answer) → runs future (Ended (redirects location) (given future s))
RunEndsSo runs depth (ends.Raised fault place) s = (future : List Answer) → runs future (Raised fault place (given future s))
RunEndsSo runs depth ends.NoMemory s = (future : List Answer) (d : Did) → runs future d → Grows s (state_of d)

-- the run of a page from a state: the answers that it got, the state in which it ended, and how
pub record PageRan (serving : Serving) (program : Program) (params : List Param) (left : ℕ) (stands : State → Type 0) (s : State) (old new : List Answer) (depth : ℕ) (end : RunEnd) : Type 0 where
  pub got : List Answer
  pub replies : new ≡ old ++ got
  pub after : State
  pub stood : stands after
  pub ends : RunEndsSo (λ future d. PageRuns serving program params left (given (got ++ future) s) d) depth end after
