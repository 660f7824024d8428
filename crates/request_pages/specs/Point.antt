-- How far a request has come.
use Rattle.std.specs.Prelude.{ℕ, List, Option}
use Rattle.run_pages.specs.Run.{StandsFor}
use Rattle.page_meaning.specs.State.{State}
use Rattle.request_pages.specs.declared.request_state.RequestState.{RequestState}
use Rattle.request_port.specs.Asked.{asking_of}
use Rattle.request_port.specs.declared.port.RequestPort.{RequestPort}
use Rattle.run_world.specs.Origin.{Origin}
use Rattle.site_words.specs.Running.{Asking}
use Rattle.site_words.specs.declared.words.Entry.{Entry}
use Rattle.site_words.specs.declared.words.Opening.{Opening}

-- what was asked over a port of a request
abbrev pub asking_over : {Q L : Type 0} → (opening : Q → Opening) (pass : Q → ℕ) (seen : Q → List Entry) → RequestPort Q L → Asking
asking_over opening pass seen w = asking_of (opening w.port.now) (pass w.port.now) (seen w.port.now) w.request w.tree.now

-- what a request keeps, what its sink has taken and counted, and what was asked over its port
pub record Point : Type 0 where
  pub state : RequestState
  pub taken : Option (List ℕ)
  pub faults : ℕ
  pub asking : Asking

-- these as a point of a request
abbrev pub point_of : {K : Type 0} → (taken : K → Option (List ℕ)) (faults : K → ℕ) → RequestState → K → Asking → Point
point_of taken faults state sink asking = record { state = state; taken = taken sink; faults = faults sink; asking = asking }

-- the same of what is asked over a port of the request
abbrev pub point_over : {Q L K : Type 0} → (opening : Q → Opening) (pass : Q → ℕ) (seen : Q → List Entry) (taken : K → Option (List ℕ)) (faults : K → ℕ) → RequestState → K → RequestPort Q L → Point
point_over opening pass seen taken faults state sink port = point_of taken faults state sink (asking_over opening pass seen port)

-- what stands at a point stands for a state of the meaning
abbrev pub PointStands : Origin → Point → State → Type 0
PointStands origin point s = StandsFor origin point.state.scopes point.state.writer point.taken point.faults point.state.around point.asking s
