-- What is known of a run's surroundings: that they are in order, whatever the answers and the pages are.
use Rattle.std.specs.Prelude.{◌≡◌, ℕ, List}
use Rattle.std.specs.Option.{option_map}
use Rattle.run_world.specs.Origin.{Origin}
use Rattle.run_world.specs.Seats.{raise_of}
use Rattle.run_world.specs.declared.served.Served as machine_served
use Rattle.page_meaning.specs.State.{State}
use Rattle.page_table.specs.Checked.{ServingFits}
use Rattle.page_table.specs.Program.{Stored, Serving}

-- a request is served so: it is this request, its error page sees this fault, and what stands at each path is what the world tells
pub record ServesSo {W : Type 0} (stores : W → ((path : List ℕ) → Stored) → Type 0) (served : machine_served.Served) (world : W) (serving : Serving) : Type 0 where
  pub request : serving.request ≡ served.request.now
  pub exception : serving.exception ≡ option_map (λ raise. raise_of raise.now) served.exception
  pub stored : stores world serving.stored

-- there is such a serving, all of whose programs fit, and a state for which the world stands
pub record Known {W : Type 0} (reached : W → Origin → W → State → Type 0) (stores : W → ((path : List ℕ) → Stored) → Type 0) (served : machine_served.Served) (world : W) : Type 0 where
  pub serving : Serving
  pub serves : ServesSo stores served world serving
  pub fits : ServingFits serving
  pub origin : Origin
  pub state : State
  pub stands : reached world origin world state
