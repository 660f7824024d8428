-- What a call does of a run: one instruction, or a fault.
use Rattle.std.specs.Prelude.{◌≡◌, List, ◌++◌}
use Rattle.run_world.specs.Part.{given}
use Rattle.run_moves.specs.declared.flow.End.{End}
use Rattle.run_moves.specs.declared.flow.End.TheVariants as ends
use Rattle.run_moves.specs.declared.flow.Flow.{Flow}
use Rattle.run_moves.specs.declared.flow.Flow.TheVariants as flows
use Rattle.run_world.specs.Origin.{Origin}
use Rattle.page_meaning.specs.Growth.{state_of, Grows}
use Rattle.page_meaning.specs.State.{State}
use Rattle.page_meaning.specs.Went.{Did, Well, Raised, Ended, forwards, redirects}
use Rattle.page_table.specs.Landing.{Running, Over}
use Rattle.page_table.specs.Move.{Move, On, Into, Stuck}
use Rattle.page_table.specs.Open.{Open}
use Rattle.page_table.specs.Program.{Serving}
use Rattle.page_table.specs.Runs.{config_state}
use Rattle.site_words.specs.Law.{Answer}

-- a move only adds to what a state has asked and committed
abbrev pub MoveGrows : State → Move → Type 0
MoveGrows s (On c) = Grows s (config_state c)
MoveGrows s (Into callee first back) = Grows s (config_state first) × ((d : Did) → Grows (state_of d) (config_state (back d)))
MoveGrows s Stuck = Unit {0}

-- a run is over so
abbrev pub OverSo : (List Answer → Move) → End → State → Type 0
OverSo move ends.Normal s = (future : List Answer) → move future ≡ On (Over (Well tt (given future s)))
OverSo move (ends.Forward path params left) s = (future : List Answer) → move future ≡ On (Over (Ended (forwards path params left) (given future s)))
OverSo move (ends.Redirect location) s = (future : List Answer) → move future ≡ On (Over (Ended (redirects location) (given future s)))
OverSo move (ends.Raised fault place) s = (future : List Answer) → move future ≡ On (Over (Raised fault place (given future s)))
OverSo move ends.NoMemory s = (future : List Answer) → MoveGrows s (move future)

-- a move led so, whatever answers are still to come: on at a place, or to an end
abbrev pub LedSo : (List Answer → Move) → Flow → State → Open → Type 0
LedSo move (flows.Go to) s o = (future : List Answer) → move future ≡ On (Running to (given future s) o)
LedSo move (flows.Over end) s o = OverSo move end s

-- a call did one move from a state
pub record Moves (move : State → Move) (stands : State → Type 0) (s : State) (o : Open) (old new : List Answer) (flow : Flow) : Type 0 where
  pub got : List Answer
  pub replies : new ≡ old ++ got
  pub after : State
  pub stood : stands after
  pub led : LedSo (λ future. move (given (got ++ future) s)) flow after o

-- the same of a call that leads from one world to another, for whatever states they stand for, and leaves this open
pub record Acted {W : Type 0} (reached : W → Origin → W → State → Type 0) (replies : W → List Answer) (move : State → Move) (old new : W) (o : Open) (flow : Flow) : Type 0 where
  pub by : (first : W) (origin : Origin) (s : State) → reached first origin old s → Moves move (reached first origin new) s o (replies old) (replies new) flow

-- the same where the move depends on what is served
pub record ActedFor {W : Type 0} (reached : W → Origin → W → State → Type 0) (replies : W → List Answer) (serves : W → Serving → Type 0) (move : Serving → State → Move) (old new : W) (o : Open) (flow : Flow) : Type 0 where
  pub for : (serving : Serving) → serves old serving → Acted reached replies (move serving) old new o flow
