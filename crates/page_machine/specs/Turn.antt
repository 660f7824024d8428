-- What a call does of a run: a turn, or the whole run of a code.
use Rattle.std.specs.Prelude.{◌≡◌, ◌<◌, ◌+◌, ◌^◌, ℕ, List, ◌++◌, ⊤}
use Rattle.page_code.specs.Calls.{body_size, fragments_size}
use Rattle.page_code.specs.Fits.{BodyBegins, FragmentsBegin}
use Rattle.page_code.specs.declared.call.CallOut.{CallOut}
use Rattle.page_code.specs.declared.call.CallOut.TheVariants as call
use Rattle.page_code.specs.declared.code.Cell.{Cell}
use Rattle.run_world.specs.Origin.{Origin}
use Rattle.run_world.specs.Part.{given}
use Rattle.run_moves.specs.declared.flow.End.{End}
use Rattle.run_moves.specs.declared.flow.End.TheVariants as ends
use Rattle.run_moves.specs.declared.flow.Flow.{Flow}
use Rattle.run_moves.specs.declared.flow.Flow.TheVariants as flows
use Rattle.page_meaning.specs.Growth.{state_of, Grows}
use Rattle.page_meaning.specs.State.{State}
use Rattle.page_meaning.specs.Went.{Did, Well, Raised, Ended, forwards, redirects}
use Rattle.page_table.specs.Checked.{Stands}
use Rattle.page_table.specs.Landing.{Config, Running}
use Rattle.page_table.specs.Move.{Move, On, Into, Stuck}
use Rattle.page_table.specs.Open.{Open, fresh_open}
use Rattle.page_table.specs.Program.{Serving}
use Rattle.page_table.specs.Runs.{Runs}
use Rattle.page_table.specs.Seat.{Seat, in_page, in_tag, code_of}
use Rattle.site_words.specs.Law.{Answer}

-- a move leads to a configuration, by the whole of a run of its own where it goes into one
abbrev pub MoveLeads : Serving → Seat → Move → Config → Type 0
MoveLeads serving seat (On c) next = c ≡ next
MoveLeads serving seat (Into callee first back) next = (r : Did) × Runs serving callee first r × (back r ≡ next)
MoveLeads serving seat Stuck next = ⊥

-- a run that begins with a move ends so
abbrev pub MoveEnds : Serving → Seat → Move → Did → Type 0
MoveEnds serving seat (On c) d = Runs serving seat c d
MoveEnds serving seat (Into callee first back) d = (r : Did) × Runs serving callee first r × Runs serving seat (back r) d
MoveEnds serving seat Stuck d = ⊥

-- what ends so, for whatever answers are still to come; where memory ran out, it went no further
-- than whatever ends from there
abbrev pub EndsSo : (List Answer → Did → Type 0) → End → State → Type 0
EndsSo runs ends.Normal s = (future : List Answer) → runs future (Well tt (given future s))
EndsSo runs (ends.Forward path params left) s = (future : List Answer) → runs future (Ended (forwards path params left) (given future s))
EndsSo runs (ends.Redirect location) s = (future : List Answer) → runs future (Ended (redirects location) (given future s))
EndsSo runs (ends.Raised fault place) s = (future : List Answer) → runs future (Raised fault place (given future s))
EndsSo runs ends.NoMemory s = (future : List Answer) (d : Did) → runs future d → Grows s (state_of d)

-- a turn by a move leads so: on, or to an end
abbrev pub TurnsSo : Serving → Seat → (List Answer → Move) → Flow → State → Open → Type 0
TurnsSo serving seat move (flows.Go to) s o = (future : List Answer) → MoveLeads serving seat (move future) (Running to (given future s) o)
TurnsSo serving seat move (flows.Over end) s o = EndsSo (λ future d. MoveEnds serving seat (move future) d) end s

-- a call did a turn by a move from a state, with the run that this goes into
pub record Turns (serving : Serving) (seat : Seat) (move : State → Move) (stands : State → Type 0) (s : State) (o : Open) (old new : List Answer) (flow : Flow) : Type 0 where
  pub got : List Answer
  pub replies : new ≡ old ++ got
  pub after : State
  pub stood : stands after
  pub turns : TurnsSo serving seat (λ future. move (given (got ++ future) s)) flow after o

-- the same of a call that leads from one world to another, for whatever serving there is and whatever states they stand for
pub record Stepped {W : Type 0} (reached : W → Origin → W → State → Type 0) (replies : W → List Answer) (serves : W → Serving → Type 0) (seat : Seat) (move : Serving → State → Move) (old new : W)
    (o : Open) (flow : Flow) : Type 0 where
  pub by : (serving : Serving) → serves old serving → (first : W) (origin : Origin) (s : State) → reached first origin old s
      → Turns serving seat (move serving) (reached first origin new) s o (replies old) (replies new) flow

-- a run from a state ended so
pub record RunFrom (runs : State → Did → Type 0) (stands : State → Type 0) (s : State) (old new : List Answer) (end : End) : Type 0 where
  pub got : List Answer
  pub replies : new ≡ old ++ got
  pub after : State
  pub stood : stands after
  pub ends : EndsSo (λ future d. runs (given (got ++ future) s) d) end after

-- the runs of a code from a place, with nothing open and so many levels left
abbrev pub CodeRuns : Seat → (at left : ℕ) → Serving → State → Did → Type 0
CodeRuns seat at left serving s d = Runs serving seat (Running at s (fresh_open left)) d

-- a call did such a run
pub record Ran {W : Type 0} (reached : W → Origin → W → State → Type 0) (replies : W → List Answer) (serves : W → Serving → Type 0) (runs : Serving → State → Did → Type 0) (old new : W) (end : End) : Type 0 where
  pub by : (serving : Serving) → serves old serving → (first : W) (origin : Origin) (s : State) → reached first origin old s
      → RunFrom (runs serving) (reached first origin new) s (replies old) (replies new) end

-- a run stands in its code with the shape of its place, where so many bodies are kept
pub record StandsInCode (seat : Seat) (pc kept : ℕ) (o : Open) : Type 0 where
  pub base : ℕ
  pub stands : Stands (code_of seat) base pc kept o

-- the callers' frames stand among so many frames, and what the calls give ends at a place that has a number
abbrev pub SeatHolds : Seat → (frames : ℕ) → Type 0
SeatHolds (in_page program params) frames = ⊤
SeatHolds (in_tag call caller) frames = (call.frame < frames) × (call.behind + (body_size call.body + fragments_size call.fragments) < 2 ^ 64) × SeatHolds caller frames

-- what a call gives begins with the empty shape behind it
abbrev pub CallBegins : List Cell → ℕ → CallOut → Type 0
CallBegins code next (call.Tag c) = BodyBegins code next c.body × FragmentsBegin code (next + body_size c.body) c.fragments
CallBegins code next other = ⊤
