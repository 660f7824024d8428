-- Laws of runs.
use Rattle.std.specs.Prelude.{◌≡◌, ◌≤◌, ◌<◌, ℕ, length, ⊤}
use Rattle.page_meaning.specs.Growth.{state_of, Grows}
use Rattle.page_meaning.specs.State.{State}
use Rattle.page_meaning.specs.Went.{Did, Went, Well, Raised, Ended, Awaits, Leaving, forwards, redirects}
use Rattle.page_table.specs.Act.{move_of}
use Rattle.page_table.specs.Checked.{ServingFits, SeatFits, Stands}
use Rattle.page_table.specs.Landing.{Config, Running}
use Rattle.page_table.specs.Measure.{to_go}
use Rattle.page_table.specs.Move.{Stuck}
use Rattle.page_table.specs.Open.{Open}
use Rattle.page_table.specs.Program.{Serving}
use Rattle.page_table.specs.Runs.{Runs, Turned, config_state}
use Rattle.page_table.specs.Seat.{Seat, code_of}

-- a run has one end
abbrev pub OneEnd : Type 0
OneEnd = (serving : Serving) (seat : Seat) (c : Config) (d other : Did) → Runs serving seat c d → Runs serving seat c other → d ≡ other

-- a run only adds to the steps asked, behind all that was committed, and to the pieces committed, and behind a commit starts no session
abbrev pub RunsGrow : Type 0
RunsGrow = (serving : Serving) (seat : Seat) (c : Config) (d : Did) → Runs serving seat c d → Grows (config_state c) (state_of d)

-- this holds of every run of checked code that stands with the shape of its place
abbrev pub OfEachStand : ((serving : Serving) (seat : Seat) (base pc : ℕ) (s : State) (o : Open) → Type 0) → Type 0
OfEachStand P =
    (serving : Serving) → ServingFits serving → (seat : Seat) → SeatFits seat → (base pc : ℕ) (s : State) (o : Open)
    → Stands (code_of seat) base pc (length s.writer.kept) o → P serving seat base pc s o

-- checked code is never stuck
abbrev pub NeverStuck : Type 0
NeverStuck = OfEachStand (λ serving seat base pc s o. move_of serving seat pc s o ≡ Stuck → ⊥)

-- a turn of checked code leads to a place whose shape the run has
abbrev pub TurnsStand : Type 0
TurnsStand = OfEachStand (λ serving seat base pc s o. (to : ℕ) (s2 : State) (o2 : Open) → Turned serving seat (Running pc s o) (Running to s2 o2)
    → Stands (code_of seat) base to (length s2.writer.kept) o2)

-- each turn of checked code comes nearer to the end
abbrev pub TurnsComeNearer : Type 0
TurnsComeNearer = OfEachStand (λ serving seat base pc s o. (to : ℕ) (s2 : State) (o2 : Open) → Turned serving seat (Running pc s o) (Running to s2 o2)
    → to_go (code_of seat) to s2 o2 < to_go (code_of seat) pc s o)

-- where a page ended by a redirect, at least so many bodies are kept, since an include around it goes on; no visit is taken back
abbrev pub EndLeavesBodies : (base visits : ℕ) → Leaving → State → Type 0
EndLeavesBodies base visits (redirects location) s = (base ≤ length s.writer.kept) × (visits ≤ s.visits)
EndLeavesBodies base visits (forwards path params left) s = ⊤

-- what is left of the kept bodies: those from before where a run ends well, and at least those where a fault ends it; no visit is taken back
abbrev pub LeavesBodies : {A : Type 0} → (base visits : ℕ) → Went A → Type 0
LeavesBodies base visits (Well a s) = (length s.writer.kept ≡ base) × (visits ≤ s.visits)
LeavesBodies base visits (Raised fault place s) = (base ≤ length s.writer.kept) × (visits ≤ s.visits)
LeavesBodies base visits (Ended leaving s) = EndLeavesBodies base visits leaving s
LeavesBodies base visits (Awaits step s) = ⊤

-- a run of checked code leaves the kept bodies from before its beginning
abbrev pub RunsLeaveBodies : Type 0
RunsLeaveBodies = OfEachStand (λ serving seat base pc s o. (d : Did) → Runs serving seat (Running pc s o) d → LeavesBodies base s.visits d)

-- each run of checked code has an end
abbrev pub EachRunEnds : Type 0
EachRunEnds = OfEachStand (λ serving seat base pc s o. (d : Did) × Runs serving seat (Running pc s o) d)

-- where a page ended by a redirect, at least so many frames stand, since an include around it goes on
abbrev pub EndLeavesFrames : ℕ → Leaving → State → Type 0
EndLeavesFrames n (redirects location) s = n ≤ length s.scopes.frames
EndLeavesFrames n (forwards path params left) s = ⊤

-- at least so many frames stand where a run ended well, by a fault or by a redirect
abbrev pub LeavesFrames : {A : Type 0} → ℕ → Went A → Type 0
LeavesFrames n (Well a s) = n ≤ length s.scopes.frames
LeavesFrames n (Raised fault place s) = n ≤ length s.scopes.frames
LeavesFrames n (Ended leaving s) = EndLeavesFrames n leaving s
LeavesFrames n (Awaits step s) = ⊤

-- a run takes no frame back that stood before it
abbrev pub RunsLeaveFrames : Type 0
RunsLeaveFrames = (serving : Serving) (seat : Seat) (c : Config) (d : Did) → Runs serving seat c d → LeavesFrames (length (config_state c).scopes.frames) d

-- nor does a turn
abbrev pub TurnsLeaveFrames : Type 0
TurnsLeaveFrames = (serving : Serving) (seat : Seat) (pc to : ℕ) (s s2 : State) (o o2 : Open) → Turned serving seat (Running pc s o) (Running to s2 o2)
    → length s.scopes.frames ≤ length s2.scopes.frames
