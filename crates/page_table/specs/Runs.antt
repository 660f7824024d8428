-- What a run of a code is.
use Rattle.std.specs.Prelude.{◌≡◌, ℕ, List}
use Rattle.http_in.specs.declared.params.Param.{Param}
use Rattle.page_meaning.specs.Growth.{state_of}
use Rattle.page_meaning.specs.State.{State}
use Rattle.page_meaning.specs.Went.{Did, Well}
use Rattle.page_table.specs.Act.{move_of}
use Rattle.page_table.specs.Landing.{Config, Running, Over}
use Rattle.page_table.specs.Move.{On, Into}
use Rattle.page_table.specs.Open.{Open, fresh_open}
use Rattle.page_table.specs.Pages.{page_begun}
use Rattle.page_table.specs.Program.{Program, Serving}
use Rattle.page_table.specs.Seat.{Seat, in_page}

-- a run from a configuration to its end: it is over, or it goes on, or a run of its own goes to its end and it goes on as that ended
pub data Runs (serving : Serving) : Seat → Config → Did → Type 0 where
  over : (seat : Seat) (d : Did) → Runs serving seat (Over d) d
  on : (seat : Seat) (pc : ℕ) (s : State) (o : Open) (next : Config) (d : Did)
      → move_of serving seat pc s o ≡ On next → Runs serving seat next d → Runs serving seat (Running pc s o) d
  into : (seat : Seat) (pc : ℕ) (s : State) (o : Open) (callee : Seat) (first : Config) (back : Did → Config) (r d : Did)
      → move_of serving seat pc s o ≡ Into callee first back → Runs serving callee first r → Runs serving seat (back r) d → Runs serving seat (Running pc s o) d

-- one turn of a run: a move, or the whole of a run of its own
pub data Turned (serving : Serving) (seat : Seat) : Config → Config → Type 0 where
  moved : (pc : ℕ) (s : State) (o : Open) (next : Config) → move_of serving seat pc s o ≡ On next → Turned serving seat (Running pc s o) next
  called : (pc : ℕ) (s : State) (o : Open) (next : Config) (callee : Seat) (first : Config) (back : Did → Config) (r : Did)
      → move_of serving seat pc s o ≡ Into callee first back → Runs serving callee first r → back r ≡ next → Turned serving seat (Running pc s o) next

-- a page's run behind its beginning, which may be its end too
abbrev pub EndsBehind : Serving → Program → List Param → (left : ℕ) → Did → Did → Type 0
EndsBehind serving program params left (Well u s) d = Runs serving (in_page program params) (Running 0 s (fresh_open left)) d
EndsBehind serving program params left begun d = d ≡ begun

-- the run of a page from its beginning, in the current frame, with so many levels left below it
abbrev pub PageRuns : Serving → Program → List Param → (left : ℕ) → State → Did → Type 0
PageRuns serving program params left s d = EndsBehind serving program params left (page_begun program s) d

-- the state in which a run stands
abbrev pub config_state : Config → State
config_state (Running pc s o) = s
config_state (Over d) = state_of d
