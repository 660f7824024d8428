-- A run of at most so many turns, and what is seen of its end.
use Rattle.std.specs.Prelude.{◌≡◌, ℕ, zero, suc, List, Option, Some, None}
use Rattle.out_buffer.specs.Writer.{empty_writer}
use Rattle.page_meaning.specs.Respond.{beginning, at_start}
use Rattle.page_meaning.specs.State.{State}
use Rattle.site_words.specs.PageSteps.{Step}
use Rattle.page_meaning.specs.Went.{Did, Well, Raised, Ended, Awaits, Leaving, forwards, redirects}
use Rattle.pg_text.specs.declared.place.Place.{Place}
use Rattle.pg_value.specs.RunFault.{number_of}
use Rattle.page_table.specs.Act.{move_of}
use Rattle.page_table.specs.Landing.{Config, Running, Over}
use Rattle.page_table.specs.Move.{Move, On, Into, Stuck}
use Rattle.page_table.specs.Open.{Open}
use Rattle.page_table.specs.Program.{Serving}
use Rattle.page_table.specs.Runs.{Runs}
use Rattle.page_table.specs.Seat.{Seat}

-- behind the end of a run of its own
abbrev pub behind : (again : Seat → Config → Option Did) → Seat → (Did → Config) → Option Did → Option Did
behind again seat back None = None
behind again seat back (Some r) = again seat (back r)

-- behind a move
abbrev pub moved : (again : Seat → Config → Option Did) → Seat → Move → Option Did
moved again seat (On next) = again seat next
moved again seat (Into callee first back) = behind again seat back (again callee first)
moved again seat Stuck = None

-- the end of a run of at most so many turns, and as many in each run of its own
abbrev pub end_of : ℕ → Serving → Seat → Config → Option Did
end_of zero serving seat c = None
end_of (suc n) serving seat (Over d) = Some d
end_of (suc n) serving seat (Running pc s o) = moved (λ at next. end_of n serving at next) seat (move_of serving seat pc s o)

-- such an end is the end of a run
abbrev pub StepsRun : Type 0
StepsRun = (n : ℕ) (serving : Serving) (seat : Seat) (c : Config) (d : Did) → end_of n serving seat c ≡ Some d → Runs serving seat c d

-- how a run ended, as the number of the fault and its column, or as the address to which it left
pub data How : Type 0 where
  well : How
  fault : (number column : ℕ) → How
  to_page : List ℕ → How
  to_address : List ℕ → How
  waits : How

-- how a run ended, what it wrote, the steps that it asked, its visits, and how many bodies are kept
abbrev pub Seen : Type 0
Seen = How × List ℕ × List Step × ℕ × List (List ℕ)

-- what is seen of a state
abbrev pub seen_in : How → State → Seen
seen_in how s = (how, s.writer.buffer, s.asked, s.visits, s.writer.kept)

-- where a page left for
abbrev pub left_for : Leaving → How
left_for (forwards path params left) = to_page path
left_for (redirects location) = to_address location

-- what is seen of an end
abbrev pub seen : Option Did → Option Seen
seen None = None
seen (Some (Well u s)) = Some (seen_in well s)
seen (Some (Raised f place s)) = Some (seen_in (fault (number_of f) place.column) s)
seen (Some (Ended leaving s)) = Some (seen_in (left_for leaving) s)
seen (Some (Awaits step s)) = Some (seen_in waits s)
