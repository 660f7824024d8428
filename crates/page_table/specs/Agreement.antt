-- What the rows of calls, includes, beans and loops share with the meaning: a code one level deeper runs where the meaning runs nodes.
use Rattle.std.specs.Prelude.{◌≡◌, ℕ, zero, suc, List, [], Option}
use Rattle.http_in.specs.declared.params.Param.{Param}
use Rattle.pg_text.specs.declared.place.Place.{Place}
use Rattle.pg_value.specs.Datum.{Datum}
use Rattle.scopes.specs.Scopes.{Entries}
use Rattle.scopes.specs.declared.held_scope.HeldScope.{HeldScope}
use Rattle.page_meaning.specs.Beans.{bean_in}
use Rattle.page_meaning.specs.Context as meaning
use Rattle.page_meaning.specs.Context.{Run, Here, GivenBody, Deeper, no_deeper, deeper}
use Rattle.page_meaning.specs.Fragments.{fragment_mean}
use Rattle.page_meaning.specs.Includes.{include_mean}
use Rattle.page_meaning.specs.Loops.{loop_mean}
use Rattle.page_meaning.specs.Page.{no_nodes}
use Rattle.page_meaning.specs.State.{State}
use Rattle.page_meaning.specs.Tags.{call_run}
use Rattle.page_meaning.specs.Went.{Did, Well, then_do, either}
use Rattle.page_table.specs.Act.{bean_made}
use Rattle.page_table.specs.Calls.{call_entered, given_called}
use Rattle.page_table.specs.Landing.{land}
use Rattle.page_table.specs.LoopMoves.{next_round}
use Rattle.page_table.specs.Move.{Move, On, Into, Stuck}
use Rattle.page_table.specs.Open.{Loop, Open}
use Rattle.page_table.specs.Pages.{include_called}
use Rattle.page_table.specs.Program.{Serving, served_of}
use Rattle.page_table.specs.Runs.{config_state}
use Rattle.page_table.specs.Seat.{CallSeat, Seat, called_of, here_of, Given, nothing, source_text, code_at}

-- what runs nodes one deeper, by where they run and from which state
abbrev pub deeper_as : (Here → State → Did) → (left : ℕ) → Deeper
deeper_as run zero = no_deeper
deeper_as run (suc left) = deeper left (λ nodes here s. run here s)

-- a move is a part of the meaning: it lands where that goes, and a run of its own runs where that runs nodes, from the same state
abbrev pub MoveAgrees : (to : ℕ) → Open → ((Here → State → Did) → Did) → Move → Type 0
MoveAgrees to o part (On next) = (run : Here → State → Did) → next ≡ land to (λ u. o.stack) o (part run)
MoveAgrees to o part (Into callee first back) = (run : Here → State → Did) → back (run (here_of callee) (config_state first)) ≡ land to (λ u. o.stack) o (part run)
MoveAgrees to o part Stuck = ⊥

-- a call is the meaning's call
abbrev pub CallsAgree : Type 0
CallsAgree = (place : Place) (call : CallSeat) (entries : Entries) (caller : Seat) (to : ℕ) (s : State) (o : Open)
    → MoveAgrees to o (λ run. call_run (deeper_as run o.left) place (called_of call) entries (here_of caller) s) (call_entered place call entries caller to s o)

-- what a call gives, as the meaning has it
abbrev pub given_of : Given → GivenBody
given_of nothing = meaning.nothing
given_of (source_text t) = meaning.source_text t
given_of (code_at at) = meaning.body_nodes no_nodes

-- a body or a fragment is the meaning's
abbrev pub FragmentsAgree : Type 0
FragmentsAgree = (place : Place) (g : Given) (seat : Seat) (to : ℕ) (s : State) (o : Open)
    → MoveAgrees to o (λ run. fragment_mean (deeper_as run o.left) place (given_of g) (here_of seat) s) (given_called place g seat to s o)

-- an include is the meaning's include
abbrev pub IncludesAgree : Type 0
IncludesAgree = (serving : Serving) (place : Place) (page : Run) (target : List ℕ) (params : List Param) (to : ℕ) (s : State) (o : Open)
    → MoveAgrees to o (λ run. include_mean (served_of serving) (deeper_as run o.left) place page target params s) (include_called serving place page target params to s o)

-- a bean is the meaning's bean, whose body runs where it was made
abbrev pub BeansAgree : Type 0
BeansAgree = (place : Place) (held : Option HeldScope) (name : List ℕ) (bean : Datum) (body : State → Did) (s : State)
    → bean_in place held name bean body s ≡ then_do (bean_made place held name bean s) (λ made s1. either made body (Well tt) s1)

-- a loop with no round left ends as the meaning's, whatever its body
abbrev pub LoopsAgree : Type 0
LoopsAgree = (place : Place) (loop : Loop) (outer : List Loop) (again behind : ℕ) (body : State → Did) (s : State) (o : Open)
    → next_round place loop outer [] again behind s o ≡ land behind (λ u. o.stack) (record o { loops = outer }) (loop_mean place loop.variable loop.status loop.values body [] s)

-- the rows of calls, includes, beans and loops are those of the meaning
pub record RowsAgree : Type 0 where
  pub calls : CallsAgree
  pub fragments : FragmentsAgree
  pub includes : IncludesAgree
  pub beans : BeansAgree
  pub loops : LoopsAgree
