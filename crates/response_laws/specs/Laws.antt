-- Laws of what a request is answered.
use Rattle.std.specs.Prelude.{◌≡◌, ◌≤◌, ℕ, List, []}
use Rattle.http_in.specs.declared.params.Param.{Param}
use Rattle.http_out.specs.declared.status.Status.{Status}
use Rattle.page_meaning.specs.Context.{Served}
use Rattle.page_meaning.specs.Faults.{Raise}
use Rattle.page_meaning.specs.Growth.{Grows, state_of}
use Rattle.page_meaning.specs.Page.{Page}
use Rattle.page_meaning.specs.Respond.{OnFault, chain_answer, first_fault, first_run, level_limit, on_fault, run_answer, target_answer}
use Rattle.page_meaning.specs.Response.{Answered, end_state}
use Rattle.page_meaning.specs.State.{State}

-- what a forward's target is answered
abbrev pub target_of : Served → OnFault → Status → (path : List ℕ) → List Param → (left : ℕ) → State → Answered
target_of served at_fault status path more left s = target_answer (λ page s1. chain_answer served at_fault status level_limit left page more s1) status path (served.pages path) s

-- what a page and its forwards are answered, with so many levels left
abbrev pub chain_of : Served → OnFault → Status → (left : ℕ) → Page → List Param → State → Answered
chain_of served at_fault status left page params s = chain_answer served at_fault status level_limit left page params s

-- a chain is the run of its first page, with what the target is answered where that ends by a forward
abbrev pub ChainsUnfold : Type 0
ChainsUnfold = (served : Served) (at_fault : OnFault) (status : Status) (left : ℕ) (page : Page) (params : List Param) (s : State) → left ≤ 100
    → chain_of served at_fault status left page params s ≡ run_answer (target_of served at_fault status) at_fault status page params (first_run served left page params s)

-- what is done with a fault adds to the steps asked and the pieces committed
abbrev pub FaultsGrow : OnFault → Type 0
FaultsGrow at_fault = (page : Page) (params : List Param) (r : Raise) (s : State) → s.writer.pieces ≡ [] → Grows s (end_state (at_fault page params r s))

-- what comes behind a page's run only adds to it
pub record RunsGrowOn : Type 0 where
  pub behind : (served : Served) (at_fault : OnFault) (status : Status) (left : ℕ) (page : Page) (params : List Param) (s : State) → FaultsGrow at_fault
      → Grows (state_of (first_run served left page params s)) (end_state (run_answer (target_of served at_fault status) at_fault status page params (first_run served left page params s)))
  pub chain : (served : Served) (at_fault : OnFault) (status : Status) (left : ℕ) (page : Page) (params : List Param) (s : State) → FaultsGrow at_fault → s.writer.pieces ≡ [] → Grows s (end_state (chain_of served at_fault status left page params s))
  pub target : (served : Served) (at_fault : OnFault) (status : Status) (path : List ℕ) (more : List Param) (left : ℕ) (s : State) → FaultsGrow at_fault → s.writer.pieces ≡ [] → Grows s (end_state (target_of served at_fault status path more left s))
  pub first : (r : Raise) → FaultsGrow (first_fault r)
  pub error : (served : Served) → FaultsGrow (on_fault served)
