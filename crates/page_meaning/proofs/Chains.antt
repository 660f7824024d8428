-- Requests are orderly: chains of forwards, error pages, and the answers under more answers to steps.
use Rattle.std.proofs.Common.{◌≡◌, ◌<◌, ◌≤◌, ℕ, zero, suc, Bool, true, false, List, [], ◌∷◌, refl, sym, ap, ◌∙◌, subst, arith, codes}
use Rattle.std.specs.Prelude.{if◌then◌else◌}
use Rattle.http_in.specs.declared.params.Param.{Param}
use Rattle.http_out.specs.declared.status.Status.{Status}
use Rattle.http_out.specs.declared.status.Status.TheVariants as status_is
use Rattle.site_words.specs.Law.{Answer}
use Rattle.page_meaning.specs.Context.{Served, Paged, absent, plain, bad, good}
use Rattle.page_meaning.specs.Faults.{Raise, page_fault_line}
use Rattle.page_meaning.specs.Growth.{state_of, with_more, Grows, AsksOn, Leaves}
use Rattle.page_meaning.specs.Includes.{page_run}
use Rattle.page_meaning.specs.Laws.{ChainsEnd, RequestAsksOn, RequestGoesOn, HasPieces}
use Rattle.page_meaning.specs.Meaning.{nodes_mean, below}
use Rattle.page_meaning.specs.Page.{Page}
use Rattle.page_meaning.specs.Respond.{at_start, first_run, OnFault, run_answer, target_answer, chain_answer}
use Rattle.page_meaning.specs.Response.{Answered, end_state, whole, plain_line, file_type, page_response}
use Rattle.page_meaning.specs.State.{State, with_asked}
use Rattle.site_words.specs.PageSteps.{Step}
use Rattle.page_meaning.specs.Went.{Did, Well, Raised, Ended, Awaits, forwards, redirects}
use Rattle.out_buffer.specs.Writer.{has_committed}
use Rattle.page_meaning.proofs.Nested.{page_run_orderly}
use Rattle.page_meaning.proofs.Growing.{both, quiet, same, uncommitted}
use Rattle.page_meaning.proofs.Orderly.{OrderlyAt, Orderly, Calm}
use Rattle.page_meaning.proofs.EveryPart.{nodes_orderly, below_orderly}

-- a page's run from its first state
first_orderly : (served : Served) (left : ℕ) (page : Page) (params : List Param) → Orderly left (page_run (nodes_mean served (below served left)) page params)
first_orderly served left page params =
    page_run_orderly (nodes_mean served (below served left)) page params (λ nodes here. nodes_orderly served (below served left) left (below_orderly served left) nodes here)

-- chains end

targets_same : (left : ℕ) (one other : List ℕ → List Param → ℕ → State → Answered) (at_fault : OnFault) (status : Status) (page : Page) (params : List Param) (d : Did) → Leaves left d
    → ((path : List ℕ) (more : List Param) (l : ℕ) (s : State) → l < left → one path more l s ≡ other path more l s)
    → run_answer one at_fault status page params d ≡ run_answer other at_fault status page params d
targets_same left one other at_fault status page params (Well u s) h same = refl
targets_same left one other at_fault status page params (Raised f place s) h same = refl
targets_same left one other at_fault status page params (Ended (forwards path more l) s) h same = same path more l s h.0
targets_same left one other at_fault status page params (Ended (redirects location) s) h same = refl
targets_same left one other at_fault status page params (Awaits step s) h same = refl

target_same : (one other : Page → State → Answered) (status : Status) (path : List ℕ) (paged : Paged) (s : State) → ((page : Page) → one page s ≡ other page s)
    → target_answer one status path paged s ≡ target_answer other status path paged s
target_same one other status path absent s same = refl
target_same one other status path (plain t) s same = refl
target_same one other status path (bad f) s same = refl
target_same one other status path (good page) s same = same page

pub chains_end : ChainsEnd
chains_end served at_fault status n m left page params s few fewer = go n m left page params s few fewer
  where
    target : ℕ → List ℕ → List Param → ℕ → State → Answered
    target k path more l s1 = target_answer (λ p s2. chain_answer served at_fault status k l p more s2) status path (served.pages path) s1

    last : List ℕ → List Param → ℕ → State → Answered
    last path more l s1 = plain_line status_is.InternalServerError [] s1

    go : (n m left : ℕ) (page : Page) (params : List Param) (s : State) → left ≤ n → left ≤ m
        → chain_answer served at_fault status n left page params s ≡ chain_answer served at_fault status m left page params s
    go zero zero left page params s few fewer = refl
    go zero (suc m) left page params s few fewer =
        targets_same left last (target m) at_fault status page params (first_run served left page params s) (first_orderly served left page params (at_start page s)).leaves
        (λ path more l s1 less. absurd (omega (arith, few, less)))
    go (suc n) zero left page params s few fewer =
        targets_same left (target n) last at_fault status page params (first_run served left page params s) (first_orderly served left page params (at_start page s)).leaves
        (λ path more l s1 less. absurd (omega (arith, fewer, less)))
    go (suc n) (suc m) left page params s few fewer =
        targets_same left (target n) (target m) at_fault status page params (first_run served left page params s) (first_orderly served left page params (at_start page s)).leaves
        (λ path more l s1 less. target_same (λ p s2. chain_answer served at_fault status n l p more s2) (λ p s2. chain_answer served at_fault status m l p more s2) status path (served.pages path) s1
        (λ p. go n m l p more s1 (omega (arith, few, less)) (omega (arith, fewer, less))))

-- an answer, and the answers under more answers to steps
pub record AnswerOrderly (s : State) (a : Answered) (others : List Answer → Answered) : Type 0 where
  pub grows : Grows s (end_state a)
  pub goes_on : (more : List Answer) → RequestGoesOn more a (others more)
  pub pieces : HasPieces a

-- answers where nothing was committed
abbrev pub AnswersOrderly : (State → Answered) → Type 0
AnswersOrderly f = (s : State) → s.writer.pieces ≡ [] → AnswerOrderly s (f s) (λ more. f (with_more more s))

pub whole_orderly : (status : Status) (content_type bytes : List ℕ) → AnswersOrderly (whole status content_type bytes)
whole_orderly status content_type bytes s none = record { grows = same s; goes_on = λ more. refl; pieces = sym none }

pub plain_line_orderly : (status : Status) (line : List ℕ) → AnswersOrderly (plain_line status line)
plain_line_orderly status line s none = record { grows = same s; goes_on = λ more. refl; pieces = sym none }

-- behind a change that commits nothing
pub answer_behind : (f : State → Answered) (change : State → State) → Calm change → ((s : State) → (change s).writer.pieces ≡ s.writer.pieces) → AnswersOrderly f → AnswersOrderly (λ s. f (change s))
answer_behind f change calm keeps h s none =
    let at = h (change s) (keeps s ∙ none) in
    record {
      grows = both s (change s) (end_state (f (change s))) (calm.grows s) at.grows;
      goes_on = λ more. subst (λ x. RequestGoesOn more (f (change s)) (f x)) (sym (calm.kept s more)) (at.goes_on more);
      pieces = at.pieces;
    }

module _ (left : ℕ) (target : List ℕ → List Param → ℕ → State → Answered) (at_fault : OnFault) (status : Status) (page : Page) (params : List Param)
    (targets : (path : List ℕ) (more : List Param) (l : ℕ) → AnswersOrderly (target path more l)) (faults : (r : Raise) → AnswersOrderly (at_fault page params r)) where
  fault_answer : Bool → Raise → State → Answered
  fault_answer b r s = if b then page_response status page true s else at_fault page params r s

  fault_at : (b : Bool) (r : Raise) (s : State) → has_committed s.writer ≡ b → AnswerOrderly s (if b then page_response status page true s else at_fault page params r s)
      (λ more. if b then page_response status page true (with_more more s) else at_fault page params r (with_more more s))
  fault_at true r s e = record { grows = same s; goes_on = λ more. refl; pieces = refl }
  fault_at false r s e = faults r s (uncommitted s.writer.pieces e)

  run_grows : (d : Did) → Leaves left d → Grows (state_of d) (end_state (run_answer target at_fault status page params d))
  run_grows (Well u s) h = same s
  run_grows (Raised f place s) h = (fault_at (has_committed s.writer) (record { fault = f; place = place }) s refl).grows
  run_grows (Ended (forwards path more l) s) h = (targets path more l s h.1).grows
  run_grows (Ended (redirects location) s) h = same s
  run_grows (Awaits step s) h = same s

  run_asks : (step : Step) (s : State) (more : List Answer) (d : Did) → Leaves left d → AsksOn step s more d → RequestAsksOn step s more (run_answer target at_fault status page params d)
  run_asks step s [] d h e = ap (run_answer target at_fault status page params) e
  run_asks step s (answer ∷ rest) d h g = both (with_asked step s) (state_of d) (end_state (run_answer target at_fault status page params d)) g (run_grows d h)

  run_at : (s : State) (d : Did) (ds : List Answer → Did) → OrderlyAt left s d ds → ((more : List Answer) → Leaves left (ds more))
      → AnswerOrderly s (run_answer target at_fault status page params d) (λ more. run_answer target at_fault status page params (ds more))
  run_at s (Well u t) ds h leaves = record { grows = h.grows; goes_on = λ more. ap (run_answer target at_fault status page params) (h.goes_on more); pieces = refl }
  run_at s (Raised f place t) ds h leaves =
      let r : Raise = record { fault = f; place = place } in
      let at = fault_at (has_committed t.writer) r t refl in
      record {
        grows = both s t (end_state (run_answer target at_fault status page params (Raised f place t))) h.grows at.grows;
        goes_on = λ more. subst (λ x. RequestGoesOn more (run_answer target at_fault status page params (Raised f place t)) (run_answer target at_fault status page params x)) (sym (h.goes_on more)) (at.goes_on more);
        pieces = at.pieces;
      }
  run_at s (Ended (forwards path more l) t) ds h leaves =
      let at = targets path more l t h.leaves.1 in
      record {
        grows = both s t (end_state (target path more l t)) h.grows at.grows;
        goes_on = λ others. subst (λ x. RequestGoesOn others (target path more l t) (run_answer target at_fault status page params x)) (sym (h.goes_on others)) (at.goes_on others);
        pieces = at.pieces;
      }
  run_at s (Ended (redirects location) t) ds h leaves =
      record { grows = h.grows; goes_on = λ more. ap (run_answer target at_fault status page params) (h.goes_on more); pieces = sym h.leaves }
  run_at s (Awaits step t) ds h leaves = record {
    grows = h.grows;
    goes_on = λ more. ((h.goes_on more).0, run_asks step t more (ds more) (leaves more) (h.goes_on more).1, (h.goes_on more).2);
    pieces = tt;
  }

  pub run_orderly : (part : State → Did) → Orderly left part → (s : State) → AnswerOrderly s (run_answer target at_fault status page params (part s)) (λ more. run_answer target at_fault status page params (part (with_more more s)))
  run_orderly part h s = run_at s (part s) (λ more. part (with_more more s)) (h s) (λ more. (h (with_more more s)).leaves)

-- from the first state of a page's run
started : (s : State) (page : Page) → s.writer.pieces ≡ [] → Grows s (at_start page s)
started s page none = quiet s (at_start page s) refl (sym none) refl

target_orderly : (run : Page → State → Answered) → ((page : Page) → AnswersOrderly (run page)) → (status : Status) (path : List ℕ) (paged : Paged)
    → AnswersOrderly (target_answer run status path paged)
target_orderly run h status path absent = plain_line_orderly status_is.NotFound (codes "NotFound")
target_orderly run h status path (plain t) = whole_orderly status (file_type path) t
target_orderly run h status path (bad f) = plain_line_orderly status_is.InternalServerError (page_fault_line f)
target_orderly run h status path (good page) = h page

module _ (served : Served) (at_fault : OnFault) (status : Status) (faults : (page : Page) (params : List Param) (r : Raise) → AnswersOrderly (at_fault page params r)) where
  pub chain_orderly : (n left : ℕ) (page : Page) (params : List Param) → AnswersOrderly (chain_answer served at_fault status n left page params)
  chain_orderly zero left page params s none =
      let at = run_orderly left (λ path more l s1. plain_line status_is.InternalServerError [] s1) at_fault status page params
      (λ path more l. plain_line_orderly status_is.InternalServerError []) (faults page params) (page_run (nodes_mean served (below served left)) page params)
      (first_orderly served left page params) (at_start page s) in
      record { grows = both s (at_start page s) (end_state (chain_answer served at_fault status zero left page params s)) (started s page none) at.grows; goes_on = at.goes_on; pieces = at.pieces }
  chain_orderly (suc n) left page params s none =
      let at = run_orderly left (λ path more l s1. target_answer (λ p s2. chain_answer served at_fault status n l p more s2) status path (served.pages path) s1) at_fault status page params
      (λ path more l. target_orderly (λ p s2. chain_answer served at_fault status n l p more s2) (λ p. chain_orderly n l p more) status path (served.pages path)) (faults page params)
      (page_run (nodes_mean served (below served left)) page params) (first_orderly served left page params) (at_start page s) in
      record { grows = both s (at_start page s) (end_state (chain_answer served at_fault status (suc n) left page params s)) (started s page none) at.grows; goes_on = at.goes_on; pieces = at.pieces }
