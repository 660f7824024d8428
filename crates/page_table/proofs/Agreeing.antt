-- The rows of calls, includes, beans and loops agree with the meaning.
use Rattle.std.proofs.Common.{◌≡◌, ℕ, zero, suc, Bool, true, false, List, [], ◌∷◌, Some, None, Result, Ok, Err, refl}
use Rattle.std.specs.Prelude.{◌&&◌, is_some}
use Rattle.http_in.specs.declared.params.Param.{Param}
use Rattle.pg_text.specs.declared.place.Place.{Place}
use Rattle.pg_text.specs.declared.resolution.BadPath.{BadPath}
use Rattle.pg_value.specs.Datum.{Datum}
use Rattle.pg_value.specs.Value.{value_of}
use Rattle.pg_value.specs.declared.fault.RunFault.{RunFault}
use Rattle.pg_value.specs.declared.fault.RunFault.TheVariants as fault
use Rattle.scopes.specs.Scopes.{found_in, with_frame, with_frame_of, with_variable, set_answer}
use Rattle.scopes.specs.declared.held_scope.HeldScope.{HeldScope}
use Rattle.site_words.specs.Law.{Answer}
use Rattle.site_words.specs.declared.words.AppStep.TheVariants as step
use Rattle.page_meaning.specs.Includes.{target_path, target_params, is_page_path, fetched_or_fault, ask_page, starts_session, session_started, included_end, include_path, include_at}
use Rattle.page_meaning.specs.Includes as includes
use Rattle.page_meaning.specs.Fragments.{given_deeper}
use Rattle.page_meaning.specs.State.{State, in_scopes}
use Rattle.site_words.specs.PageSteps.{tells_created}
use Rattle.page_meaning.specs.Tags.{call_run}
use Rattle.page_meaning.specs.Variables.{set_held}
use Rattle.page_meaning.specs.Went.{Went, Did, Well, Raised, Ended, Awaits, then_do, either, result_of}
use Rattle.page_meaning.specs.Work.{is_spent, fetched, ask}
use Rattle.page_table.specs.Agreement.{deeper_as, given_of, MoveAgrees, CallsAgree, FragmentsAgree, IncludesAgree, BeansAgree, LoopsAgree, RowsAgree}
use Rattle.page_table.specs.Calls.{call_back, given_entered}
use Rattle.page_table.specs.Landing.{Running, land}
use Rattle.page_table.specs.Move.{Into, then_move, one_deeper}
use Rattle.page_table.specs.Open.{Open, fresh_open}
use Rattle.page_table.specs.Pages as pages
use Rattle.page_table.specs.Program.{Program, Stored, absent, plain, bad, good, Serving, page_of, paged_of, served_of}
use Rattle.page_table.specs.Seat.{CallSeat, Seat, in_page, in_tag, called_of, nothing, source_text, code_at, here_of}

calls_agree : CallsAgree
calls_agree place call entries caller to s o = go o.left
  where
    go : (left : ℕ) → MoveAgrees to o (λ run. call_run (deeper_as run left) place (called_of call) entries (here_of caller) s)
        (one_deeper place s o left (λ l. Into (in_tag call caller)
        (Running 0 (in_scopes (with_frame_of entries s.scopes) s) (fresh_open l))
        (λ d. land to (λ u. o.stack) o (call_back call s d))))
    go zero = λ run. refl
    go (suc left) = λ run. refl

text_agrees : (place : Place) (text : List ℕ) (call : CallSeat) (caller : Seat) (to : ℕ) (s : State) (o : Open) (left : ℕ)
    → MoveAgrees to o (λ run. given_deeper (deeper_as run left) place (given_of (source_text text)) (here_of (in_tag call caller)) s)
    (one_deeper place s o left (λ l. given_entered place l (source_text text) call caller to s o))
text_agrees place text call caller to s o zero = λ run. refl
text_agrees place text call caller to s o (suc left) = λ run. refl

code_agrees : (place : Place) (at : ℕ) (call : CallSeat) (caller : Seat) (to : ℕ) (s : State) (o : Open) (left : ℕ)
    → MoveAgrees to o (λ run. given_deeper (deeper_as run left) place (given_of (code_at at)) (here_of (in_tag call caller)) s)
    (one_deeper place s o left (λ l. given_entered place l (code_at at) call caller to s o))
code_agrees place at call caller to s o zero = λ run. refl
code_agrees place at call caller to s o (suc left) = λ run. refl

fragments_agree : FragmentsAgree
fragments_agree place nothing seat to s o = λ run. refl
fragments_agree place (source_text t) (in_page program params) to s o = λ run. refl
fragments_agree place (code_at at) (in_page program params) to s o = λ run. refl
fragments_agree place (source_text t) (in_tag call caller) to s o = text_agrees place t call caller to s o o.left
fragments_agree place (code_at at) (in_tag call caller) to s o = code_agrees place at call caller to s o o.left

-- includes
abbrev begun_if : Bool → List Answer → State → Did
begun_if b answers t = either b (session_started answers) (λ s1. Well tt s1) t

page_agrees : (serving : Serving) (place : Place) (params : List Param) (left : ℕ) (program : Program) (to : ℕ) (s t : State) (o : Open) (b : Bool) (answers : List Answer)
    → MoveAgrees to o (λ run. included_end place s (then_do (begun_if b answers t) (λ u s1. run (here_of (in_page program params)) s1)))
    (pages.page_entered program params left (λ d. land to (λ u. o.stack) o (included_end place s d)) (begun_if b answers t))
page_agrees serving place params left program to s t o false answers = λ run. refl
page_agrees serving place params left program to s t o true [] = λ run. refl
page_agrees serving place params left program to s t o true (answer ∷ rest) = λ run. refl

included_agrees : (serving : Serving) (place : Place) (params : List Param) (left : ℕ) (found : Stored) (to : ℕ) (s : State) (o : Open)
    → MoveAgrees to o (λ run. includes.included (λ nodes here s1. run here s1) place params (paged_of found) s) (pages.included place params left found to s o)
included_agrees serving place params left absent to s o = λ run. refl
included_agrees serving place params left (plain content) to s o = λ run. refl
included_agrees serving place params left (bad f) to s o = λ run. refl
included_agrees serving place params left (good program) to s o =
    let t = in_scopes (with_frame s.scopes) s in
    page_agrees serving place params left program to s t o (starts_session (page_of program) t) t.answers

asked_agrees : (serving : Serving) (place : Place) (params : List Param) (left : ℕ) (path : List ℕ) (found : Stored) (to : ℕ) (s : State) (o : Open) (b : Bool)
    → MoveAgrees to o
    (λ run. then_do (either b (Raised fault.AppTooMuch place) (fetched_or_fault place path (paged_of found)) s) (λ paged s1. includes.included (λ nodes here s2. run here s2) place params paged s1))
    (then_move o (either b (Raised fault.AppTooMuch place) (fetched_or_fault place path (paged_of found)) s) (λ paged s1. pages.included place params left found to s1 o))
asked_agrees serving place params left path found to s o true = λ run. refl
asked_agrees serving place params left path absent to s o false = λ run. refl
asked_agrees serving place params left path (bad f) to s o false = λ run. refl
asked_agrees serving place params left path (plain content) to s o false = included_agrees serving place params left (plain content) to s o
asked_agrees serving place params left path (good program) to s o false = included_agrees serving place params left (good program) to (fetched path s) o

path_agrees : (serving : Serving) (place : Place) (params : List Param) (path : List ℕ) (to : ℕ) (s : State) (o : Open) (left : ℕ)
    → MoveAgrees to o (λ run. include_path (served_of serving) (deeper_as run left) place params path s)
    (one_deeper place s o left (λ l. then_move o (ask_page (served_of serving) place path s) (λ paged s1. pages.included place params l (serving.stored path) to s1 o)))
path_agrees serving place params path to s o zero = λ run. refl
path_agrees serving place params path to s o (suc left) = asked_agrees serving place params left path (serving.stored path) to s o (is_page_path path && is_spent s)

at_agrees : (serving : Serving) (place : Place) (params : List Param) (r : Result (List ℕ) BadPath) (to : ℕ) (s : State) (o : Open)
    → MoveAgrees to o (λ run. include_at (served_of serving) (deeper_as run o.left) place params r s) (pages.include_at serving place params r to s o)
at_agrees serving place params (Ok path) to s o = path_agrees serving place params path to s o o.left
at_agrees serving place params (Err reason) to s o = λ run. refl

includes_agree : IncludesAgree
includes_agree serving place page target params to s o = at_agrees serving place (target_params page target params) (target_path page target) to s o

-- beans
abbrev set_so : Place → HeldScope → List ℕ → Datum → State → Result Unit RunFault → Did
set_so place sc name bean s r = then_do (result_of place r s) (λ u s1. Well tt (in_scopes (with_variable s1.scopes sc name bean) s1))

held_agrees : (place : Place) (sc : HeldScope) (name : List ℕ) (bean : Datum) (body : State → Did) (s : State) (r : Result Unit RunFault)
    → then_do (set_so place sc name bean s r) (λ u s2. body s2) ≡ then_do (then_do (set_so place sc name bean s r) (λ u s2. Well true s2)) (λ made s1. either made body (Well tt) s1)
held_agrees place sc name bean body s (Ok u) = refl
held_agrees place sc name bean body s (Err f) = refl

made_agrees : (place : Place) (sc : HeldScope) (name : List ℕ) (bean : Datum) (body : State → Did) (s : State) (b : Bool)
    → either b (Well tt) (λ s1. then_do (set_held place sc name bean s1) (λ u s2. body s2)) s
    ≡ then_do (either b (Well false) (λ s1. then_do (set_held place sc name bean s1) (λ u s2. Well true s2)) s) (λ made s1. either made body (Well tt) s1)
made_agrees place sc name bean body s true = refl
made_agrees place sc name bean body s false = held_agrees place sc name bean body s (set_answer s.scopes sc name bean)

asked_bean : (w : Went Answer) (body : State → Did)
    → then_do w (λ answer s1. either (tells_created answer) body (Well tt) s1) ≡ then_do (then_do w (λ answer s1. Well (tells_created answer) s1)) (λ made s1. either made body (Well tt) s1)
asked_bean (Well a s) body = refl
asked_bean (Raised f place s) body = refl
asked_bean (Ended leaving s) body = refl
asked_bean (Awaits step s) body = refl

beans_agree : BeansAgree
beans_agree place (Some sc) name bean body s = made_agrees place sc name bean body s (is_some (found_in s.scopes sc name))
beans_agree place None name bean body s = asked_bean (ask place (step.Ensure name (value_of bean)) s) body

loops_agree : LoopsAgree
loops_agree place loop outer again behind body s o = refl

pub rows_agree : RowsAgree
rows_agree = record { calls = calls_agree; fragments = fragments_agree; includes = includes_agree; beans = beans_agree; loops = loops_agree }
