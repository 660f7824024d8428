-- Every move that ends a run by a forward has looked for its target last; so does a run.
use Rattle.std.proofs.Common.{◌≡◌, ◌+◌, ◌-◌, ℕ, zero, suc, Bool, true, false, List, [], ◌∷◌, ◌++◌, length, Option, Some, None, Result, Ok, Err, refl, sym, subst}
use Rattle.std.specs.Prelude.{◌&&◌, ⊤, slice_get, codes}
use Rattle.std.specs.List.{list_any}
use Rattle.http_in.specs.declared.params.Param.{Param}
use Rattle.jstl_functions.specs.Texts.{contains_part}
use Rattle.out_buffer.specs.Writer.{has_committed, cleared}
use Rattle.page_code.specs.Calls.{call_size}
use Rattle.page_code.specs.Ops.{takes, address_with}
use Rattle.page_code.specs.declared.call.CallOut.{CallOut}
use Rattle.page_code.specs.declared.call.CallOut.TheVariants as call
use Rattle.page_code.specs.declared.call.Leave.{Leave}
use Rattle.page_code.specs.declared.call.Leave.TheVariants as leave
use Rattle.page_code.specs.declared.call.TagCall.{TagCall}
use Rattle.page_code.specs.declared.code.Cell.{Cell}
use Rattle.page_code.specs.declared.instr.Instr.{Instr}
use Rattle.page_code.specs.declared.instr.Instr.TheVariants as instr
use Rattle.page_meaning.specs.Addresses.{is_control, local_url, redirect_mean}
use Rattle.page_meaning.specs.Attributes.{table_of}
use Rattle.page_meaning.specs.Bodies.{put_text}
use Rattle.page_meaning.specs.Context.{Run}
use Rattle.page_meaning.specs.Core.{is_caught}
use Rattle.page_meaning.specs.Includes.{ask_page, fetched_or_fault, forward_at, forward_mean, forward_path, included_end, is_page_path, left_for, session_started, starts_session, target_params, target_path}
use Rattle.page_meaning.specs.Loops.{round_begun}
use Rattle.page_meaning.specs.Meaning.{flush_if}
use Rattle.page_meaning.specs.Rounds.{Round}
use Rattle.page_meaning.specs.State.{State, in_scopes, in_writer}
use Rattle.page_meaning.specs.Tags.{first_frame}
use Rattle.page_meaning.specs.Variables.{back_to}
use Rattle.page_meaning.specs.Went.{Went, Did, Well, Raised, Ended, Awaits, forwards, redirects, then_do, either, tidied, result_of}
use Rattle.page_meaning.specs.Work.{fetched, is_spent}
use Rattle.page_table.specs.Act.{act, act_at, bean_made, brought_up, called_out, catch_closed, is_same_truth, is_true, jump_null, leaving, move_of}
use Rattle.page_table.specs.Calls.{call_back, call_entered, call_of, copied_to_caller, given_called, given_deeper, given_entered, tag_called}
use Rattle.page_table.specs.Landing.{Config, Running, Over, caught_by, land, one_of, then_at, thrown, uncaught}
use Rattle.page_table.specs.LoopMoves.{loop_next, loop_rounds, next_round, with_loop}
use Rattle.page_table.specs.Move.{Move, On, Into, Stuck, one_deeper, popped, popped_all, popped_onto, then_move}
use Rattle.page_table.specs.Open.{Loop, Open, OpenCatch, fresh_open}
use Rattle.page_table.specs.Operations.{behind_first, levels, operation, params_in, text_at}
use Rattle.page_table.specs.Pages.{import_called, include_at, include_called, included, page_begun, page_entered}
use Rattle.page_table.specs.Program.{Program, TagCode, Stored, absent, plain, bad, good, Serving, page_of, paged_of, served_of, tag_at}
use Rattle.page_table.specs.Runs.{EndsBehind, Runs, over, on, into}
use Rattle.page_table.specs.Seat.{CallSeat, Given, Seat, body_in, code_at, code_of, fragment_in, in_page, in_tag, nothing, page_run_of, program_of, source_text}
use Rattle.pg_text.specs.declared.place.Place.{Place}
use Rattle.pg_text.specs.declared.resolution.BadPath.{BadPath}
use Rattle.pg_value.specs.Datum as datum
use Rattle.pg_value.specs.Datum.{Datum, null, truth, number, text, rec}
use Rattle.pg_value.specs.Value.{datum_of}
use Rattle.pg_value.specs.declared.fault.RunFault.{RunFault}
use Rattle.pg_value.specs.declared.fault.RunFault.TheVariants as fault
use Rattle.scopes.specs.HeldScope.{held_scope}
use Rattle.scopes.specs.Scopes.{Entries, with_frame}
use Rattle.site_words.specs.Law.{Answer}
use Rattle.out_buffer.specs.Writer.{body_answer, innermost, without_body}
use Rattle.page_targets.specs.Targets.{IsTarget, LooksLast, RunsLookLast}
use Rattle.page_targets.proofs.Parts.{IsOn, result}
use Rattle.page_targets.proofs.Words.{bean_on, operation_on, put_text_on, round_on}

module _ (serving : Serving) where
  abbrev So : {A : Type 0} → Went A → Type 0
  So w = LooksLast serving w

  -- what didn't end the page
  on_so : {A : Type 0} (w : Went A) → IsOn w → So w
  on_so (Well a s) h = tt
  on_so (Raised f place s) h = tt
  on_so (Ended leaving s) h = absurd h.on
  on_so (Awaits step s) h = tt

  -- where a run stands
  abbrev ConfigSo : Config → Type 0
  ConfigSo (Running pc s o) = ⊤
  ConfigSo (Over d) = So d

  one_of_so : (b : Bool) (c other : Config) → ConfigSo c → ConfigSo other → ConfigSo (one_of b c other)
  one_of_so true c other h g = h
  one_of_so false c other h g = g

  caught_so : (f : RunFault) (place : Place) (s : State) (o : Open) (catches : List OpenCatch) → ConfigSo (caught_by f place s o catches)
  caught_so f place s o [] = tt
  caught_so f place s o (c ∷ outer) = tt

  thrown_so : (f : RunFault) (place : Place) (s : State) (o : Open) → ConfigSo (thrown f place s o)
  thrown_so f place s o = one_of_so (is_caught f) (caught_by f place s o o.catches) (uncaught f place s o) (caught_so f place s o o.catches) tt

  then_at_so : {A : Type 0} (o : Open) (w : Went A) (go : A → State → Config) → So w → ((a : A) (t : State) → ConfigSo (go a t)) → ConfigSo (then_at o w go)
  then_at_so o (Well a t) go g h = h a t
  then_at_so o (Raised f place t) go g h = thrown_so f place t o
  then_at_so o (Ended leaving t) go g h = g
  then_at_so o (Awaits step t) go g h = tt

  land_so : {A : Type 0} (to : ℕ) (values : A → List Datum) (o : Open) (w : Went A) → So w → ConfigSo (land to values o w)
  land_so to values o w g = then_at_so o w (λ a t. Running to t (record o { stack = values a })) g (λ a t. tt)

  -- a move, and the run that it goes into
  abbrev MoveSo : Move → Type 0
  MoveSo (On c) = ConfigSo c
  MoveSo (Into callee first back) = ConfigSo first × ((d : Did) → So d → ConfigSo (back d))
  MoveSo Stuck = ⊤

  then_move_so : {A : Type 0} (o : Open) (w : Went A) (go : A → State → Move) → So w → ((a : A) (t : State) → MoveSo (go a t)) → MoveSo (then_move o w go)
  then_move_so o (Well a t) go g h = h a t
  then_move_so o (Raised f place t) go g h = thrown_so f place t o
  then_move_so o (Ended leaving t) go g h = g
  then_move_so o (Awaits step t) go g h = tt

  popped_so : (o : Open) (stack : List Datum) (go : Datum → Open → Move) → ((d : Datum) (rest : List Datum) → MoveSo (go d (record o { stack = rest }))) → MoveSo (popped o stack go)
  popped_so o [] go h = tt
  popped_so o (d ∷ rest) go h = h d rest

  popped_onto_so : (n : ℕ) (o : Open) (stack ds : List Datum) (go : List Datum → Open → Move) → ((ds rest : List Datum) → MoveSo (go ds (record o { stack = rest }))) → MoveSo (popped_onto n o stack ds go)
  popped_onto_so zero o stack ds go h = h ds stack
  popped_onto_so (suc n) o [] ds go h = tt
  popped_onto_so (suc n) o (d ∷ stack) ds go h = popped_onto_so n o stack (d ∷ ds) go h

  popped_all_so : (n : ℕ) (o : Open) (go : List Datum → Open → Move) → ((ds rest : List Datum) → MoveSo (go ds (record o { stack = rest }))) → MoveSo (popped_all n o go)
  popped_all_so n o go h = popped_onto_so n o o.stack [] go h

  deeper_so : (place : Place) (s : State) (o : Open) (left : ℕ) (go : (left : ℕ) → Move) → ((left : ℕ) → MoveSo (go left)) → MoveSo (one_deeper place s o left go)
  deeper_so place s o zero go h = thrown_so fault.TooDeep place s o
  deeper_so place s o (suc left) go h = h left

  -- calls
  tidied_so : {A : Type 0} (change : State → State) (w : Went A) → So w → So (tidied change w)
  tidied_so change (Well a t) h = tt
  tidied_so change (Raised f place t) h = tt
  tidied_so change (Ended leaving t) h = h
  tidied_so change (Awaits step t) h = tt

  call_back_so : (c : CallSeat) (before : State) (d : Did) → So d → So (call_back c before d)
  call_back_so c before (Well u t) h = tt
  call_back_so c before (Raised f place t) h = tt
  call_back_so c before (Ended leaving t) h = h
  call_back_so c before (Awaits step t) h = tt

  entered_so : (place : Place) (c : CallSeat) (entries : Entries) (caller : Seat) (to : ℕ) (s : State) (o : Open) → MoveSo (call_entered place c entries caller to s o)
  entered_so place c entries caller to s o = deeper_so place s o o.left _ (λ left. (tt, λ d h. land_so to (λ u. o.stack) o (call_back c s d) (call_back_so c s d h)))

  tag_so : (place : Place) (found : Option TagCode) (c : TagCall) (behind : ℕ) (ds : List Datum) (caller : Seat) (s : State) (o : Open) → MoveSo (tag_called place found c behind ds caller s o)
  tag_so place None c behind ds caller s o = tt
  tag_so place (Some tag) c behind ds caller s o =
      let r = first_frame tag.decl (table_of c.names ds) in
      then_move_so o (result_of place r s) (λ entries s1. call_entered place (call_of tag c behind entries s1) entries caller (behind + call_size c) s1 o) (on_so (result_of place r s) (result place r s))
      (λ entries t. entered_so place (call_of tag c behind entries t) entries caller (behind + call_size c) t o)

  given_entered_so : (place : Place) (left : ℕ) (g : Given) (c : CallSeat) (caller : Seat) (to : ℕ) (s : State) (o : Open) → MoveSo (given_entered place left g c caller to s o)
  given_entered_so place left nothing c caller to s o = tt
  given_entered_so place left (source_text t) c caller to s o =
      let w = put_text place t (copied_to_caller c s) in
      land_so to (λ v. o.stack) o (tidied (back_to s.scopes) w) (tidied_so (back_to s.scopes) w (on_so w (put_text_on place t (copied_to_caller c s))))
  given_entered_so place left (code_at at) c caller to s o = (tt, λ d h. land_so to (λ u. o.stack) o (tidied (back_to s.scopes) d) (tidied_so (back_to s.scopes) d h))

  given_deeper_so : (place : Place) (g : Given) (seat : Seat) (to : ℕ) (s : State) (o : Open) → MoveSo (given_deeper place g seat to s o)
  given_deeper_so place g (in_page program params) to s o = tt
  given_deeper_so place g (in_tag c caller) to s o = deeper_so place s o o.left _ (λ left. given_entered_so place left g c caller to s o)

  given_so : (place : Place) (g : Given) (seat : Seat) (to : ℕ) (s : State) (o : Open) → MoveSo (given_called place g seat to s o)
  given_so place nothing seat to s o = tt
  given_so place (source_text t) seat to s o = given_deeper_so place (source_text t) seat to s o
  given_so place (code_at at) seat to s o = given_deeper_so place (code_at at) seat to s o

  -- pages
  included_end_so : (place : Place) (before : State) (d : Did) → So d → So (included_end place before d)
  included_end_so place before (Well u t) h = tt
  included_end_so place before (Raised f p t) h = tt
  included_end_so place before (Ended (redirects location) t) h = tt
  included_end_so place before (Ended (forwards path params left) t) h = h
  included_end_so place before (Awaits step t) h = tt

  started_so : (s : State) (answers : List Answer) → So (session_started answers s)
  started_so s [] = tt
  started_so s (answer ∷ rest) = tt

  either_so : {A : Type 0} (b : Bool) (one other : State → Went A) (s : State) → So (one s) → So (other s) → So (either b one other s)
  either_so true one other s h g = h
  either_so false one other s h g = g

  begun_so : (program : Program) (s : State) → So (page_begun program s)
  begun_so program s = either_so (starts_session (page_of program) s) (session_started s.answers) (λ s1. Well tt s1) s (started_so s s.answers) tt

  page_so : (program : Program) (params : List Param) (left : ℕ) (back : Did → Config) (d : Did) → So d → ((r : Did) → So r → ConfigSo (back r)) → MoveSo (page_entered program params left back d)
  page_so program params left back (Well u t) g h = (tt, h)
  page_so program params left back (Raised f place t) g h = h (Raised f place t) g
  page_so program params left back (Ended leaving t) g h = h (Ended leaving t) g
  page_so program params left back (Awaits step t) g h = h (Awaits step t) g

  included_so : (place : Place) (params : List Param) (left : ℕ) (found : Stored) (to : ℕ) (s : State) (o : Open) → MoveSo (included place params left found to s o)
  included_so place params left absent to s o = tt
  included_so place params left (plain t) to s o = land_so to (λ u. o.stack) o (put_text place t s) (on_so (put_text place t s) (put_text_on place t s))
  included_so place params left (bad f) to s o = tt
  included_so place params left (good program) to s o =
      let t = in_scopes (with_frame s.scopes) s in
      page_so program params left (λ d. land to (λ u. o.stack) o (included_end place s d)) (page_begun program t) (begun_so program t)
      (λ d h. land_so to (λ u. o.stack) o (included_end place s d) (included_end_so place s d h))

  -- what stands at a path never ends a page
  fetched_so : (place : Place) (path : List ℕ) (found : Stored) (s : State) → So (fetched_or_fault place path (paged_of found) s)
  fetched_so place path absent s = tt
  fetched_so place path (plain t) s = tt
  fetched_so place path (bad f) s = tt
  fetched_so place path (good program) s = tt

  asked_so : (place : Place) (path : List ℕ) (s : State) → So (ask_page (served_of serving) place path s)
  asked_so place path s =
      either_so (is_page_path path && is_spent s) (Raised fault.AppTooMuch place) (fetched_or_fault place path (paged_of (serving.stored path))) s tt (fetched_so place path (serving.stored path) s)

  include_at_so : (place : Place) (params : List Param) (r : Result (List ℕ) BadPath) (to : ℕ) (s : State) (o : Open) → MoveSo (include_at serving place params r to s o)
  include_at_so place params (Err reason) to s o = thrown_so fault.NoSuchPage place s o
  include_at_so place params (Ok path) to s o =
      deeper_so place s o o.left _ (λ left. then_move_so o (ask_page (served_of serving) place path s) (λ paged s1. included place params left (serving.stored path) to s1 o) (asked_so place path s)
      (λ paged t. included_so place params left (serving.stored path) to t o))

  include_so : (place : Place) (run : Run) (target : List ℕ) (params : List Param) (to : ℕ) (s : State) (o : Open) → MoveSo (include_called serving place run target params to s o)
  include_so place run target params to s o = include_at_so place (target_params run target params) (target_path run target) to s o

  import_so : (place : Place) (run : Run) (target : List ℕ) (to : ℕ) (s : State) (o : Open) → MoveSo (import_called serving place run target to s o)
  import_so place run target to s o =
      then_move_so o (local_url place target (λ s1. Well tt s1) s) (λ u s1. include_called serving place run target [] to s1 o)
      (either_so (contains_part (codes "://") target) (Raised fault.BadUrl place) (λ s1. Well tt s1) s tt tt) (λ u t. include_so place run target [] to t o)

  -- a forward has looked for its target last
  target_so : (place : Place) (path : List ℕ) (params : List Param) (left : ℕ) (found : Stored) (s : State) → serving.stored path ≡ found
      → So (then_do (fetched_or_fault place path (paged_of found) s) (λ paged s1. left_for path params left s1))
  target_so place path params left absent s is = tt
  target_so place path params left (plain t) s is = subst (λ f. IsTarget f path (in_writer (cleared s.writer) s)) (sym is) tt
  target_so place path params left (bad f) s is = tt
  target_so place path params left (good program) s is = subst (λ f. IsTarget f path (in_writer (cleared s.writer) (fetched path s))) (sym is) (record { before = s.asked; last = refl })

  spent_so : (b : Bool) (place : Place) (path : List ℕ) (params : List Param) (left : ℕ) (s : State)
      → So (then_do (either b (Raised fault.AppTooMuch place) (fetched_or_fault place path (paged_of (serving.stored path))) s) (λ paged s1. left_for path params left s1))
  spent_so true place path params left s = tt
  spent_so false place path params left s = target_so place path params left (serving.stored path) s refl

  forward_path_so : (n : ℕ) (place : Place) (params : List Param) (path : List ℕ) (s : State) → So (forward_path (served_of serving) (levels n) place params path s)
  forward_path_so zero place params path s = tt
  forward_path_so (suc n) place params path s = spent_so (is_page_path path && is_spent s) place path params n s

  forward_at_so : (n : ℕ) (place : Place) (params : List Param) (r : Result (List ℕ) BadPath) (s : State) → So (forward_at (served_of serving) (levels n) place params r s)
  forward_at_so n place params (Ok path) s = forward_path_so n place params path s
  forward_at_so n place params (Err reason) s = tt

  forward_so : (n : ℕ) (place : Place) (run : Run) (target : List ℕ) (params : List Param) (s : State) → So (forward_mean (served_of serving) (levels n) place run target params s)
  forward_so n place run target params s =
      either_so (has_committed s.writer) (Raised fault.Committed place) (forward_at (served_of serving) (levels n) place (target_params run target params) (target_path run target)) s tt
      (forward_at_so n place (target_params run target params) (target_path run target) s)

  redirect_so : (place : Place) (url : List ℕ) (s : State) → So (redirect_mean place url s)
  redirect_so place url s =
      either_so (has_committed s.writer) (Raised fault.Committed place) (either (list_any is_control url) (Raised fault.BadUrl place) (Ended (redirects url))) s tt
      (either_so (list_any is_control url) (Raised fault.BadUrl place) (Ended (redirects url)) s tt tt)

  -- loops and the rest
  next_round_so : (place : Place) (loop : Loop) (outer : List Loop) (rounds : List Round) (again behind : ℕ) (s : State) (o : Open) → ConfigSo (next_round place loop outer rounds again behind s o)
  next_round_so place loop outer [] again behind s o = tt
  next_round_so place loop outer (r ∷ rest) again behind s o =
      let w = round_begun place loop.variable loop.status loop.values r s in
      then_at_so o w (λ u s1. Running again s1 (record o { loops = record loop { rounds = rest } ∷ outer })) (on_so w (round_on place loop.variable loop.status loop.values r s)) (λ u t. tt)

  loop_so : (place : Place) (loops : List Loop) (again behind : ℕ) (s : State) (o : Open) → MoveSo (loop_next place loops again behind s o)
  loop_so place [] again behind s o = tt
  loop_so place (loop ∷ outer) again behind s o = next_round_so place loop outer loop.rounds again behind s o

  null_so : (d : Datum) (to behind : ℕ) (s : State) (o p : Open) → ConfigSo (jump_null d to behind s o p)
  null_so null to behind s o p = tt
  null_so (truth b) to behind s o p = tt
  null_so (number n) to behind s o p = tt
  null_so (text t) to behind s o p = tt
  null_so (datum.list is) to behind s o p = tt
  null_so (rec es) to behind s o p = tt

  brought_so : (found : Option Datum) (n to : ℕ) (s : State) (o : Open) → MoveSo (brought_up found n to s o)
  brought_so None n to s o = tt
  brought_so (Some d) n to s o = tt

  closed_so : (catches : List OpenCatch) (to : ℕ) (s : State) (o : Open) → MoveSo (catch_closed catches to s o)
  closed_so [] to s o = tt
  closed_so (c ∷ outer) to s o = tt

  called_so : (seat : Seat) (place : Place) (behind : ℕ) (c : CallOut) (s : State) (o : Open) → MoveSo (called_out serving seat place behind c s o)
  called_so seat place behind (call.Tag c) s o =
      popped_all_so (length c.names) o _ (λ ds rest. tag_so place (tag_at c.path (program_of seat).tags) c behind ds seat s (record o { stack = rest }))
  called_so seat place behind call.Body s o = given_so place (body_in seat) seat behind s o
  called_so seat place behind (call.Fragment name) s o = given_so place (fragment_in name seat) seat behind s o
  called_so seat place behind (call.Include flush params) s o =
      popped_all_so (address_with params) o _ (λ ds rest. include_so place (page_run_of seat) (text_at 0 ds) (params_in (behind_first ds)) behind (flush_if flush s) (record o { stack = rest }))
  called_so seat place behind call.Import s o = popped_all_so 1 o _ (λ ds rest. import_so place (page_run_of seat) (text_at 0 ds) behind s (record o { stack = rest }))

  leaving_so : (seat : Seat) (place : Place) (how : Leave) (s : State) (o : Open) → MoveSo (leaving serving seat place how s o)
  leaving_so seat place (leave.Forward params) s o =
      popped_all_so (address_with params) o _ (λ ds rest.
      then_at_so (record o { stack = rest }) (forward_mean (served_of serving) (levels o.left) place (page_run_of seat) (text_at 0 ds) (params_in (behind_first ds)) s) (λ u s1. Over (Well u s1))
      (forward_so o.left place (page_run_of seat) (text_at 0 ds) (params_in (behind_first ds)) s) (λ u t. tt))
  leaving_so seat place leave.Redirect s o =
      popped_all_so 1 o _ (λ ds rest. then_at_so (record o { stack = rest }) (redirect_mean place (text_at 0 ds) s) (λ u s1. Over (Well u s1)) (redirect_so place (text_at 0 ds) s) (λ u t. tt))
  leaving_so seat place leave.End s o = tt

  act_so : (seat : Seat) (place : Place) (pc : ℕ) (s : State) (o : Open) (i : Instr) → MoveSo (act serving seat place pc s o i)
  act_so seat place pc s o (instr.Op op) =
      popped_all_so (takes op) o _ (λ ds rest.
      land_so (pc + 1) (λ made. made ++ rest) (record o { stack = rest }) (operation serving seat place op ds s) (on_so (operation serving seat place op ds s) (operation_on serving seat place op ds s)))
  act_so seat place pc s o (instr.Take n) = brought_so (slice_get o.stack n) n (pc + 1) s o
  act_so seat place pc s o instr.StartBody = tt
  act_so seat place pc s o instr.TakeBody =
      let r = body_answer (innermost s.writer.kept) in
      let t = in_writer (without_body s.writer) s in
      land_so (pc + 1) (λ t. text t ∷ o.stack) o (result_of place r t) (on_so (result_of place r t) (result place r t))
  act_so seat place pc s o (instr.Jump n) = tt
  act_so seat place pc s o (instr.JumpIf b n) =
      popped_so o o.stack _ (λ d rest.
      let p : Open = record o { stack = rest } in one_of_so (is_same_truth b (is_true d)) (Running (pc + 1 + n) s p) (Running (pc + 1) s p) tt tt)
  act_so seat place pc s o (instr.JumpNull n) = popped_so o o.stack _ (λ d rest. null_so d (pc + 1 + n) (pc + 1) s o (record o { stack = rest }))
  act_so seat place pc s o (instr.Ensure x bean n) =
      let w = bean_made place (held_scope x.scope) x.name (datum_of bean) s in
      then_at_so o w (λ made s1. one_of made (Running (pc + 1) s1 o) (Running (pc + 1 + n) s1 o)) (on_so w (bean_on place (held_scope x.scope) x.name (datum_of bean) s))
      (λ made t. one_of_so made (Running (pc + 1) t o) (Running (pc + 1 + n) t o) tt tt)
  act_so seat place pc s o (instr.LoopStart kind) =
      popped_all_so (length kind.names) o _ (λ ds rest.
      let p : Open = record o { stack = rest } in
      let vs = table_of kind.names ds in
      let w = result_of place (loop_rounds kind.over vs) s in
      then_at_so p w (λ rounds s1. Running (pc + 1) s1 (with_loop (record { variable = kind.variable; status = kind.status; values = vs; rounds = rounds }) p))
      (on_so w (result place (loop_rounds kind.over vs) s)) (λ rounds t. tt))
  act_so seat place pc s o (instr.LoopNext n) = loop_so place o.loops (pc - n) (pc + 1) s o
  act_so seat place pc s o (instr.CatchStart n) = tt
  act_so seat place pc s o instr.CatchEnd = closed_so o.catches (pc + 1) s o
  act_so seat place pc s o (instr.CallOut c) = called_so seat place (pc + 1) c s o
  act_so seat place pc s o (instr.Leave how) = leaving_so seat place how s o

  move_so : (seat : Seat) (pc : ℕ) (s : State) (o : Open) → MoveSo (move_of serving seat pc s o)
  move_so seat pc s o = go (slice_get (code_of seat) pc)
    where
      go : (c : Option Cell) → MoveSo (act_at serving seat pc s o c)
      go None = tt
      go (Some c) = act_so seat c.place pc s o c.instr

  -- a run
  run_so : (seat : Seat) (c : Config) (d : Did) → Runs serving seat c d → ConfigSo c → So d
  run_so seat _ d (over _ _) h = h
  run_so seat _ d (on _ pc s o next _ e r) h = run_so seat next d r (subst MoveSo e (move_so seat pc s o))
  run_so seat _ d (into _ pc s o callee first back r _ e a b) h =
      let m = subst MoveSo e (move_so seat pc s o) in
      run_so seat (back r) d b (m.1 r (run_so callee first r a m.0))

  behind_so : (program : Program) (params : List Param) (left : ℕ) (begun d : Did) → So begun → EndsBehind serving program params left begun d → So d
  behind_so program params left (Well u s) d g h = run_so (in_page program params) (Running 0 s (fresh_open left)) d h tt
  behind_so program params left (Raised f place s) d g h = subst So (sym h) g
  behind_so program params left (Ended leaving s) d g h = subst So (sym h) g
  behind_so program params left (Awaits step s) d g h = subst So (sym h) g

pub runs_look_last : RunsLookLast
runs_look_last serving program params left s d runs = behind_so serving program params left (page_begun program s) d (begun_so serving program s) runs
