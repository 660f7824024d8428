-- Each row of the table only adds steps and pieces and keeps the levels that are left; so does a run.
use Rattle.std.proofs.Common.{◌≡◌, ◌+◌, ◌-◌, ℕ, suc, Bool, List, [], ◌∷◌, ◌++◌, length, Option, Some, None, Result, Ok, Err, refl, subst}
use Rattle.std.specs.Prelude.{slice_get}
use Rattle.http_in.specs.declared.params.Param.{Param}
use Rattle.page_code.specs.Calls.{call_size}
use Rattle.page_code.specs.Ops.{takes, address_with}
use Rattle.page_code.specs.declared.call.CallOut.{CallOut}
use Rattle.page_code.specs.declared.call.CallOut.TheVariants as call
use Rattle.page_code.specs.declared.call.Leave.{Leave}
use Rattle.page_code.specs.declared.call.Leave.TheVariants as leave
use Rattle.page_code.specs.declared.call.TagCall.{TagCall}
use Rattle.page_code.specs.declared.code.Cell.{Cell}
use Rattle.page_code.specs.declared.instr.Instr.{Instr}
use Rattle.page_code.specs.declared.instr.Instr.TheVariants as instr
use Rattle.pg_text.specs.declared.place.Place.{Place}
use Rattle.pg_text.specs.declared.resolution.BadPath.{BadPath}
use Rattle.pg_value.specs.Datum as datum
use Rattle.pg_value.specs.Datum.{Datum, null, truth, number, text, rec}
use Rattle.pg_value.specs.Value.{datum_of}
use Rattle.pg_value.specs.declared.fault.RunFault.TheVariants as fault
use Rattle.scopes.specs.HeldScope.{held_scope}
use Rattle.scopes.specs.Scopes.{Entries, with_frame}
use Rattle.out_buffer.specs.Writer.{with_body}
use Rattle.page_meaning.specs.Addresses.{local_url, redirect_mean}
use Rattle.page_meaning.specs.Attributes.{table_of}
use Rattle.page_meaning.specs.Bodies.{put_text, taken}
use Rattle.page_meaning.specs.Context.{Run}
use Rattle.page_meaning.specs.Growth.{state_of, Grows}
use Rattle.page_meaning.specs.Includes.{ask_page, included_end, target_path, target_params, forward_mean}
use Rattle.page_meaning.specs.Loops.{round_begun, without_named}
use Rattle.page_meaning.specs.Meaning.{flush_if}
use Rattle.page_meaning.specs.Rounds.{Round}
use Rattle.page_meaning.specs.State.{State, in_scopes, in_writer}
use Rattle.page_meaning.specs.Tags.{first_frame}
use Rattle.page_meaning.specs.Variables.{back_to}
use Rattle.page_meaning.specs.Went.{Did, Well, Raised, Ended, Awaits, forwards, redirects, tidied, result_of}
use Rattle.page_table.specs.Act.{is_true, is_same_truth, jump_null, brought_up, bean_made, catch_closed, called_out, leaving, act, act_at, move_of}
use Rattle.page_table.specs.Calls.{call_back, call_entered, call_of, tag_called, copied_to_caller, in_callers_frame, given_entered, given_deeper, given_called}
use Rattle.page_table.specs.Landing.{Config, Running, Over, one_of, thrown, then_at, land}
use Rattle.page_table.specs.LoopMoves.{loop_rounds, with_loop, next_round, loop_next}
use Rattle.page_table.specs.Open.{Loop, OpenCatch, Open}
use Rattle.page_table.specs.Operations.{operation, levels, text_at, behind_first, params_in}
use Rattle.page_table.specs.Pages.{page_begun, page_entered, included, include_at, include_called, import_called}
use Rattle.page_table.specs.Program.{Program, TagCode, Stored, absent, plain, bad, good, Serving, served_of, tag_at}
use Rattle.page_table.specs.Runs.{Runs, over, on, into, config_state}
use Rattle.page_table.specs.Seat.{CallSeat, Seat, in_page, in_tag, code_of, program_of, page_run_of, Given, nothing, source_text, code_at, body_in, fragment_in}
use Rattle.page_table.proofs.Onward.{Onward, MoveGoes, move_behind, stays, onward_behind, one_of_onward, thrown_onward, then_at_onward, land_onward, then_move_goes, popped_goes, popped_all_goes, deeper_goes}
use Rattle.page_table.proofs.Operating.{operation_works}
use Rattle.page_table.proofs.Pages.{page_begun_keeps, ask_page_tame, local_url_tame, Gone, gone_grows, forward_gone, redirect_gone}
use Rattle.page_table.proofs.Records.{round_tame, without_named_calm, bean_tame}
use Rattle.page_meaning.proofs.Growing.{both, quiet, same}
use Rattle.page_table.proofs.Tame.{result}
use Rattle.page_table.proofs.Words.{put_text_tame, flush_if_calm, taken_grows}

-- calls
pub tidied_grows : (before : State) (d : Did) → Grows (state_of d) (state_of (tidied (back_to before.scopes) d))
tidied_grows before (Well u t) = quiet t (back_to before.scopes t) refl refl refl
tidied_grows before (Raised f place t) = quiet t (back_to before.scopes t) refl refl refl
tidied_grows before (Ended leaving t) = same t
tidied_grows before (Awaits step t) = same t

pub call_back_grows : (c : CallSeat) (before : State) (d : Did) → Grows (state_of d) (state_of (call_back c before d))
call_back_grows c before (Well u t) = quiet t (state_of (call_back c before (Well u t))) refl refl refl
call_back_grows c before (Raised f place t) = quiet t (back_to before.scopes t) refl refl refl
call_back_grows c before (Ended leaving t) = same t
call_back_grows c before (Awaits step t) = same t

pub entered_goes : (place : Place) (c : CallSeat) (entries : Entries) (caller : Seat) (to : ℕ) (s : State) (o : Open) → MoveGoes o.left s (call_entered place c entries caller to s o)
entered_goes place c entries caller to s o =
    deeper_goes place s o o.left _ (λ left e. record {
      deeper = left;
      less = e;
      begins = record { grows = quiet s _ refl refl refl; left = refl };
      backs = λ d. land_onward to (λ u. o.stack) o (state_of d) (call_back c s d) (call_back_grows c s d);
    })

pub tag_goes : (place : Place) (found : Option TagCode) (c : TagCall) (behind : ℕ) (ds : List Datum) (caller : Seat) (s : State) (o : Open) → MoveGoes o.left s (tag_called place found c behind ds caller s o)
tag_goes place None c behind ds caller s o = stays (behind + call_size c) s s o o.left refl (same s)
tag_goes place (Some tag) c behind ds caller s o =
    let r = first_frame tag.decl (table_of c.names ds) in
    then_move_goes o s (result_of place r s) (λ entries s1. call_entered place (call_of tag c behind entries s1) entries caller (behind + call_size c) s1 o) (result place r s).grows
    (λ entries t. entered_goes place (call_of tag c behind entries t) entries caller (behind + call_size c) t o)

pub given_entered_goes : (place : Place) (left : ℕ) (g : Given) (c : CallSeat) (caller : Seat) (to : ℕ) (s : State) (o : Open) → suc left ≡ o.left → MoveGoes o.left s (given_entered place left g c caller to s o)
given_entered_goes place left nothing c caller to s o e = stays to s s o o.left refl (same s)
given_entered_goes place left (source_text t) c caller to s o e =
    let u = copied_to_caller c s in
    let w = put_text place t u in
    land_onward to (λ v. o.stack) o s (tidied (back_to s.scopes) w)
    (both s u (state_of (tidied (back_to s.scopes) w)) (quiet s u refl refl refl) (both u (state_of w) (state_of (tidied (back_to s.scopes) w)) (put_text_tame place t u).grows (tidied_grows s w)))
given_entered_goes place left (code_at at) c caller to s o e = record {
  deeper = left;
  less = e;
  begins = record { grows = quiet s (in_callers_frame c (copied_to_caller c s)) refl refl refl; left = refl };
  backs = λ d. land_onward to (λ u. o.stack) o (state_of d) (tidied (back_to s.scopes) d) (tidied_grows s d);
}

pub given_deeper_goes : (place : Place) (g : Given) (seat : Seat) (to : ℕ) (s : State) (o : Open) → MoveGoes o.left s (given_deeper place g seat to s o)
given_deeper_goes place g (in_page program params) to s o = stays to s s o o.left refl (same s)
given_deeper_goes place g (in_tag c caller) to s o = deeper_goes place s o o.left _ (λ left e. given_entered_goes place left g c caller to s o e)

pub given_goes : (place : Place) (g : Given) (seat : Seat) (to : ℕ) (s : State) (o : Open) → MoveGoes o.left s (given_called place g seat to s o)
given_goes place nothing seat to s o = stays to s s o o.left refl (same s)
given_goes place (source_text t) seat to s o = given_deeper_goes place (source_text t) seat to s o
given_goes place (code_at at) seat to s o = given_deeper_goes place (code_at at) seat to s o

-- pages
pub included_end_grows : (place : Place) (before : State) (d : Did) → Grows (state_of d) (state_of (included_end place before d))
included_end_grows place before (Well u t) = quiet t (back_to before.scopes t) refl refl refl
included_end_grows place before (Raised f p t) = quiet t (back_to before.scopes t) refl refl refl
included_end_grows place before (Ended (redirects location) t) = quiet t (state_of (included_end place before (Ended (redirects location) t))) refl refl refl
included_end_grows place before (Ended (forwards path params left) t) = same t
included_end_grows place before (Awaits step t) = same t

pub page_goes : (program : Program) (params : List Param) (left k : ℕ) (back : Did → Config) (s : State) (d : Did) → suc left ≡ k → Grows s (state_of d)
    → ((r : Did) → Onward k (state_of r) (back r)) → MoveGoes k s (page_entered program params left back d)
page_goes program params left k back s (Well u t) e g h = record { deeper = left; less = e; begins = record { grows = g; left = refl }; backs = h }
page_goes program params left k back s (Raised f place t) e g h = onward_behind k s t (back (Raised f place t)) g (h (Raised f place t))
page_goes program params left k back s (Ended leaving t) e g h = onward_behind k s t (back (Ended leaving t)) g (h (Ended leaving t))
page_goes program params left k back s (Awaits step t) e g h = onward_behind k s t (back (Awaits step t)) g (h (Awaits step t))

pub included_goes : (place : Place) (params : List Param) (left : ℕ) (found : Stored) (to : ℕ) (s : State) (o : Open) → suc left ≡ o.left → MoveGoes o.left s (included place params left found to s o)
included_goes place params left absent to s o e = stays to s s o o.left refl (same s)
included_goes place params left (plain t) to s o e = land_onward to (λ u. o.stack) o s (put_text place t s) (put_text_tame place t s).grows
included_goes place params left (bad f) to s o e = stays to s s o o.left refl (same s)
included_goes place params left (good program) to s o e =
    let t = in_scopes (with_frame s.scopes) s in
    page_goes program params left o.left (λ d. land to (λ u. o.stack) o (included_end place s d)) s (page_begun program t) e
    (both s t (state_of (page_begun program t)) (quiet s t refl refl refl) (page_begun_keeps program t).grows)
    (λ d. land_onward to (λ u. o.stack) o (state_of d) (included_end place s d) (included_end_grows place s d))

pub include_at_goes : (serving : Serving) (place : Place) (params : List Param) (r : Result (List ℕ) BadPath) (to : ℕ) (s : State) (o : Open) → MoveGoes o.left s (include_at serving place params r to s o)
include_at_goes serving place params (Err reason) to s o = thrown_onward fault.NoSuchPage place s o
include_at_goes serving place params (Ok path) to s o =
    deeper_goes place s o o.left _ (λ left e.
    then_move_goes o s (ask_page (served_of serving) place path s) (λ paged s1. included place params left (serving.stored path) to s1 o) (ask_page_tame (served_of serving) place path s).grows
    (λ paged t. included_goes place params left (serving.stored path) to t o e))

pub include_goes : (serving : Serving) (place : Place) (run : Run) (target : List ℕ) (params : List Param) (to : ℕ) (s : State) (o : Open) → MoveGoes o.left s (include_called serving place run target params to s o)
include_goes serving place run target params to s o = include_at_goes serving place (target_params run target params) (target_path run target) to s o

pub import_goes : (serving : Serving) (place : Place) (run : Run) (target : List ℕ) (to : ℕ) (s : State) (o : Open) → MoveGoes o.left s (import_called serving place run target to s o)
import_goes serving place run target to s o =
    then_move_goes o s (local_url place target (λ s1. Well tt s1) s) (λ u s1. include_called serving place run target [] to s1 o) (local_url_tame place target s).grows
    (λ u t. include_goes serving place run target [] to t o)

-- loops
pub next_round_onward : (place : Place) (loop : Loop) (outer : List Loop) (rounds : List Round) (again behind : ℕ) (s : State) (o : Open) → Onward o.left s (next_round place loop outer rounds again behind s o)
next_round_onward place loop outer [] again behind s o =
    let t = without_named loop.variable s in
    stays behind s (without_named loop.status t) (record o { loops = outer }) o.left refl
    (both s t (without_named loop.status t) (without_named_calm loop.variable s).grows (without_named_calm loop.status t).grows)
next_round_onward place loop outer (r ∷ rest) again behind s o =
    then_at_onward o s (round_begun place loop.variable loop.status loop.values r s) (λ u s1. Running again s1 (record o { loops = record loop { rounds = rest } ∷ outer }))
    (round_tame place loop.variable loop.status loop.values r s).grows (λ u t. record { grows = same t; left = refl })

pub loop_goes : (place : Place) (loops : List Loop) (again behind : ℕ) (s : State) (o : Open) → MoveGoes o.left s (loop_next place loops again behind s o)
loop_goes place [] again behind s o = tt
loop_goes place (loop ∷ outer) again behind s o = next_round_onward place loop outer loop.rounds again behind s o

-- the rest
null_onward : (d : Datum) (to behind : ℕ) (s : State) (o : Open) (rest : List Datum) → Onward o.left s (jump_null d to behind s o (record o { stack = rest }))
null_onward null to behind s o rest = record { grows = same s; left = refl }
null_onward (truth b) to behind s o rest = record { grows = same s; left = refl }
null_onward (number n) to behind s o rest = record { grows = same s; left = refl }
null_onward (text t) to behind s o rest = record { grows = same s; left = refl }
null_onward (datum.list is) to behind s o rest = record { grows = same s; left = refl }
null_onward (rec es) to behind s o rest = record { grows = same s; left = refl }

brought_goes : (found : Option Datum) (n to : ℕ) (s : State) (o : Open) → MoveGoes o.left s (brought_up found n to s o)
brought_goes None n to s o = tt
brought_goes (Some d) n to s o = record { grows = same s; left = refl }

closed_goes : (catches : List OpenCatch) (to : ℕ) (s : State) (o : Open) → MoveGoes o.left s (catch_closed catches to s o)
closed_goes [] to s o = tt
closed_goes (c ∷ outer) to s o = record { grows = same s; left = refl }

pub called_goes : (serving : Serving) (seat : Seat) (place : Place) (behind : ℕ) (c : CallOut) (s : State) (o : Open) → MoveGoes o.left s (called_out serving seat place behind c s o)
called_goes serving seat place behind (call.Tag c) s o =
    popped_all_goes (length c.names) s o _ (λ ds rest. tag_goes place (tag_at c.path (program_of seat).tags) c behind ds seat s (record o { stack = rest }))
called_goes serving seat place behind call.Body s o = given_goes place (body_in seat) seat behind s o
called_goes serving seat place behind (call.Fragment name) s o = given_goes place (fragment_in name seat) seat behind s o
called_goes serving seat place behind (call.Include flush params) s o =
    popped_all_goes (address_with params) s o _ (λ ds rest. flushed flush (text_at 0 ds) (params_in (behind_first ds)) (record o { stack = rest }))
  where
    flushed : (b : Bool) (target : List ℕ) (ps : List Param) (p : Open) → MoveGoes p.left s (include_called serving place (page_run_of seat) target ps behind (flush_if b s) p)
    flushed b target ps p = move_behind p.left s (flush_if b s) (include_called serving place (page_run_of seat) target ps behind (flush_if b s) p)
        (flush_if_calm b s).grows (include_goes serving place (page_run_of seat) target ps behind (flush_if b s) p)
called_goes serving seat place behind call.Import s o =
    popped_all_goes 1 s o _ (λ ds rest. import_goes serving place (page_run_of seat) (text_at 0 ds) behind s (record o { stack = rest }))

gone_onward : (o : Open) (s : State) (w : Did) (go : Unit {0} → State → Config) → Gone s w → Onward o.left s (then_at o w go)
gone_onward o s (Well u t) go gone = absurd gone
gone_onward o s (Raised f place t) go gone = onward_behind o.left s t (thrown f place t o) gone.grows (thrown_onward f place t o)
gone_onward o s (Ended leaving t) go gone = record { grows = gone_grows s leaving t gone; left = tt }
gone_onward o s (Awaits step t) go gone = record { grows = gone; left = tt }

pub leaving_goes : (serving : Serving) (seat : Seat) (place : Place) (how : Leave) (s : State) (o : Open) → MoveGoes o.left s (leaving serving seat place how s o)
leaving_goes serving seat place (leave.Forward params) s o =
    popped_all_goes (address_with params) s o _ (λ ds rest.
    gone_onward (record o { stack = rest }) s (forward_mean (served_of serving) (levels o.left) place (page_run_of seat) (text_at 0 ds) (params_in (behind_first ds)) s) (λ u s1. Over (Well u s1))
    (forward_gone (served_of serving) o.left place (page_run_of seat) (text_at 0 ds) (params_in (behind_first ds)) s))
leaving_goes serving seat place leave.Redirect s o =
    popped_all_goes 1 s o _ (λ ds rest. gone_onward (record o { stack = rest }) s (redirect_mean place (text_at 0 ds) s) (λ u s1. Over (Well u s1)) (redirect_gone place (text_at 0 ds) s))
leaving_goes serving seat place leave.End s o = record { grows = same s; left = tt }

pub act_goes : (serving : Serving) (seat : Seat) (place : Place) (pc : ℕ) (s : State) (o : Open) (i : Instr) → MoveGoes o.left s (act serving seat place pc s o i)
act_goes serving seat place pc s o (instr.Op op) =
    popped_all_goes (takes op) s o _ (λ ds rest.
    land_onward (pc + 1) (λ made. made ++ rest) (record o { stack = rest }) s (operation serving seat place op ds s) (operation_works serving seat place op ds s).keeps.grows)
act_goes serving seat place pc s o (instr.Take n) = brought_goes (slice_get o.stack n) n (pc + 1) s o
act_goes serving seat place pc s o instr.StartBody = record { grows = quiet s (in_writer (with_body s.writer) s) refl refl refl; left = refl }
act_goes serving seat place pc s o instr.TakeBody = land_onward (pc + 1) (λ t. text t ∷ o.stack) o s (taken place s) (taken_grows place s)
act_goes serving seat place pc s o (instr.Jump n) = record { grows = same s; left = refl }
act_goes serving seat place pc s o (instr.JumpIf b n) =
    popped_goes s o o.stack _ (λ d rest.
    let p : Open = record o { stack = rest } in
    one_of_onward (is_same_truth b (is_true d)) o.left s (Running (pc + 1 + n) s p) (Running (pc + 1) s p) (record { grows = same s; left = refl }) (record { grows = same s; left = refl }))
act_goes serving seat place pc s o (instr.JumpNull n) = popped_goes s o o.stack _ (λ d rest. null_onward d (pc + 1 + n) (pc + 1) s o rest)
act_goes serving seat place pc s o (instr.Ensure x bean n) =
    then_at_onward o s (bean_made place (held_scope x.scope) x.name (datum_of bean) s) (λ made s1. one_of made (Running (pc + 1) s1 o) (Running (pc + 1 + n) s1 o))
    (bean_tame place (held_scope x.scope) x.name (datum_of bean) s).grows
    (λ made t. one_of_onward made o.left t (Running (pc + 1) t o) (Running (pc + 1 + n) t o) (record { grows = same t; left = refl }) (record { grows = same t; left = refl }))
act_goes serving seat place pc s o (instr.LoopStart kind) =
    popped_all_goes (length kind.names) s o _ (λ ds rest.
    let p : Open = record o { stack = rest } in
    let vs = table_of kind.names ds in
    then_at_onward p s (result_of place (loop_rounds kind.over vs) s)
    (λ rounds s1. Running (pc + 1) s1 (with_loop (record { variable = kind.variable; status = kind.status; values = vs; rounds = rounds }) p))
    (result place (loop_rounds kind.over vs) s).grows (λ rounds t. record { grows = same t; left = refl }))
act_goes serving seat place pc s o (instr.LoopNext n) = loop_goes place o.loops (pc - n) (pc + 1) s o
act_goes serving seat place pc s o (instr.CatchStart n) = record { grows = same s; left = refl }
act_goes serving seat place pc s o instr.CatchEnd = closed_goes o.catches (pc + 1) s o
act_goes serving seat place pc s o (instr.CallOut c) = called_goes serving seat place (pc + 1) c s o
act_goes serving seat place pc s o (instr.Leave how) = leaving_goes serving seat place how s o

pub move_goes : (serving : Serving) (seat : Seat) (pc : ℕ) (s : State) (o : Open) → MoveGoes o.left s (move_of serving seat pc s o)
move_goes serving seat pc s o = go (slice_get (code_of seat) pc)
  where
    go : (c : Option Cell) → MoveGoes o.left s (act_at serving seat pc s o c)
    go None = tt
    go (Some c) = act_goes serving seat c.place pc s o c.instr

-- a run
pub run_grows : (serving : Serving) (seat : Seat) (c : Config) (d : Did) → Runs serving seat c d → Grows (config_state c) (state_of d)
run_grows serving seat _ d (over _ _) = same (state_of d)
run_grows serving seat _ d (on _ pc s o next _ e r) =
    let m = subst (MoveGoes o.left s) e (move_goes serving seat pc s o) in
    both s (config_state next) (state_of d) m.grows (run_grows serving seat next d r)
run_grows serving seat _ d (into _ pc s o callee first back r _ e a b) =
    let m = subst (MoveGoes o.left s) e (move_goes serving seat pc s o) in
    both s (config_state first) (state_of d) m.begins.grows
    (both (config_state first) (state_of r) (state_of d) (run_grows serving callee first r a)
    (both (state_of r) (config_state (back r)) (state_of d) (m.backs r).grows (run_grows serving seat (back r) d b)))
