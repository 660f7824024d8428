-- Each row of the table takes no frame back that stood before it; nor does a run.
use Rattle.std.proofs.Common.{◌+◌, ◌-◌, ◌≤◌, ℕ, zero, suc, Bool, true, false, List, [], ◌∷◌, ◌++◌, length, Option, Some, None, Result, Ok, Err, subst, arith}
use Rattle.std.specs.Prelude.{take, slice_get, ⊤}
use Rattle.http_in.specs.declared.params.Param.{Param}
use Rattle.page_code.specs.Calls.{call_size}
use Rattle.page_code.specs.Ops.{takes, address_with}
use Rattle.page_code.specs.declared.call.CallOut.{CallOut}
use Rattle.page_code.specs.declared.call.CallOut.TheVariants as call
use Rattle.page_code.specs.declared.call.Leave.{Leave}
use Rattle.page_code.specs.declared.call.Leave.TheVariants as leave
use Rattle.page_code.specs.declared.call.TagCall.{TagCall}
use Rattle.page_code.specs.declared.code.Cell.{Cell}
use Rattle.page_code.specs.declared.instr.Instr.{Instr}
use Rattle.page_code.specs.declared.instr.Instr.TheVariants as instr
use Rattle.pg_text.specs.declared.place.Place.{Place}
use Rattle.pg_text.specs.declared.resolution.BadPath.{BadPath}
use Rattle.pg_value.specs.Datum as datum
use Rattle.pg_value.specs.Datum.{Datum, null, truth, number, text, rec}
use Rattle.pg_value.specs.Value.{datum_of}
use Rattle.pg_value.specs.declared.fault.RunFault.TheVariants as fault
use Rattle.scopes.specs.HeldScope.{held_scope}
use Rattle.scopes.specs.Scopes.{Entries, with_frame}
use Rattle.out_buffer.specs.Writer.{body_answer, innermost, without_body}
use Rattle.page_meaning.specs.Addresses.{local_url, redirect_mean}
use Rattle.page_meaning.specs.Attributes.{table_of}
use Rattle.page_meaning.specs.Bodies.{put_text, taken}
use Rattle.page_meaning.specs.Context.{Run}
use Rattle.page_meaning.specs.Exports.{copied_out, given_back, is_at_end}
use Rattle.page_meaning.specs.Growth.{state_of}
use Rattle.page_meaning.specs.Includes.{ask_page, included_end, target_path, target_params, forward_mean}
use Rattle.page_meaning.specs.Loops.{round_begun, without_named}
use Rattle.page_meaning.specs.Meaning.{flush_if}
use Rattle.page_meaning.specs.Rounds.{Round}
use Rattle.page_meaning.specs.State.{State, in_scopes, in_writer}
use Rattle.page_meaning.specs.Tags.{first_frame}
use Rattle.page_meaning.specs.Variables.{back_to}
use Rattle.page_meaning.specs.Went.{Did, Went, Well, Raised, Ended, Awaits, forwards, redirects, tidied, result_of}
use Rattle.page_table.specs.Act.{is_true, is_same_truth, jump_null, brought_up, bean_made, catch_closed, called_out, leaving, act, act_at, move_of}
use Rattle.page_table.specs.Calls.{call_back, call_entered, call_of, tag_called, copied_to_caller, given_entered, given_deeper, given_called}
use Rattle.page_meaning.specs.Core.{is_caught}
use Rattle.pg_value.specs.declared.fault.RunFault.{RunFault}
use Rattle.page_table.specs.Landing.{Config, Running, Over, unwound, uncaught, caught_by, one_of, thrown, then_at, land}
use Rattle.page_table.specs.Laws.{LeavesFrames, RunsLeaveFrames, TurnsLeaveFrames}
use Rattle.page_table.specs.Move.{Move, On, Into, Stuck, then_move, popped, popped_onto, popped_all, one_deeper}
use Rattle.page_table.specs.LoopMoves.{loop_rounds, with_loop, next_round, loop_next}
use Rattle.page_table.specs.Open.{Loop, OpenCatch, Open}
use Rattle.page_table.specs.Operations.{operation, levels, text_at, behind_first, params_in}
use Rattle.page_table.specs.Pages.{page_begun, page_entered, included, include_at, include_called, import_called}
use Rattle.page_table.specs.Program.{Program, TagCode, Stored, absent, plain, bad, good, Serving, served_of, tag_at}
use Rattle.page_table.specs.Runs.{Runs, over, on, into, Turned, moved, called, config_state}
use Rattle.page_table.specs.Seat.{CallSeat, Seat, in_page, in_tag, code_of, program_of, page_run_of, Given, nothing, source_text, code_at, body_in, fragment_in}
use Rattle.page_table.proofs.FrameCounts.{frame_more, copied_frames, given_frames, back_frames}
use Rattle.page_table.proofs.Operating.{operation_works}
use Rattle.page_table.proofs.Pages.{page_begun_keeps, ask_page_tame, local_url_tame, Gone, forward_gone, redirect_gone}
use Rattle.page_table.proofs.Records.{round_tame, without_named_calm, bean_tame}
use Rattle.page_table.proofs.Standing.{unwound_keeps}
use Rattle.page_table.proofs.Tame.{framed, TameAt, result}
use Rattle.page_table.proofs.Words.{put_text_tame, flush_if_calm}

-- at least so many frames stand
abbrev pub StandFrames : ℕ → Config → Type 0
StandFrames n (Running pc s o) = n ≤ framed s
StandFrames n (Over d) = LeavesFrames n d

-- a move leaves them, and so does what follows a run of its own
abbrev pub MoveFrames : ℕ → Move → Type 0
MoveFrames n (On c) = StandFrames n c
MoveFrames n (Into callee first back) = StandFrames n first × ((r : Did) → LeavesFrames n r → StandFrames n (back r))
MoveFrames n Stuck = ⊤

module _ (n : ℕ) where
  -- a fault, and a part
  unwound_frames : (loops : List Loop) (s : State) → n ≤ framed s → n ≤ framed (unwound loops s)
  unwound_frames loops s h = omega (arith, h, (unwound_keeps loops s).frames)

  caught_frames : (f : RunFault) (place : Place) (s : State) (o : Open) (catches : List OpenCatch) → n ≤ framed s → StandFrames n (caught_by f place s o catches)
  caught_frames f place s o [] h = unwound_frames o.loops s h
  caught_frames f place s o (c ∷ outer) h = unwound_frames (take (length o.loops - c.loops) o.loops) s h

  one_of_frames : (b : Bool) (c other : Config) → StandFrames n c → StandFrames n other → StandFrames n (one_of b c other)
  one_of_frames true c other h g = h
  one_of_frames false c other h g = g

  thrown_frames : (f : RunFault) (place : Place) (s : State) (o : Open) → n ≤ framed s → StandFrames n (thrown f place s o)
  thrown_frames f place s o h =
      one_of_frames (is_caught f) (caught_by f place s o o.catches) (uncaught f place s o) (caught_frames f place s o o.catches h) (unwound_frames o.loops s h)

  tame_frames : {A : Type 0} (s : State) (w : Went A) → TameAt s w → n ≤ framed s → LeavesFrames n w
  tame_frames s (Well a t) h k = omega (arith, h.frames, k)
  tame_frames s (Raised f place t) h k = omega (arith, h.frames, k)
  tame_frames s (Ended (redirects location) t) h k = omega (arith, h.frames, k)
  tame_frames s (Ended (forwards path params left) t) h k = tt
  tame_frames s (Awaits step t) h k = tt

  then_at_frames : {A : Type 0} (o : Open) (w : Went A) (go : A → State → Config) → LeavesFrames n w → ((a : A) (t : State) → n ≤ framed t → StandFrames n (go a t)) → StandFrames n (then_at o w go)
  then_at_frames o (Well a t) go l h = h a t l
  then_at_frames o (Raised f place t) go l h = thrown_frames f place t o l
  then_at_frames o (Ended leaving t) go l h = l
  then_at_frames o (Awaits step t) go l h = tt

  land_frames : {A : Type 0} (to : ℕ) (values : A → List Datum) (o : Open) (w : Went A) → LeavesFrames n w → StandFrames n (land to values o w)
  land_frames to values o w l = then_at_frames o w (λ a t. Running to t (record o { stack = values a })) l (λ a t h. h)

  -- moves
  then_move_frames : {A : Type 0} (o : Open) (w : Went A) (go : A → State → Move) → LeavesFrames n w → ((a : A) (t : State) → n ≤ framed t → MoveFrames n (go a t)) → MoveFrames n (then_move o w go)
  then_move_frames o (Well a t) go l h = h a t l
  then_move_frames o (Raised f place t) go l h = thrown_frames f place t o l
  then_move_frames o (Ended leaving t) go l h = l
  then_move_frames o (Awaits step t) go l h = tt

  popped_frames : (o : Open) (stack : List Datum) (go : Datum → Open → Move) → ((d : Datum) (rest : List Datum) → MoveFrames n (go d (record o { stack = rest }))) → MoveFrames n (popped o stack go)
  popped_frames o [] go h = tt
  popped_frames o (d ∷ rest) go h = h d rest

  popped_onto_frames : (k : ℕ) (o : Open) (stack ds : List Datum) (go : List Datum → Open → Move)
      → ((ds rest : List Datum) → MoveFrames n (go ds (record o { stack = rest }))) → MoveFrames n (popped_onto k o stack ds go)
  popped_onto_frames zero o stack ds go h = h ds stack
  popped_onto_frames (suc k) o [] ds go h = tt
  popped_onto_frames (suc k) o (d ∷ stack) ds go h = popped_onto_frames k o stack (d ∷ ds) go h

  popped_all_frames : (k : ℕ) (o : Open) (go : List Datum → Open → Move) → ((ds rest : List Datum) → MoveFrames n (go ds (record o { stack = rest }))) → MoveFrames n (popped_all k o go)
  popped_all_frames k o go h = popped_onto_frames k o o.stack [] go h

  deeper_frames : (place : Place) (s : State) (o : Open) (levels : ℕ) (go : (left : ℕ) → Move) → n ≤ framed s → ((left : ℕ) → MoveFrames n (go left)) → MoveFrames n (one_deeper place s o levels go)
  deeper_frames place s o zero go h g = thrown_frames fault.TooDeep place s o h
  deeper_frames place s o (suc left) go h g = g left

  -- calls
  tidied_frames : (before : State) (d : Did) → n ≤ framed before → LeavesFrames n d → LeavesFrames n (tidied (back_to before.scopes) d)
  tidied_frames before (Well u t) h l = back_frames n before.scopes t h l
  tidied_frames before (Raised f place t) h l = back_frames n before.scopes t h l
  tidied_frames before (Ended leaving t) h l = l
  tidied_frames before (Awaits step t) h l = tt

  call_back_frames : (c : CallSeat) (before : State) (d : Did) → n ≤ framed before → LeavesFrames n d → LeavesFrames n (call_back c before d)
  call_back_frames c before (Well u t) h l =
      let scopes = given_back c.exports before.scopes c.frame (copied_out is_at_end c.exports c.frame t.scopes) in
      let more = given_frames c.exports before.scopes c.frame t.scopes in
      back_frames n before.scopes (in_scopes scopes t) h (omega (arith, l, more))
  call_back_frames c before (Raised f place t) h l = back_frames n before.scopes t h l
  call_back_frames c before (Ended leaving t) h l = l
  call_back_frames c before (Awaits step t) h l = tt

  entered_frames : (place : Place) (c : CallSeat) (entries : Entries) (caller : Seat) (to : ℕ) (s : State) (o : Open) → n ≤ framed s → MoveFrames n (call_entered place c entries caller to s o)
  entered_frames place c entries caller to s o h =
      deeper_frames place s o o.left _ h (λ left.
      (omega (arith, h, frame_more entries s), λ d l. land_frames to (λ u. o.stack) o (call_back c s d) (call_back_frames c s d h l)))

  tag_frames : (place : Place) (found : Option TagCode) (c : TagCall) (behind : ℕ) (ds : List Datum) (caller : Seat) (s : State) (o : Open) → n ≤ framed s → MoveFrames n (tag_called place found c behind ds caller s o)
  tag_frames place None c behind ds caller s o h = h
  tag_frames place (Some tag) c behind ds caller s o h =
      let r = first_frame tag.decl (table_of c.names ds) in
      then_move_frames o (result_of place r s) (λ entries s1. call_entered place (call_of tag c behind entries s1) entries caller (behind + call_size c) s1 o) (tame_frames s (result_of place r s) (result place r s) h)
      (λ entries t k. entered_frames place (call_of tag c behind entries t) entries caller (behind + call_size c) t o k)

  given_entered_frames : (place : Place) (left : ℕ) (g : Given) (c : CallSeat) (caller : Seat) (to : ℕ) (s : State) (o : Open) → n ≤ framed s → MoveFrames n (given_entered place left g c caller to s o)
  given_entered_frames place left nothing c caller to s o h = h
  given_entered_frames place left (source_text t) c caller to s o h =
      let u = copied_to_caller c s in
      let w = put_text place t u in
      land_frames to (λ v. o.stack) o (tidied (back_to s.scopes) w) (tidied_frames s w h (tame_frames u w (put_text_tame place t u) (omega (arith, h, copied_frames c s))))
  given_entered_frames place left (code_at at) c caller to s o h =
      (omega (arith, h, copied_frames c s), λ d l. land_frames to (λ u. o.stack) o (tidied (back_to s.scopes) d) (tidied_frames s d h l))

  given_deeper_frames : (place : Place) (g : Given) (seat : Seat) (to : ℕ) (s : State) (o : Open) → n ≤ framed s → MoveFrames n (given_deeper place g seat to s o)
  given_deeper_frames place g (in_page program params) to s o h = h
  given_deeper_frames place g (in_tag c caller) to s o h = deeper_frames place s o o.left _ h (λ left. given_entered_frames place left g c caller to s o h)

  given_called_frames : (place : Place) (g : Given) (seat : Seat) (to : ℕ) (s : State) (o : Open) → n ≤ framed s → MoveFrames n (given_called place g seat to s o)
  given_called_frames place nothing seat to s o h = h
  given_called_frames place (source_text t) seat to s o h = given_deeper_frames place (source_text t) seat to s o h
  given_called_frames place (code_at at) seat to s o h = given_deeper_frames place (code_at at) seat to s o h

  -- pages
  included_end_frames : (place : Place) (before : State) (d : Did) → n ≤ framed before → LeavesFrames n d → LeavesFrames n (included_end place before d)
  included_end_frames place before (Well u t) h l = back_frames n before.scopes t h l
  included_end_frames place before (Raised f p t) h l = back_frames n before.scopes t h l
  included_end_frames place before (Ended (redirects location) t) h l = back_frames n before.scopes t h l
  included_end_frames place before (Ended (forwards path params left) t) h l = tt
  included_end_frames place before (Awaits step t) h l = tt

  page_frames : (program : Program) (params : List Param) (left : ℕ) (back : Did → Config) (d : Did) → LeavesFrames n d → ((r : Did) → LeavesFrames n r → StandFrames n (back r)) → MoveFrames n (page_entered program params left back d)
  page_frames program params left back (Well u t) l h = (l, h)
  page_frames program params left back (Raised f place t) l h = h (Raised f place t) l
  page_frames program params left back (Ended leaving t) l h = h (Ended leaving t) l
  page_frames program params left back (Awaits step t) l h = h (Awaits step t) l

  included_frames : (place : Place) (params : List Param) (left : ℕ) (found : Stored) (to : ℕ) (s : State) (o : Open) → n ≤ framed s → MoveFrames n (included place params left found to s o)
  included_frames place params left absent to s o h = h
  included_frames place params left (plain t) to s o h = land_frames to (λ u. o.stack) o (put_text place t s) (tame_frames s (put_text place t s) (put_text_tame place t s) h)
  included_frames place params left (bad f) to s o h = h
  included_frames place params left (good program) to s o h =
      let t = in_scopes (with_frame s.scopes) s in
      page_frames program params left (λ d. land to (λ u. o.stack) o (included_end place s d)) (page_begun program t)
      (tame_frames t (page_begun program t) (page_begun_keeps program t) (omega (arith, h, frame_more [] s)))
      (λ d l. land_frames to (λ u. o.stack) o (included_end place s d) (included_end_frames place s d h l))

  include_at_frames : (serving : Serving) (place : Place) (params : List Param) (r : Result (List ℕ) BadPath) (to : ℕ) (s : State) (o : Open) → n ≤ framed s → MoveFrames n (include_at serving place params r to s o)
  include_at_frames serving place params (Err reason) to s o h = thrown_frames fault.NoSuchPage place s o h
  include_at_frames serving place params (Ok path) to s o h =
      deeper_frames place s o o.left _ h (λ left.
      then_move_frames o (ask_page (served_of serving) place path s) (λ paged s1. included place params left (serving.stored path) to s1 o)
      (tame_frames s (ask_page (served_of serving) place path s) (ask_page_tame (served_of serving) place path s) h) (λ paged t k. included_frames place params left (serving.stored path) to t o k))

  include_frames : (serving : Serving) (place : Place) (run : Run) (target : List ℕ) (params : List Param) (to : ℕ) (s : State) (o : Open) → n ≤ framed s → MoveFrames n (include_called serving place run target params to s o)
  include_frames serving place run target params to s o h = include_at_frames serving place (target_params run target params) (target_path run target) to s o h

  import_frames : (serving : Serving) (place : Place) (run : Run) (target : List ℕ) (to : ℕ) (s : State) (o : Open) → n ≤ framed s → MoveFrames n (import_called serving place run target to s o)
  import_frames serving place run target to s o h =
      then_move_frames o (local_url place target (λ s1. Well tt s1) s) (λ u s1. include_called serving place run target [] to s1 o)
      (tame_frames s (local_url place target (λ s1. Well tt s1) s) (local_url_tame place target s) h) (λ u t k. include_frames serving place run target [] to t o k)

  -- loops
  next_round_frames : (place : Place) (loop : Loop) (outer : List Loop) (rounds : List Round) (again behind : ℕ) (s : State) (o : Open) → n ≤ framed s → StandFrames n (next_round place loop outer rounds again behind s o)
  next_round_frames place loop outer [] again behind s o h =
      omega (arith, h, (without_named_calm loop.variable s).frames, (without_named_calm loop.status (without_named loop.variable s)).frames)
  next_round_frames place loop outer (r ∷ rest) again behind s o h =
      then_at_frames o (round_begun place loop.variable loop.status loop.values r s) (λ u s1. Running again s1 (record o { loops = record loop { rounds = rest } ∷ outer }))
      (tame_frames s (round_begun place loop.variable loop.status loop.values r s) (round_tame place loop.variable loop.status loop.values r s) h) (λ u t k. k)

  loop_frames : (place : Place) (loops : List Loop) (again behind : ℕ) (s : State) (o : Open) → n ≤ framed s → MoveFrames n (loop_next place loops again behind s o)
  loop_frames place [] again behind s o h = tt
  loop_frames place (loop ∷ outer) again behind s o h = next_round_frames place loop outer loop.rounds again behind s o h

  -- the rest
  null_frames : (d : Datum) (to behind : ℕ) (s : State) (o : Open) (rest : List Datum) → n ≤ framed s → StandFrames n (jump_null d to behind s o (record o { stack = rest }))
  null_frames null to behind s o rest h = h
  null_frames (truth b) to behind s o rest h = h
  null_frames (number m) to behind s o rest h = h
  null_frames (text t) to behind s o rest h = h
  null_frames (datum.list is) to behind s o rest h = h
  null_frames (rec es) to behind s o rest h = h

  brought_frames : (found : Option Datum) (k to : ℕ) (s : State) (o : Open) → n ≤ framed s → MoveFrames n (brought_up found k to s o)
  brought_frames None k to s o h = tt
  brought_frames (Some d) k to s o h = h

  closed_frames : (catches : List OpenCatch) (to : ℕ) (s : State) (o : Open) → n ≤ framed s → MoveFrames n (catch_closed catches to s o)
  closed_frames [] to s o h = tt
  closed_frames (c ∷ outer) to s o h = h

  called_frames : (serving : Serving) (seat : Seat) (place : Place) (behind : ℕ) (c : CallOut) (s : State) (o : Open) → n ≤ framed s → MoveFrames n (called_out serving seat place behind c s o)
  called_frames serving seat place behind (call.Tag c) s o h =
      popped_all_frames (length c.names) o _ (λ ds rest. tag_frames place (tag_at c.path (program_of seat).tags) c behind ds seat s (record o { stack = rest }) h)
  called_frames serving seat place behind call.Body s o h = given_called_frames place (body_in seat) seat behind s o h
  called_frames serving seat place behind (call.Fragment name) s o h = given_called_frames place (fragment_in name seat) seat behind s o h
  called_frames serving seat place behind (call.Include flush params) s o h =
      popped_all_frames (address_with params) o _ (λ ds rest.
      include_frames serving place (page_run_of seat) (text_at 0 ds) (params_in (behind_first ds)) behind (flush_if flush s) (record o { stack = rest }) (omega (arith, h, (flush_if_calm flush s).frames)))
  called_frames serving seat place behind call.Import s o h =
      popped_all_frames 1 o _ (λ ds rest. import_frames serving place (page_run_of seat) (text_at 0 ds) behind s (record o { stack = rest }) h)

  gone_frames : (o : Open) (s : State) (w : Did) (go : Unit {0} → State → Config) → Gone s w → n ≤ framed s → StandFrames n (then_at o w go)
  gone_frames o s (Well u t) go gone h = absurd gone
  gone_frames o s (Raised f place t) go gone h = thrown_frames f place t o (omega (arith, h, gone.frames))
  gone_frames o s (Ended (redirects location) t) go gone h = omega (arith, h, gone.frames)
  gone_frames o s (Ended (forwards path params left) t) go gone h = tt
  gone_frames o s (Awaits step t) go gone h = tt

  leaving_frames : (serving : Serving) (seat : Seat) (place : Place) (how : Leave) (s : State) (o : Open) → n ≤ framed s → MoveFrames n (leaving serving seat place how s o)
  leaving_frames serving seat place (leave.Forward params) s o h =
      popped_all_frames (address_with params) o _ (λ ds rest.
      gone_frames (record o { stack = rest }) s (forward_mean (served_of serving) (levels o.left) place (page_run_of seat) (text_at 0 ds) (params_in (behind_first ds)) s) (λ u s1. Over (Well u s1))
      (forward_gone (served_of serving) o.left place (page_run_of seat) (text_at 0 ds) (params_in (behind_first ds)) s) h)
  leaving_frames serving seat place leave.Redirect s o h =
      popped_all_frames 1 o _ (λ ds rest. gone_frames (record o { stack = rest }) s (redirect_mean place (text_at 0 ds) s) (λ u s1. Over (Well u s1)) (redirect_gone place (text_at 0 ds) s) h)
  leaving_frames serving seat place leave.End s o h = h

  taken_frames : (place : Place) (s : State) → n ≤ framed s → LeavesFrames n (taken place s)
  taken_frames place s h = go (body_answer (innermost s.writer.kept))
    where
      go : (r : Result (List ℕ) RunFault) → LeavesFrames n (result_of place r (in_writer (without_body s.writer) s))
      go (Ok t) = h
      go (Err f) = h

  act_frames : (serving : Serving) (seat : Seat) (place : Place) (pc : ℕ) (s : State) (o : Open) (i : Instr) → n ≤ framed s → MoveFrames n (act serving seat place pc s o i)
  act_frames serving seat place pc s o (instr.Op op) h =
      popped_all_frames (takes op) o _ (λ ds rest.
      let w = operation serving seat place op ds s in
      let k = (operation_works serving seat place op ds s).keeps in
      land_frames (pc + 1) (λ made. made ++ rest) (record o { stack = rest }) w
      (tame_frames s w (record { grows = k.grows; bodies = k.bodies; visits = k.visits; frames = k.frames }) h))
  act_frames serving seat place pc s o (instr.Take k) h = brought_frames (slice_get o.stack k) k (pc + 1) s o h
  act_frames serving seat place pc s o instr.StartBody h = h
  act_frames serving seat place pc s o instr.TakeBody h = land_frames (pc + 1) (λ t. text t ∷ o.stack) o (taken place s) (taken_frames place s h)
  act_frames serving seat place pc s o (instr.Jump k) h = h
  act_frames serving seat place pc s o (instr.JumpIf b k) h =
      popped_frames o o.stack _ (λ d rest.
      let p : Open = record o { stack = rest } in
      one_of_frames (is_same_truth b (is_true d)) (Running (pc + 1 + k) s p) (Running (pc + 1) s p) h h)
  act_frames serving seat place pc s o (instr.JumpNull k) h = popped_frames o o.stack _ (λ d rest. null_frames d (pc + 1 + k) (pc + 1) s o rest h)
  act_frames serving seat place pc s o (instr.Ensure x bean k) h =
      let w = bean_made place (held_scope x.scope) x.name (datum_of bean) s in
      then_at_frames o w (λ made s1. one_of made (Running (pc + 1) s1 o) (Running (pc + 1 + k) s1 o))
      (tame_frames s w (bean_tame place (held_scope x.scope) x.name (datum_of bean) s) h)
      (λ made t g. one_of_frames made (Running (pc + 1) t o) (Running (pc + 1 + k) t o) g g)
  act_frames serving seat place pc s o (instr.LoopStart kind) h =
      popped_all_frames (length kind.names) o _ (λ ds rest.
      let p : Open = record o { stack = rest } in
      let vs = table_of kind.names ds in
      then_at_frames p (result_of place (loop_rounds kind.over vs) s)
      (λ rounds s1. Running (pc + 1) s1 (with_loop (record { variable = kind.variable; status = kind.status; values = vs; rounds = rounds }) p))
      (tame_frames s (result_of place (loop_rounds kind.over vs) s) (result place (loop_rounds kind.over vs) s) h) (λ rounds t k. k))
  act_frames serving seat place pc s o (instr.LoopNext k) h = loop_frames place o.loops (pc - k) (pc + 1) s o h
  act_frames serving seat place pc s o (instr.CatchStart k) h = h
  act_frames serving seat place pc s o instr.CatchEnd h = closed_frames o.catches (pc + 1) s o h
  act_frames serving seat place pc s o (instr.CallOut c) h = called_frames serving seat place (pc + 1) c s o h
  act_frames serving seat place pc s o (instr.Leave how) h = leaving_frames serving seat place how s o h

  pub move_frames : (serving : Serving) (seat : Seat) (pc : ℕ) (s : State) (o : Open) → n ≤ framed s → MoveFrames n (move_of serving seat pc s o)
  move_frames serving seat pc s o h = go (slice_get (code_of seat) pc)
    where
      go : (c : Option Cell) → MoveFrames n (act_at serving seat pc s o c)
      go None = tt
      go (Some c) = act_frames serving seat c.place pc s o c.instr h

  -- a run
  pub run_frames : (serving : Serving) (seat : Seat) (c : Config) (d : Did) → StandFrames n c → Runs serving seat c d → LeavesFrames n d
  run_frames serving seat _ d h (over _ _) = h
  run_frames serving seat _ d h (on _ pc s o next _ e r) =
      let m = subst (MoveFrames n) e (move_frames serving seat pc s o h) in
      run_frames serving seat next d m r
  run_frames serving seat _ d h (into _ pc s o callee first back r _ e a b) =
      let m = subst (MoveFrames n) e (move_frames serving seat pc s o h) in
      run_frames serving seat (back r) d (m.1 r (run_frames serving callee first r m.0 a)) b

over_frames : (d : Did) → LeavesFrames (framed (state_of d)) d
over_frames (Well u t) = omega arith
over_frames (Raised f place t) = omega arith
over_frames (Ended (redirects location) t) = omega arith
over_frames (Ended (forwards path params left) t) = tt
over_frames (Awaits step t) = tt

here_frames : (c : Config) → StandFrames (framed (config_state c)) c
here_frames (Running pc s o) = omega arith
here_frames (Over d) = over_frames d

pub runs_leave_frames : RunsLeaveFrames
runs_leave_frames serving seat c d r = run_frames (framed (config_state c)) serving seat c d (here_frames c) r

pub turns_leave_frames : TurnsLeaveFrames
turns_leave_frames serving seat pc to s s2 o o2 t = go (Running pc s o) (Running to s2 o2) t (omega arith)
  where
    go : (c next : Config) → Turned serving seat c next → StandFrames (framed s) c → StandFrames (framed s) next
    go _ next (moved at t p _ e) h = subst (MoveFrames (framed s)) e (move_frames (framed s) serving seat at t p h)
    go _ next (called at t p _ callee first back r e run q) h =
        let m = subst (MoveFrames (framed s)) e (move_frames (framed s) serving seat at t p h) in
        subst (StandFrames (framed s)) q (m.1 r (run_frames (framed s) serving callee first r m.0 run))
