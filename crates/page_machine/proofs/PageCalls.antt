-- The exits of includes and imports, and of the run of a page.
use Rattle.std.proofs.Common.{◌≡◌, ◌≤◌, ◌-◌, ℕ, suc, Bool, true, false, List, [], ◌∷◌, ◌++◌, length, length-drop, Result, Ok, Err, Some, refl, sym, ap, ◌∙◌, subst, append_assoc, codes, get_or, inl, inr, arith}
use Rattle.std.specs.Prelude.{◌⊎◌, IsErrAnd, take, drop, reverse, ◌&&◌, is_none, map, not}
use Rattle.std.proofs.lemmas.List.{take_all}
use Rattle.http_in.specs.declared.params.Param.{Param}
use Rattle.jstl_functions.specs.Texts.{contains_part}
use Rattle.out_buffer.specs.Writer.{has_committed}
use Rattle.page_code.specs.Ops.{address_with}
use Rattle.page_code.specs.declared.call.CallOut.TheVariants as call
use Rattle.run_moves.specs.Acted.{MoveGrows, Acted}
use Rattle.run_world.specs.Origin.{Origin}
use Rattle.run_world.specs.Part.{given, Doing, Changes}
use Rattle.run_moves.specs.Landing.{failing}
use Rattle.run_moves.specs.Leaving.{path_named}
use Rattle.page_machine.specs.Pages.{IsNoPath, ImportSo, TargetSo, include_found, included_run}
use Rattle.page_machine.specs.Turn.{EndsSo, CodeRuns, Ran, Stepped}
use Rattle.run_moves.specs.declared.flow.End.{End}
use Rattle.run_moves.specs.declared.flow.End.TheVariants as ends
use Rattle.run_moves.specs.declared.flow.Flow.{Flow}
use Rattle.run_moves.specs.declared.flow.Flow.TheVariants as flows
use Rattle.page_machine.specs.declared.targets.Target as machine_target
use Rattle.run_moves.proofs.Acts.{acted_as, acted_short, then_at_grows}
use Rattle.page_meaning.proofs.Growing.{both, quiet, same}
use Rattle.run_world.proofs.Adds.{put_text_adds}
use Rattle.run_moves.proofs.Behind.{acted_after, acted_spent, fell_move, well_move}
use Rattle.page_machine.proofs.CallExits.{acted_stepped, included_grows, stepped_after, stepped_as, stepped_behind}
use Rattle.page_machine.proofs.Calling.{Enters, page_enters}
use Rattle.run_moves.proofs.Landings.{popped_all_is}
use Rattle.page_machine.proofs.TagCalls.{called_grows, deeper_some, goes_grows}
use Rattle.page_meaning.specs.Attributes.{text_in}
use Rattle.page_meaning.specs.Bodies.{put_text}
use Rattle.page_meaning.specs.Context.{Paged, Run}
use Rattle.page_meaning.specs.Growth.{state_of, Grows}
use Rattle.page_meaning.specs.Includes.{ask_page, target_path, target_params, included_end, session_started, starts_session}
use Rattle.page_meaning.specs.Meaning.{flush_if}
use Rattle.page_meaning.specs.State.{State, in_scopes}
use Rattle.page_meaning.specs.Went.{Did, Well, Raised, Ended, Awaits, forwards, redirects, either}
use Rattle.page_table.specs.Act.{called_out, with_stack}
use Rattle.page_table.specs.Landing.{Config, Running, thrown, land}
use Rattle.page_table.specs.Move.{Move, On, then_move}
use Rattle.page_table.specs.Open.{Open, fresh_open}
use Rattle.page_table.specs.Operations.{text_at, behind_first, params_in}
use Rattle.page_table.specs.Pages.{page_begun, page_entered, included, include_path, include_at, include_called, import_called}
use Rattle.page_table.specs.Program.{Program, Stored, absent, plain, bad, good, Serving, page_of, served_of}
use Rattle.page_table.specs.Runs.{EndsBehind, PageRuns, config_state}
use Rattle.page_table.specs.Seat.{Seat, in_page, page_run_of}
use Rattle.page_table.proofs.Growing.{include_goes, run_grows}
use Rattle.page_table.proofs.Pages.{page_begun_keeps}
use Rattle.pg_text.specs.Failure.{Answers}
use Rattle.pg_text.specs.declared.failure.Failure.{Failure}
use Rattle.pg_text.specs.declared.failure.Failure.TheVariants as failure
use Rattle.pg_text.specs.declared.place.Place.{Place}
use Rattle.pg_text.specs.declared.resolution.BadPath.{BadPath}
use Rattle.pg_value.specs.Datum.{Datum}
use Rattle.pg_value.specs.Value.{datum_of}
use Rattle.pg_value.specs.declared.value.Value.{Value}
use Rattle.pg_value.specs.declared.fault.RunFault.{RunFault}
use Rattle.pg_value.specs.declared.fault.RunFault.TheVariants as fault
use Rattle.scopes.specs.Scopes.{ScopeState, with_frame}
use Rattle.site_words.specs.Law.{Answer}

-- the values of a target
rest_of : (values : List Value) → map datum_of (drop 1 values) ≡ behind_first (map datum_of values)
rest_of [] = refl
rest_of (first ∷ rest) = refl

abbrev path_or : Result (List ℕ) RunFault → List ℕ
path_or (Ok path) = path
path_or (Err f) = []

abbrev fault_or : Result (List ℕ) RunFault → RunFault
fault_or (Ok path) = fault.NoSuchPage
fault_or (Err f) = f

named_well : (r : Result (List ℕ) BadPath) (path : List ℕ) → path_named r ≡ Ok path → r ≡ Ok path
named_well (Ok p) path e = ap Ok (ap path_or e)
named_well (Err reason) path e = absurd (cc)

named_badly : (r : Result (List ℕ) BadPath) (f : RunFault) → path_named r ≡ Err f → (f ≡ fault.NoSuchPage) × IsNoPath r
named_badly (Ok p) f e = absurd (cc)
named_badly (Err reason) f e = (sym (ap fault_or e), tt)

-- the first of some values, as a text
pub first_is : (values : List Value) (first : Value) → 1 ≤ length values → first ≡ get_or values 0 first → text_in (Some (datum_of first)) ≡ text_at 0 (map datum_of values)
first_is [] first h is = absurd (omega (arith, h))
first_is (x ∷ xs) first h is = ap (λ y. text_in (Some (datum_of y))) is

module _ (run : Run) (values : List Value) (address : List ℕ) (is : address ≡ text_at 0 (map datum_of values)) where
  -- the target of these values
  pub target_found : (path : List ℕ) (params : List Param) → path_named (target_path run address) ≡ Ok path → params ≡ target_params run address (params_in (map datum_of (take (length values - 1) (drop 1 values))))
      → (target_path run (text_at 0 (map datum_of values)) ≡ Ok path) × (params ≡ target_params run (text_at 0 (map datum_of values)) (params_in (behind_first (map datum_of values))))
  target_found path params named found = (
    subst (λ a. target_path run a ≡ Ok path) is (named_well (target_path run address) path named),
    found ∙ ap (λ vs. target_params run address (params_in (map datum_of vs))) (take_all (length values - 1) (drop 1 values) (omega (arith, length-drop 1 values)))
        ∙ ap (λ a. target_params run a (params_in (map datum_of (drop 1 values)))) is
        ∙ ap (λ ds. target_params run (text_at 0 (map datum_of values)) (params_in ds)) (rest_of values),
  )

  -- or its fault
  pub target_failed : (e : Failure RunFault) → Answers (path_named (target_path run address)) (Err e) → (result : Result machine_target.Target (Failure RunFault)) → IsErrAnd result (λ f. f ≡ e)
      → TargetSo run (map datum_of values) result
  target_failed e named (Ok found) same = absurd same
  target_failed (failure.Fault f) named (Err x) same =
      subst (λ y. TargetSo run (map datum_of values) (Err y)) (sym same)
      (subst (λ a. (f ≡ fault.NoSuchPage) × IsNoPath (target_path run a)) is (named_badly (target_path run address) f named))
  target_failed failure.NoMemory named (Err x) same = subst (λ y. TargetSo run (map datum_of values) (Err y)) (sym same) tt

pub target_short : (run : Run) (ds : List Datum) (result : Result machine_target.Target (Failure RunFault)) → IsErrAnd result (λ f. f ≡ failure.NoMemory) → TargetSo run ds result
target_short run ds (Ok found) same = absurd same
target_short run ds (Err x) same = subst (λ y. TargetSo run ds (Err y)) (sym same) tt

-- a target that was found, or its fault
no_page_at : (serving : Serving) (place : Place) (params : List Param) (r : Result (List ℕ) BadPath) (to : ℕ) (s : State) (o : Open) → IsNoPath r
    → include_at serving place params r to s o ≡ On (thrown fault.NoSuchPage place s o)
no_page_at serving place params (Ok path) to s o h = absurd h
no_page_at serving place params (Err reason) to s o h = refl

include_is : (serving : Serving) (place : Place) (run : Run) (ds : List Datum) (to : ℕ) (s : State) (o : Open) (found : Result machine_target.Target (Failure RunFault)) → TargetSo run ds found
    → (found ≡ Err failure.NoMemory → ⊥) → include_called serving place run (text_at 0 ds) (params_in (behind_first ds)) to s o ≡ include_found run serving place found to s o
include_is serving place run ds to s o (Ok t) h some =
    ap (λ r. include_at serving place (target_params run (text_at 0 ds) (params_in (behind_first ds))) r to s o) h.0 ∙ ap (λ ps. include_path serving place ps t.path to s o) (sym h.1)
include_is serving place run ds to s o (Err (failure.Fault f)) h some =
    no_page_at serving place (target_params run (text_at 0 ds) (params_in (behind_first ds))) (target_path run (text_at 0 ds)) to s o h.1 ∙ ap (λ x. On (thrown x place s o)) (sym h.0)
include_is serving place run ds to s o (Err failure.NoMemory) h some = absurd (some refl)

pub include_failed_is : (run : Run) (serving : Serving) (place : Place) (failed : Failure RunFault) (to : ℕ) (s : State) (o : Open) → include_found run serving place (Err failed) to s o ≡ failing place o failed s
include_failed_is run serving place (failure.Fault f) to s o = refl
include_failed_is run serving place failure.NoMemory to s o = refl

-- memory for a target ran out, or not
is_short : (found : Result machine_target.Target (Failure RunFault)) → (found ≡ Err failure.NoMemory) ⊎ (found ≡ Err failure.NoMemory → ⊥)
is_short (Ok t) = inr (λ e. absurd (cc))
is_short (Err (failure.Fault f)) = inr (λ e. absurd (cc))
is_short (Err failure.NoMemory) = inl refl

module _ (place : Place) (to : ℕ) (seat : Seat) (o p : Open) (ds : List Datum) where
  -- an include by an address, behind a flush where that is asked
  module _ (flush : Bool) (params : ℕ) (enough : address_with params ≤ length o.stack) (rest : p ≡ with_stack (drop (address_with params) o.stack) o) (taken : ds ≡ reverse (take (address_with params) o.stack)) where
    called_is : (serving : Serving) (s : State) → called_out serving seat place to (call.Include flush params) s o
        ≡ include_called serving place (page_run_of seat) (text_at 0 ds) (params_in (behind_first ds)) to (flush_if flush s) p
    called_is serving s =
        popped_all_is (address_with params) o (λ ds q. include_called serving place (page_run_of seat) (text_at 0 ds) (params_in (behind_first ds)) to (flush_if flush s) q) enough
        ∙ ap (λ xs. include_called serving place (page_run_of seat) (text_at 0 xs) (params_in (behind_first xs)) to (flush_if flush s) (with_stack (drop (address_with params) o.stack) o)) (sym taken)
        ∙ ap (λ q. include_called serving place (page_run_of seat) (text_at 0 ds) (params_in (behind_first ds)) to (flush_if flush s) q) (sym rest)

    flush_blind : (a : List Answer) (s : State) → flush_if flush (given a s) ≡ given a (flush_if flush s)
    flush_blind a s = go flush
      where
        go : (b : Bool) → flush_if b (given a s) ≡ given a (flush_if b s)
        go true = refl
        go false = refl

    module _ {W : Type 0} {reached : W → Origin → W → State → Type 0} {replies : W → List Answer} {serves : W → Serving → Type 0} where
      -- memory for the flush ran out
      pub include_unflushed : (old new : W) (o2 : Open) → Changes reached (λ s. s) old new → replies new ≡ replies old
          → Stepped reached replies serves seat (λ serving s. called_out serving seat place to (call.Include flush params) s o) old new o2 (flows.Over ends.NoMemory)
      include_unflushed old new o2 changes same =
          acted_stepped seat (λ serving s. called_out serving seat place to (call.Include flush params) s o) old new o2 (flows.Over ends.NoMemory)
          (λ serving h. acted_spent (λ s. called_out serving seat place to (call.Include flush params) s o) old new o2 (λ s. called_grows serving seat place to (call.Include flush params) s o) changes same)

      pub include_stepped : (old mid new : W) (found : Result machine_target.Target (Failure RunFault)) (o2 : Open) (flow : Flow) → TargetSo (page_run_of seat) ds found
          → Changes reached (flush_if flush) old mid → replies mid ≡ replies old → ((serving : Serving) → serves old serving → serves mid serving)
          → Stepped reached replies serves seat (λ serving s. include_found (page_run_of seat) serving place found to s p) mid new o2 flow → (found ≡ Err failure.NoMemory → (flow ≡ flows.Over ends.NoMemory) × (new ≡ mid))
          → Stepped reached replies serves seat (λ serving s. called_out serving seat place to (call.Include flush params) s o) old new o2 flow
      include_stepped old mid new found o2 flow target changes same onward stepped short = go (is_short found)
        where
          M : Serving → State → Move
          M serving s = called_out serving seat place to (call.Include flush params) s o

          next : Serving → State → Move
          next serving t = include_called serving place (page_run_of seat) (text_at 0 ds) (params_in (behind_first ds)) to t p

          wanting : (flow ≡ flows.Over ends.NoMemory) × (new ≡ mid) → Stepped reached replies serves seat M old new o2 flow
          wanting e =
              subst (λ f. Stepped reached replies serves seat M old new o2 f) (sym e.0)
              (subst (λ w. Stepped reached replies serves seat M old w o2 (flows.Over ends.NoMemory)) (sym e.1)
              (acted_stepped seat M old mid o2 (flows.Over ends.NoMemory)
              (λ serving h. acted_after (M serving) (next serving) (flush_if flush) old mid mid o2 (flows.Over ends.NoMemory) flush_blind (called_is serving) changes same
              (acted_short (next serving) mid o2 (λ t. goes_grows p.left t (next serving t) (include_goes serving place (page_run_of seat) (text_at 0 ds) (params_in (behind_first ds)) to t p))))))

          go : (found ≡ Err failure.NoMemory) ⊎ (found ≡ Err failure.NoMemory → ⊥) → Stepped reached replies serves seat M old new o2 flow
          go (inl e) = wanting (short e)
          go (inr some) =
              stepped_after seat M (λ serving s. include_found (page_run_of seat) serving place found to s p) (flush_if flush) old mid new o2 flow flush_blind
              (λ serving h s. called_is serving s ∙ include_is serving place (page_run_of seat) ds to (flush_if flush s) p found target some) changes same onward stepped

  -- an import
  module _ (enough : 1 ≤ length o.stack) (rest : p ≡ with_stack (drop 1 o.stack) o) (taken : ds ≡ reverse (take 1 o.stack)) where
    import_is : (serving : Serving) (s : State) → called_out serving seat place to call.Import s o ≡ import_called serving place (page_run_of seat) (text_at 0 ds) to s p
    import_is serving s =
        popped_all_is 1 o (λ ds q. import_called serving place (page_run_of seat) (text_at 0 ds) to s q) enough
        ∙ ap (λ xs. import_called serving place (page_run_of seat) (text_at 0 xs) to s (with_stack (drop 1 o.stack) o)) (sym taken)
        ∙ ap (λ q. import_called serving place (page_run_of seat) (text_at 0 ds) to s q) (sym rest)

    -- one value taken has none behind it
    nothing_behind : (xs : List Datum) → 1 ≤ length xs → behind_first (reverse (take 1 xs)) ≡ []
    nothing_behind [] h = refl
    nothing_behind (x ∷ xs) h = refl

    no_params : params_in (behind_first ds) ≡ []
    no_params = ap (λ xs. params_in (behind_first xs)) taken ∙ ap params_in (nothing_behind o.stack enough)

    found_is : (b : Bool) (serving : Serving) (s : State) (found : Result machine_target.Target (Failure RunFault)) → ImportSo b (page_run_of seat) ds found → (found ≡ Err failure.NoMemory → ⊥)
        → then_move p (either b (Raised fault.BadUrl place) (λ s1. let w : Did = Well tt s1 in w) s) (λ u s1. include_called serving place (page_run_of seat) (text_at 0 ds) [] to s1 p)
        ≡ include_found (page_run_of seat) serving place found to s p
    found_is true serving s found h some = ap (λ f. include_found (page_run_of seat) serving place f to s p) (sym h)
    found_is false serving s found h some =
        ap (λ ps. include_called serving place (page_run_of seat) (text_at 0 ds) ps to s p) (sym no_params) ∙ include_is serving place (page_run_of seat) ds to s p found h some

    module _ {W : Type 0} {reached : W → Origin → W → State → Type 0} {replies : W → List Answer} {serves : W → Serving → Type 0} where
      pub import_stepped : (w new : W) (found : Result machine_target.Target (Failure RunFault)) (o2 : Open) (flow : Flow) → ImportSo (contains_part (codes "://") (text_at 0 ds)) (page_run_of seat) ds found
          → Stepped reached replies serves seat (λ serving s. include_found (page_run_of seat) serving place found to s p) w new o2 flow → (found ≡ Err failure.NoMemory → (flow ≡ flows.Over ends.NoMemory) × (new ≡ w))
          → Stepped reached replies serves seat (λ serving s. called_out serving seat place to call.Import s o) w new o2 flow
      import_stepped w new found o2 flow target stepped short = go (is_short found)
        where
          M : Serving → State → Move
          M serving s = called_out serving seat place to call.Import s o

          wanting : (flow ≡ flows.Over ends.NoMemory) × (new ≡ w) → Stepped reached replies serves seat M w new o2 flow
          wanting e =
              subst (λ f. Stepped reached replies serves seat M w new o2 f) (sym e.0)
              (subst (λ v. Stepped reached replies serves seat M w v o2 (flows.Over ends.NoMemory)) (sym e.1)
              (acted_stepped seat M w w o2 (flows.Over ends.NoMemory) (λ serving h. acted_short (M serving) w o2 (λ t. called_grows serving seat place to call.Import t o))))

          go : (found ≡ Err failure.NoMemory) ⊎ (found ≡ Err failure.NoMemory → ⊥) → Stepped reached replies serves seat M w new o2 flow
          go (inl e) = wanting (short e)
          go (inr some) =
              stepped_as seat M (λ serving s. include_found (page_run_of seat) serving place found to s p) w new o2 flow
              (λ serving h s. import_is serving s ∙ found_is (contains_part (codes "://") (text_at 0 ds)) serving s found target some) stepped

-- an included page only adds
page_entered_grows : (program : Program) (params : List Param) (left : ℕ) (back : Did → Config) (s : State) (d : Did) → Grows s (state_of d) → ((r : Did) → Grows (state_of r) (config_state (back r)))
    → MoveGrows s (page_entered program params left back d)
page_entered_grows program params left back s (Well u t) g h = (g, h)
page_entered_grows program params left back s (Raised f place t) g h = both s t (config_state (back (Raised f place t))) g (h (Raised f place t))
page_entered_grows program params left back s (Ended leaving t) g h = both s t (config_state (back (Ended leaving t))) g (h (Ended leaving t))
page_entered_grows program params left back s (Awaits step t) g h = both s t (config_state (back (Awaits step t))) g (h (Awaits step t))

pub included_run_grows : (place : Place) (program : Program) (params : List Param) (left to : ℕ) (s : State) (o : Open) → MoveGrows s (included_run place program params left to s o)
included_run_grows place program params left to s o =
    let t = in_scopes (with_frame s.scopes) s in
    page_entered_grows program params left (λ d. land to (λ u. o.stack) o (included_end place s d)) s (page_begun program t)
    (both s t (state_of (page_begun program t)) (quiet s t refl refl refl) (page_begun_keeps program t).grows) (λ d. included_grows to o place s d)

plain_grows : (place : Place) (t : List ℕ) (to : ℕ) (s : State) (o : Open) → Grows s (config_state (land to (λ u. o.stack) o (put_text place t s)))
plain_grows place t to s o =
    both s (state_of (put_text place t s)) (config_state (land to (λ u. o.stack) o (put_text place t s))) (put_text_adds place t s)
    (then_at_grows o (put_text place t s) (λ u x. Running to x o) (λ u x. same x))

-- where an include goes on behind its own run
abbrev pub included_back : Place → (to : ℕ) → Open → State → Did → Config
included_back place to o s d = land to (λ u. o.stack) o (included_end place s d)

pub included_enters : (serving : Serving) (seat : Seat) (place : Place) (program : Program) (params : List Param) (left to : ℕ) (o : Open) (s : State) (future : List Answer)
    → Enters serving seat (included_run place program params left to (given future s) o) (PageRuns serving program params left (given future (in_scopes (with_frame s.scopes) s))) (included_back place to o s)
included_enters serving seat place program params left to o s future =
    page_enters serving seat program params left (included_back place to o s) (page_begun program (in_scopes (with_frame (given future s).scopes) (given future s)))

module _ (place : Place) (to left : ℕ) (params : List Param) (path : List ℕ) (o : Open) (level : o.left ≡ suc left) where
  path_is : (serving : Serving) (s : State)
      → include_path serving place params path to s o ≡ then_move o (ask_page (served_of serving) place path s) (λ paged s1. included place params left (serving.stored path) to s1 o)
  path_is serving s = deeper_some place s o o.left left _ level

  included_adds : (found : Stored) (s : State) → MoveGrows s (included place params left found to s o)
  included_adds absent s = same s
  included_adds (bad f) s = same s
  included_adds (plain t) s = plain_grows place t to s o
  included_adds (good program) s = included_run_grows place program params left to s o

  module _ {W : Type 0} {reached : W → Origin → W → State → Type 0} {replies : W → List Answer} {serves : W → Serving → Type 0} where
    -- what stands at the path wasn't told
    pub path_failed : {A : Type 0} {view : A → Paged} (seat : Seat) (old mid new : W) (failed : Failure RunFault) (o2 : Open) (flow : Flow)
        → ((serving : Serving) → serves old serving → Doing reached replies view (λ place. ask_page (served_of serving) place path) old mid (Err failed)) → Acted reached replies (failing place o failed) mid new o2 flow
        → (failed ≡ failure.NoMemory → (flow ≡ flows.Over ends.NoMemory) × (new ≡ mid)) → Stepped reached replies serves seat (λ serving s. include_path serving place params path to s o) old new o2 flow
    path_failed seat old mid new failed o2 flow does acted short =
        acted_stepped seat (λ serving s. include_path serving place params path to s o) old new o2 flow
        (λ serving h. acted_as (λ s. include_path serving place params path to s o)
        (λ s. then_move o (ask_page (served_of serving) place path s) (λ paged s1. included place params left (serving.stored path) to s1 o)) old new o2 flow (path_is serving)
        (fell_move place o (λ paged s1. included place params left (serving.stored path) to s1 o) old mid new failed o2 flow (λ paged t. included_adds (serving.stored path) t) (does serving h) acted short))

    -- what stands at the path was told, and what follows
    module _ {A : Type 0} {view : A → Paged} (seat : Seat) (a : A) (old mid : W)
        (does : (serving : Serving) → serves old serving → Doing reached replies view (λ place. ask_page (served_of serving) place path) old mid (Ok a)) where
      pub path_page : (program : Program) (new : W) (o2 : Open) (flow : Flow) → ((serving : Serving) → serves old serving → serving.stored path ≡ good program) → ((serving : Serving) → serves old serving → serves mid serving)
          → Stepped reached replies serves seat (λ serving s. included_run place program params left to s o) mid new o2 flow → Stepped reached replies serves seat (λ serving s. include_path serving place params path to s o) old new o2 flow
      path_page program new o2 flow stored onward stepped =
          stepped_behind (λ serving place. ask_page (served_of serving) place path) place seat (λ serving s. include_path serving place params path to s o) (λ serving s. included_run place program params left to s o) old mid new a o2 flow
          (λ serving h s t e. path_is serving s ∙ ap (λ w. then_move o w (λ paged s1. included place params left (serving.stored path) to s1 o)) e ∙ ap (λ f. included place params left f to t o) (stored serving h))
          does onward stepped

      pub path_on : (f : Stored) (new : W) (o2 : Open) (flow : Flow) → ((serving : Serving) → serves old serving → serving.stored path ≡ f) → Acted reached replies (λ t. included place params left f to t o) mid new o2 flow
          → Stepped reached replies serves seat (λ serving s. include_path serving place params path to s o) old new o2 flow
      path_on f new o2 flow stored acted =
          acted_stepped seat (λ serving s. include_path serving place params path to s o) old new o2 flow
          (λ serving h. acted_as (λ s. include_path serving place params path to s o)
          (λ s. then_move o (ask_page (served_of serving) place path s) (λ paged s1. included place params left (serving.stored path) to s1 o)) old new o2 flow (path_is serving)
          (well_move place o (λ paged s1. included place params left (serving.stored path) to s1 o) old mid new a o2 flow (does serving h)
          (acted_as (λ t. included place params left (serving.stored path) to t o) (λ t. included place params left f to t o) mid new o2 flow (λ t. ap (λ x. included place params left x to t o) (stored serving h)) acted)))

-- the beginning of a page's run raises no fault
never_raised : (program : Program) (s t : State) (f : RunFault) (place : Place) → page_begun program s ≡ Raised f place t → ⊥
never_raised program s t f place e = go (starts_session (page_of program) s) s.answers e
  where
    is_quiet : Did → Type 0
    is_quiet (Raised f place t) = ⊥
    is_quiet other = Unit {0}

    go : (b : Bool) (answers : List Answer) → either b (session_started answers) (λ s1. let w : Did = Well tt s1 in w) s ≡ Raised f place t → ⊥
    go true [] e = subst is_quiet e tt
    go true (answer ∷ rest) e = subst is_quiet e tt
    go false answers e = subst is_quiet e tt

-- what is behind the beginning of a page's run only adds
behind_grows : (serving : Serving) (program : Program) (params : List Param) (left : ℕ) (w d : Did) → EndsBehind serving program params left w d → Grows (state_of w) (state_of d)
behind_grows serving program params left (Well u s) d r = run_grows serving (in_page program params) (Running 0 s (fresh_open left)) d r
behind_grows serving program params left (Raised f place s) d r = subst (λ x. Grows s (state_of x)) (sym r) (same s)
behind_grows serving program params left (Ended leaving s) d r = subst (λ x. Grows s (state_of x)) (sym r) (same s)
behind_grows serving program params left (Awaits step s) d r = subst (λ x. Grows s (state_of x)) (sym r) (same s)

-- the run of a page behind its beginning
module _ (place : Place) (program : Program) (params : List Param) (left : ℕ) where
  module _ (serving : Serving) (s t after : State) (got more : List Answer) (went : (future : List Answer) → page_begun program (given (got ++ future) s) ≡ Well tt (given future t)) where
    begun_is : (future : List Answer) → page_begun program (given ((got ++ more) ++ future) s) ≡ Well tt (given (more ++ future) t)
    begun_is future = ap (λ x. page_begun program (given x s)) (append_assoc got more future) ∙ went (more ++ future)

    page_forth : (future : List Answer) (d : Did) → CodeRuns (in_page program params) 0 left serving (given (more ++ future) t) d → PageRuns serving program params left (given ((got ++ more) ++ future) s) d
    page_forth future d r = subst (λ w. EndsBehind serving program params left w d) (sym (begun_is future)) r

    page_ends : (end : End) → EndsSo (λ future d. CodeRuns (in_page program params) 0 left serving (given (more ++ future) t) d) end after
        → EndsSo (λ future d. PageRuns serving program params left (given ((got ++ more) ++ future) s) d) end after
    page_ends ends.Normal h = λ future. page_forth future (Well tt (given future after)) (h future)
    page_ends (ends.Forward path ps l) h = λ future. page_forth future (Ended (forwards path ps l) (given future after)) (h future)
    page_ends (ends.Redirect location) h = λ future. page_forth future (Ended (redirects location) (given future after)) (h future)
    page_ends (ends.Raised f p) h = λ future. page_forth future (Raised f p (given future after)) (h future)
    page_ends ends.NoMemory h = λ future d r. h future d (subst (λ w. EndsBehind serving program params left w d) (begun_is future) r)

  module _ {W : Type 0} {reached : W → Origin → W → State → Type 0} {replies : W → List Answer} {serves : W → Serving → Type 0} where
    pub ran_page : (old mid new : W) (end : End) → Doing reached replies (λ u. u) (λ place. page_begun program) old mid (Ok tt) → ((serving : Serving) → serves old serving → serves mid serving)
        → Ran reached replies serves (CodeRuns (in_page program params) 0 left) mid new end → Ran reached replies serves (λ serving s d. PageRuns serving program params left s d) old new end
    ran_page old mid new end does onward run = record {
      by = λ serving h first origin s stands.
          let d = does.by first origin s stands in
          let r = run.by serving (onward serving h) first origin d.after d.stood in
          record {
            got = d.got ++ r.got;
            replies = r.replies ∙ ap (λ x. x ++ r.got) d.replies ∙ append_assoc (replies old) d.got r.got;
            after = r.after;
            stood = r.stood;
            ends = page_ends serving s d.after r.after d.got r.got (d.went place) end r.ends;
          };
    }

    -- the beginning failed: memory ran out
    pub page_failed : (old new : W) (failed : Failure RunFault) → Doing reached replies (λ u. u) (λ place. page_begun program) old new (Err failed)
        → Ran reached replies serves (λ serving s d. PageRuns serving program params left s d) old new ends.NoMemory
    page_failed old new (failure.Fault f) does = record {
      by = λ serving h first origin s stands.
          let d = does.by first origin s stands in
          absurd (never_raised program (given (d.got ++ []) s) (given [] d.after) f place (d.went place []));
    }
    page_failed old new failure.NoMemory does = record {
      by = λ serving h first origin s stands.
          let d = does.by first origin s stands in
          record {
            got = d.got;
            replies = d.replies;
            after = d.after;
            stood = d.stood;
            ends = λ future e r.
                both d.after (state_of (page_begun program (given (d.got ++ future) s))) (state_of e) (d.went place future)
                (behind_grows serving program params left (page_begun program (given (d.got ++ future) s)) e r);
          };
    }

-- whether a page's run starts a session
pub starts_is : (program : Program) (vars : ScopeState) (committed : Bool) (s : State) → vars ≡ s.scopes → committed ≡ has_committed s.writer
    → (program.settings.session && is_none vars.session && not committed) ≡ starts_session (page_of program) s
starts_is program vars committed s e f =
    ap (λ v. program.settings.session && is_none v.session && not committed) e ∙ ap (λ b. program.settings.session && is_none s.scopes.session && not b) f

-- a session is started
pub begun_yes : (program : Program) (s : State) → starts_session (page_of program) s ≡ true → page_begun program s ≡ session_started s.answers s
begun_yes program s e = ap (λ b. either b (session_started s.answers) (λ s1. let w : Did = Well tt s1 in w) s) e

-- or none
pub begun_no : (program : Program) (s : State) → starts_session (page_of program) s ≡ false → page_begun program s ≡ Well tt s
begun_no program s e = ap (λ b. either b (session_started s.answers) (λ s1. let w : Did = Well tt s1 in w) s) e
