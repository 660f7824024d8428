-- What a look at a path does of the state for which a stage stands.
use Rattle.std.proofs.Common.{◌≡◌, ◌⊎◌, inl, inr, ◌≤◌, ◌+◌, ◌*◌, ℕ, Bool, true, false, List, [], ◌∷◌, ◌++◌, length, Option, Some, None, Ok, Err, refl, sym, ap, ◌∙◌, subst, append-nil, arith, map, length-append}
use Rattle.std.specs.Prelude.{◌&&◌, if◌then◌else◌, nat_le}
use Rattle.page_meaning.specs.Growth.{state_of, session_of, Grows, IsOrdered}
use Rattle.page_meaning.specs.Includes.{ask_page, fetched_or_fault}
use Rattle.page_meaning.specs.State.{State, with_asked}
use Rattle.page_meaning.specs.Went.{Well, Raised, either}
use Rattle.page_meaning.specs.Work.{charge_limit, fetched}
use Rattle.run_world.specs.Program.{Serving, Stored, absent, plain, bad, good, paged_of, served_of}
use Rattle.pg_text.specs.declared.failure.Failure.TheVariants as failure
use Rattle.pg_text.specs.declared.place.PageFault.{PageFault}
use Rattle.pg_text.specs.declared.place.Place.{Place}
use Rattle.pg_value.specs.declared.fault.RunFault.TheVariants as fault
use Rattle.run_stage.proofs.AskMoves.{asked_stage, stage_asked}
use Rattle.run_stage.specs.Stage.{IsPageStored, Reached, StoresSo}
use Rattle.run_stage.specs.declared.stage.Stage.{Stage}
use Rattle.page_meaning.proofs.Growing.{asks, ordered_asked, quiet, trace_of}
use Rattle.run_world.specs.Part.{Doing, given}
use Rattle.run_world.specs.Programs.{stored_of}
use Rattle.run_world.specs.declared.program.Program.{Program}
use Rattle.site_words.specs.PageSteps.{Step, fetch, page_charge}
use Rattle.site_words.specs.Running.{Asking, HasLooked, IsPaged, IsPageFile, IsPlain, is_page, look_claim, look_steps, page_claim}
use Rattle.site_words.specs.declared.app_port.Paged.{Paged}
use Rattle.site_words.specs.declared.app_port.Paged.TheVariants as found
use Rattle.source_tree.specs.Edits.{file_at}
use Rattle.source_tree.specs.declared.file.File.{File}
use Rattle.std.proofs.lemmas.List.{length-map}
use Rattle.site_words.proofs.Items.{each_both}
use Rattle.site_words.specs.Trees.{Each}

-- what a look takes of the promise and what it asks, by what stands at the path

claim_at : (b : Bool) (n : ℕ) → b ≡ true → (if b then n else 0) ≡ n
claim_at true n e = refl
claim_at false n e = absurd (cc)

no_claim_at : (b : Bool) (n : ℕ) → b ≡ false → (if b then n else 0) ≡ 0
no_claim_at true n e = absurd (cc)
no_claim_at false n e = refl

-- a page is charged its Fetch and its Offer
pub page_claimed : (path : List ℕ) → is_page path ≡ true → page_claim path ≡ page_charge path
page_claimed path e = let c = claim_at (is_page path) (page_charge path) e in omega (arith, c)

pub plain_claimed : (path : List ℕ) → is_page path ≡ false → page_claim path ≡ 0
plain_claimed path e = no_claim_at (is_page path) (page_charge path) e

pub look_claimed : (path : List ℕ) (file : Option File) → look_claim path file ≤ page_claim path
look_claimed path None = omega arith
look_claimed path (Some file) = omega arith

steps_at : (b : Bool) (steps : List Step) → b ≡ true → (if b then steps else []) ≡ steps
steps_at true steps e = refl
steps_at false steps e = absurd (cc)

no_steps_at : (b : Bool) (steps : List Step) → b ≡ false → (if b then steps else []) ≡ []
no_steps_at true steps e = absurd (cc)
no_steps_at false steps e = refl

-- a page's file was fetched
pub page_steps : (path : List ℕ) (file : Option File) → IsPageFile path file → (is_page path ≡ true) × (look_steps path file ≡ fetch path ∷ [])
page_steps path None is = absurd is
page_steps path (Some file) is = (is, steps_at (is_page path) (fetch path ∷ []) is)

-- nothing was fetched for another file
pub plain_steps : (path : List ℕ) (file : Option File) (text : List ℕ) → IsPlain path file text → (is_page path ≡ false) × (look_steps path file ≡ [])
plain_steps path None text is = absurd is
plain_steps path (Some file) text is = (is.0, no_steps_at (is_page path) (fetch path ∷ []) is.0)

-- how a look goes that isn't refused
look_goes : (serving : Serving) (place : Place) (path : List ℕ) (s : State) (n : ℕ) (st : Stored) → (is_page path && nat_le charge_limit n) ≡ false → s.charge ≡ n → serving.stored path ≡ st
    → ask_page (served_of serving) place path s ≡ fetched_or_fault place path (paged_of st) s
look_goes serving place path s n st allowed charge e =
    ap (λ b. either b (Raised fault.AppTooMuch place) (fetched_or_fault place path (paged_of (serving.stored path))) s) (ap (λ c. is_page path && nat_le charge_limit c) charge ∙ allowed)
    ∙ ap (λ x. fetched_or_fault place path (paged_of x) s) e

-- with these steps asked more
abbrev asked_all : List Step → State → List Step × List ℕ
asked_all steps s = (s.asked ++ steps, s.order ++ map (λ step. length s.writer.pieces) steps)

asked_none : (s : State) → asked_all [] s ≡ trace_of s
asked_none s = ap (λ a. (a, s.order ++ [])) (append-nil s.asked) ∙ ap (λ o. (s.asked, o)) (append-nil s.order)

-- an ordered state stays so
all_behind : (n : ℕ) (steps : List Step) → Each (λ count. count ≤ n) (map (λ step. n) steps)
all_behind n [] = tt
all_behind n (step ∷ steps) = (omega arith, all_behind n steps)

ordered_all : (steps : List Step) (s : State) (charge : ℕ) → IsOrdered s → IsOrdered (record s { asked = (asked_all steps s).0; order = (asked_all steps s).1; charge = charge })
ordered_all steps s charge ordered =
    let n = length s.writer.pieces in
    let counts = length-append s.order (map (λ step. n) steps) in
    let marks = length-map steps (λ step. n) in
    let sum = length-append s.asked steps in
    (omega (arith, counts, marks, sum, ordered.0), each_both (λ count. count ≤ n) s.order (map (λ step. n) steps) ordered.1 (all_behind n steps))

-- the same step is asked of states that asked and committed the same
asked_alike : (step : Step) (t s : State) → trace_of t ≡ trace_of s → t.writer.pieces ≡ s.writer.pieces → trace_of (with_asked step t) ≡ trace_of (with_asked step s)
asked_alike step t s e f =
    ap (λ p. (p.0 ++ step ∷ [], p.1 ++ length t.writer.pieces ∷ [])) e ∙ ap (λ pieces. (s.asked ++ step ∷ [], s.order ++ length pieces ∷ [])) f

-- what a look adds where its answer isn't known: no more than the fetch of a page
unfetched_grows : (st : Stored) (place : Place) (path : List ℕ) (after t : State) → trace_of t ≡ trace_of after → t.writer.pieces ≡ after.writer.pieces → session_of t ≡ session_of after → Grows after (state_of (fetched_or_fault place path (paged_of st) t))
unfetched_grows absent place path after t e f k = quiet after t e f k
unfetched_grows (plain content) place path after t e f k = quiet after t e f k
unfetched_grows (bad reason) place path after t e f k = asks (fetch path) after (fetched path t) (asked_alike (fetch path) t after e f) f k
unfetched_grows (good program) place path after t e f k = asks (fetch path) after (fetched path t) (asked_alike (fetch path) t after e f) f k

fetched_grows : (st : Stored) (place : Place) (path : List ℕ) (after t : State) → IsPageStored st → trace_of after ≡ trace_of (with_asked (fetch path) t) → t.writer.pieces ≡ after.writer.pieces → session_of t ≡ session_of after
    → Grows after (state_of (fetched_or_fault place path (paged_of st) t))
fetched_grows absent place path after t is e f k = absurd is
fetched_grows (plain content) place path after t is e f k = absurd is
fetched_grows (bad reason) place path after t is e f k = quiet after (fetched path t) (sym e) f k
fetched_grows (good program) place path after t is e f k = quiet after (fetched path t) (sym e) f k

-- s and t asked and committed the same, and behind s the look was done
look_grows : (file : Option File) (st : Stored) (place : Place) (path : List ℕ) (s after t : State) → (IsPageFile path file → IsPageStored st) → trace_of t ≡ trace_of s → t.writer.pieces ≡ s.writer.pieces → trace_of after ≡ asked_all (look_steps path file) s
    → t.writer.pieces ≡ after.writer.pieces → session_of t ≡ session_of after → Grows after (state_of (fetched_or_fault place path (paged_of st) t))
look_grows None st place path s after t is same written e f k = unfetched_grows st place path after t (same ∙ (sym (asked_none s) ∙ sym e)) f k
look_grows (Some file) st place path s after t is same written e f k = go (is_page path) is e
  where
    go : (b : Bool) → (b ≡ true → IsPageStored st) → trace_of after ≡ asked_all (if b then fetch path ∷ [] else []) s → Grows after (state_of (fetched_or_fault place path (paged_of st) t))
    go true is e = fetched_grows st place path after t (is refl) (e ∙ sym (asked_alike (fetch path) t s same written)) f k
    go false is e = unfetched_grows st place path after t (same ∙ (sym (asked_none s) ∙ sym e)) f k

module _ {P K : Type 0} {taken : K → Option (List ℕ)} {faults : K → ℕ} {leads : P → P → Type 0} {asking : P → Asking} {tree : P → List File} where
  -- a page that is asked for under a charge that is spent
  pub refused_doing : (w : Stage P K) (serving : Serving) (path : List ℕ) → (is_page path && nat_le charge_limit w.around.now.charge) ≡ true
      → Doing (Reached taken faults leads asking tree) (λ w. (asking w.port.now).answers) (λ (p : Paged Program). paged_of (stored_of p)) (λ place. ask_page (served_of serving) place path) w w (Err (failure.Fault fault.AppTooMuch))
  refused_doing w serving path refused = record {
    by = λ first origin s r. record {
      got = [];
      replies = sym (append-nil (asking w.port.now).answers);
      after = s;
      stood = r;
      went = λ place future.
          ap (λ b. either b (Raised fault.AppTooMuch place) (fetched_or_fault place path (paged_of (serving.stored path))) (given future s)) (ap (λ c. is_page path && nat_le charge_limit c) r.charge ∙ refused);
    };
  }

  -- memory ran out before anything was looked for
  pub unlooked_doing : (leads_on : (first second third : P) → leads first second → leads second third → leads first third) → (w : Stage P K) (port : P) (serving : Serving) (path : List ℕ) → (is_page path && nat_le charge_limit w.around.now.charge) ≡ false
      → leads w.port.now port → tree port ≡ tree w.port.now → asking port ≡ asking w.port.now → (n : ℕ) → n ≡ w.around.now.charge + page_claim path → (n ≡ w.around.now.charge) ⊎ (n ≤ 4197000)
      → Doing (Reached taken faults leads asking tree) (λ w. (asking w.port.now).answers) (λ (p : Paged Program). paged_of (stored_of p)) (λ place. ask_page (served_of serving) place path) w (asked_stage w port n)
      (Err failure.NoMemory)
  unlooked_doing leads_on w port serving path allowed on same e n is rise = record {
    by = λ first origin s r.
        let after : State = record s { asked = s.asked; order = s.order; charge = n } in
        record {
          got = [];
          replies = ap (λ (a : Asking). a.answers) e ∙ sym (append-nil (asking w.port.now).answers);
          after = after;
          stood = stage_asked leads_on first w origin s port n n [] s.asked s.order r on same (ap (λ (a : Asking). a.asked) e ∙ sym (append-nil (asking w.port.now).asked)) (sym (append-nil s.asked)) r.ordered rise
              (omega (arith, ap (λ (a : Asking). a.left) e, is)) refl;
          went = λ place future.
              subst (λ x. Grows after (state_of x)) (sym (look_goes serving place path (given future s) w.around.now.charge (serving.stored path) allowed r.charge refl))
              (unfetched_grows (serving.stored path) place path after (given future s) refl refl refl);
        };
  }

  module _ (made : Program → List File → List ℕ → Type 0) (faulty : PageFault → List File → List ℕ → Type 0) (leads_on : (first second third : P) → leads first second → leads second third → leads first third)
      (w : Stage P K) (port : P) (serving : Serving) (path : List ℕ) (allowed : (is_page path && nat_le charge_limit w.around.now.charge) ≡ false) (stores : StoresSo made faulty (tree w.port.now) serving.stored)
      (on : leads w.port.now port) (same : tree port ≡ tree w.port.now) (looked : HasLooked (asking w.port.now) (asking port) path (file_at path (tree w.port.now))) where
    -- no file stands there
    pub absent_doing : (n : ℕ) → n ≡ w.around.now.charge → IsPaged made faulty (tree w.port.now) path found.Absent
        → Doing (Reached taken faults leads asking tree) (λ w. (asking w.port.now).answers) (λ (p : Paged Program). paged_of (stored_of p)) (λ place. ask_page (served_of serving) place path) w (asked_stage w port n) (Err (failure.Fault fault.NoSuchPage))
    absent_doing n is paged = record {
      by = λ first origin s r.
          let steps : look_steps path (file_at path (tree w.port.now)) ≡ [] = ap (look_steps path) paged in
          let claim : look_claim path (file_at path (tree w.port.now)) ≡ 0 = ap (look_claim path) paged in
          record {
            got = [];
            replies = looked.answers ∙ sym (append-nil (asking w.port.now).answers);
            after = record s { asked = s.asked; order = s.order; charge = s.charge };
            stood = stage_asked leads_on first w origin s port n s.charge [] s.asked s.order r on same (looked.asked ∙ ap (λ a. (asking w.port.now).asked ++ a) steps) (sym (append-nil s.asked)) r.ordered (inl is)
                (omega (arith, looked.left, claim)) (r.charge ∙ sym is);
            went = λ place future. look_goes serving place path (given future s) w.around.now.charge absent allowed r.charge (stores.told path found.Absent paged);
          };
    }

    -- another file stands there
    pub plain_doing : (n : ℕ) (text : List ℕ) → n ≡ w.around.now.charge → IsPaged made faulty (tree w.port.now) path (found.Plain text)
        → Doing (Reached taken faults leads asking tree) (λ w. (asking w.port.now).answers) (λ (p : Paged Program). paged_of (stored_of p)) (λ place. ask_page (served_of serving) place path) w (asked_stage w port n) (Ok (found.Plain text))
    plain_doing n text is paged = record {
      by = λ first origin s r.
          let steps = plain_steps path (file_at path (tree w.port.now)) text paged in
          record {
            got = [];
            replies = looked.answers ∙ sym (append-nil (asking w.port.now).answers);
            after = record s { asked = s.asked; order = s.order; charge = s.charge };
            stood = stage_asked leads_on first w origin s port n s.charge [] s.asked s.order r on same (looked.asked ∙ ap (λ a. (asking w.port.now).asked ++ a) steps.1) (sym (append-nil s.asked)) r.ordered (inl is)
                (omega (arith, looked.left, look_claimed path (file_at path (tree w.port.now)), plain_claimed path steps.0)) (r.charge ∙ sym is);
            went = λ place future. look_goes serving place path (given future s) w.around.now.charge (plain text) allowed r.charge (stores.told path (found.Plain text) paged);
          };
    }

    module _ (n : ℕ) (is : n ≡ w.around.now.charge + page_claim path) (rise : (n ≡ w.around.now.charge) ⊎ (n ≤ 4197000)) where
      -- a page with a fault stands there
      pub bad_doing : (reason : PageFault) → IsPaged made faulty (tree w.port.now) path (found.Bad reason)
          → Doing (Reached taken faults leads asking tree) (λ w. (asking w.port.now).answers) (λ (p : Paged Program). paged_of (stored_of p)) (λ place. ask_page (served_of serving) place path) w (asked_stage w port n) (Err (failure.Fault fault.BadPage))
      bad_doing reason paged = record {
        by = λ first origin s r.
            let steps = page_steps path (file_at path (tree w.port.now)) paged.0 in
            record {
              got = [];
              replies = looked.answers ∙ sym (append-nil (asking w.port.now).answers);
              after = fetched path s;
              stood = stage_asked leads_on first w origin s port n (s.charge + page_charge path) (fetch path ∷ []) (fetched path s).asked (fetched path s).order r on same
                  (looked.asked ∙ ap (λ a. (asking w.port.now).asked ++ a) steps.1) refl (ordered_asked (fetch path) s r.ordered) rise
                  (omega (arith, looked.left, is, look_claimed path (file_at path (tree w.port.now)))) (omega (arith, is, r.charge, page_claimed path steps.0));
              went = λ place future. look_goes serving place path (given future s) w.around.now.charge (bad reason) allowed r.charge (stores.told path (found.Bad reason) paged);
            };
      }

      -- a page stands there
      pub page_doing : (page : Paged Program) (program : Rattle.run_world.specs.Program.Program) → stored_of page ≡ good program → IsPageFile path (file_at path (tree w.port.now)) → serving.stored path ≡ stored_of page
          → Doing (Reached taken faults leads asking tree) (λ w. (asking w.port.now).answers) (λ (p : Paged Program). paged_of (stored_of p)) (λ place. ask_page (served_of serving) place path) w (asked_stage w port n) (Ok page)
      page_doing page program e file stored = record {
        by = λ first origin s r.
            let steps = page_steps path (file_at path (tree w.port.now)) file in
            record {
              got = [];
              replies = looked.answers ∙ sym (append-nil (asking w.port.now).answers);
              after = fetched path s;
              stood = stage_asked leads_on first w origin s port n (s.charge + page_charge path) (fetch path ∷ []) (fetched path s).asked (fetched path s).order r on same
                  (looked.asked ∙ ap (λ a. (asking w.port.now).asked ++ a) steps.1) refl (ordered_asked (fetch path) s r.ordered) rise
                  (omega (arith, looked.left, is, look_claimed path (file_at path (tree w.port.now)))) (omega (arith, is, r.charge, page_claimed path steps.0));
              went = λ place future. look_goes serving place path (given future s) w.around.now.charge (good program) allowed r.charge (stored ∙ e) ∙ ap (λ st. Well (paged_of st) (fetched path (given future s))) (sym e);
            };
      }

      -- memory ran out before it was told what stands there
      pub untold_doing : Doing (Reached taken faults leads asking tree) (λ w. (asking w.port.now).answers) (λ (p : Paged Program). paged_of (stored_of p)) (λ place. ask_page (served_of serving) place path) w (asked_stage w port n)
          (Err failure.NoMemory)
      untold_doing = record {
        by = λ first origin s r.
            let file = file_at path (tree w.port.now) in
            let steps = look_steps path file in
            let after : State = record s { asked = (asked_all steps s).0; order = (asked_all steps s).1; charge = n } in
            record {
              got = [];
              replies = looked.answers ∙ sym (append-nil (asking w.port.now).answers);
              after = after;
              stood = stage_asked leads_on first w origin s port n n steps after.asked after.order r on same looked.asked refl (ordered_all steps s n r.ordered) rise
                  (omega (arith, looked.left, is, look_claimed path file)) refl;
              went = λ place future.
                  subst (λ x. Grows after (state_of x)) (sym (look_goes serving place path (given future s) w.around.now.charge (serving.stored path) allowed r.charge refl))
                  (look_grows file (serving.stored path) place path s after (given future s) (stores.pages path) refl refl refl refl refl);
            };
      }

  -- memory ran out before it was told what stands there, whether that was looked for or not
  pub short_doing : (made : Program → List File → List ℕ → Type 0) (faulty : PageFault → List File → List ℕ → Type 0) (leads_on : (first second third : P) → leads first second → leads second third → leads first third)
      (w : Stage P K) (port : P) (serving : Serving) (path : List ℕ) (allowed : (is_page path && nat_le charge_limit w.around.now.charge) ≡ false) (stores : StoresSo made faulty (tree w.port.now) serving.stored)
      (on : leads w.port.now port) (same : tree port ≡ tree w.port.now)
      → HasLooked (asking w.port.now) (asking port) path (file_at path (tree w.port.now)) ⊎ (asking port ≡ asking w.port.now)
      → (n : ℕ) → n ≡ w.around.now.charge + page_claim path → (n ≡ w.around.now.charge) ⊎ (n ≤ 4197000)
      → Doing (Reached taken faults leads asking tree) (λ w. (asking w.port.now).answers) (λ (p : Paged Program). paged_of (stored_of p)) (λ place. ask_page (served_of serving) place path) w (asked_stage w port n)
      (Err failure.NoMemory)
  short_doing made faulty leads_on w port serving path allowed stores on same (inl looked) n is rise = untold_doing made faulty leads_on w port serving path allowed stores on same looked n is rise
  short_doing made faulty leads_on w port serving path allowed stores on same (inr e) n is rise = unlooked_doing leads_on w port serving path allowed on same e n is rise
