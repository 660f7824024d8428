-- Each row of the table, from a state that has the shape of its place.
use Rattle.std.proofs.Common.{◌≡◌, ℕ, zero, suc, ◌+◌, ◌-◌, ◌<◌, ◌≤◌, List, [], ◌∷◌, ◌++◌, length, Some, refl, sym, ap, ◌∙◌, subst, arith, length-append}
use Rattle.std.specs.Prelude.{slice_get, take, drop, get_or}
use Rattle.std.proofs.lemmas.List.{length-drop, length-take}
use Rattle.std.proofs.lemmas.Option.{slice_get_within, slice_get-get_or}
use Rattle.out_buffer.specs.Writer.{with_body, without_body, body_answer, innermost, around}
use Rattle.page_code.specs.Calls.{body_size, call_size}
use Rattle.page_code.specs.Fits.{Carries, Above, Roomy, Takes, BodyBegins, FragmentsBegin, FitsCall, FitsLeave, FitsInstr, AllFit, CodeFits}
use Rattle.page_code.specs.Ops.{takes, leaves, address_with}
use Rattle.page_code.specs.Shapes.{up, keeping, looping, level_of, trying}
use Rattle.page_code.specs.declared.call.CallOut.{CallOut}
use Rattle.page_code.specs.declared.call.CallOut.TheVariants as call
use Rattle.page_code.specs.declared.call.Leave.{Leave}
use Rattle.page_code.specs.declared.call.Leave.TheVariants as leave
use Rattle.page_code.specs.declared.code.Cell.{Cell}
use Rattle.page_code.specs.declared.instr.Instr.{Instr}
use Rattle.page_code.specs.declared.instr.Instr.TheVariants as instr
use Rattle.page_code.specs.declared.shape.Level.{Level}
use Rattle.page_code.specs.declared.shape.Shape.{Shape}
use Rattle.pg_text.specs.declared.place.Place.{Place}
use Rattle.pg_value.specs.Datum as datum
use Rattle.pg_value.specs.Datum.{Datum, null, truth, number, text, rec}
use Rattle.pg_value.specs.Value.{datum_of}
use Rattle.pg_value.specs.declared.fault.RunFault.{RunFault}
use Rattle.std.specs.Prelude.{Result, Ok, Err}
use Rattle.scopes.specs.HeldScope.{held_scope}
use Rattle.page_meaning.specs.Addresses.{redirect_mean}
use Rattle.page_meaning.specs.Attributes.{table_of}
use Rattle.page_meaning.specs.Bodies.{taken}
use Rattle.page_meaning.specs.Includes.{forward_mean}
use Rattle.page_meaning.specs.Loops.{round_begun, without_named}
use Rattle.page_meaning.specs.Meaning.{flush_if}
use Rattle.page_meaning.specs.Rounds.{Round}
use Rattle.page_meaning.specs.State.{State, in_writer}
use Rattle.page_meaning.specs.Went.{Did, Well, Raised, Ended, Awaits, forwards, redirects, result_of}
use Rattle.page_table.specs.Act.{is_true, is_same_truth, with_stack, jump_null, brought_up, bean_made, catch_closed, called_out, leaving, act}
use Rattle.page_table.specs.Checked.{ProgramFits, SeatFits, based, Catches, none, also, HasShape}
use Rattle.page_table.specs.Landing.{Running, Over, one_of, then_at, land}
use Rattle.page_table.specs.LoopMoves.{loop_rounds, with_loop, next_round, loop_next}
use Rattle.page_table.specs.Laws.{LeavesBodies}
use Rattle.page_table.specs.Measure.{weights, weight}
use Rattle.page_table.specs.Move.{Move, popped}
use Rattle.page_table.specs.Open.{Loop, OpenCatch, Open}
use Rattle.page_table.specs.Operations.{operation, levels, text_at, behind_first, params_in}
use Rattle.page_table.specs.Calls.{tag_called}
use Rattle.page_table.specs.Pages.{include_called, import_called}
use Rattle.page_table.specs.Program.{Serving, served_of, tag_at}
use Rattle.page_table.specs.Seat.{CallSeat, Seat, in_page, in_tag, code_of, program_of, page_run_of, body_in, fragment_in}
use Rattle.page_table.proofs.GivenFits.{GivenFits, body_fits, fragment_fits, tag_fits}
use Rattle.page_table.proofs.Operating.{operation_works}
use Rattle.page_table.proofs.Pages.{forward_gone, redirect_gone}
use Rattle.page_table.proofs.Records.{without_named_calm, bean_tame}
use Rattle.page_table.proofs.Rounds.{Counts, round_counts}
use Rattle.page_table.proofs.RowLemmas.{go_on, has_kept, below, Spot, tag_next, given_next, include_next, import_next}
use Rattle.page_table.proofs.Standing.{Next, MoveFits, tame_leaves, Ready, ready, one_of_next, thrown_next, at_next, works_next, gone_next, popped_all_next}
use Rattle.page_table.proofs.Tame.{kept, keeps_both, result}
use Rattle.page_table.proofs.Weights.{visited, nearer, three_pos, three_le, three_lt}
use Rattle.page_table.proofs.Words.{flush_if_calm}

-- the fit of a cell
pub fit_at : (code cells : List Cell) (at k : ℕ) (cell : Cell) → AllFit code at cells → slice_get cells k ≡ Some cell → Roomy cell.shape × FitsInstr code (at + k) cell.shape cell.instr
fit_at code [] at k cell fits e = absurd (omega (arith, slice_get_within [] k cell e))
fit_at code (c ∷ rest) at zero cell fits e =
    let same : c ≡ cell = cc in
    let n : at ≡ at + 0 = omega arith in
    subst (λ x. Roomy x.shape × FitsInstr code (at + 0) x.shape x.instr) same (fits.0.0, subst (λ m. FitsInstr code m c.shape c.instr) n fits.0.1)
fit_at code (c ∷ rest) at (suc k) cell fits e =
    let n : at + 1 + k ≡ at + suc k = omega arith in
    let h = fit_at code rest (at + 1) k cell fits.1 e in
    (h.0, subst (λ m. FitsInstr code m cell.shape cell.instr) n h.1)

pub carries_within : (code : List Cell) (pc : ℕ) (sh : Shape) → Carries code pc sh → pc < length code
carries_within code pc sh c = slice_get_within code pc c.cell c.stands

-- a shape that a cell carries is roomy
roomy_at : (code : List Cell) (pc : ℕ) (sh : Shape) → CodeFits code → Carries code pc sh → Roomy sh
roomy_at code pc sh fits c = subst Roomy c.shape (fit_at code code 0 pc c.cell fits.1 c.stands).0

pub seat_code_fits : (seat : Seat) → SeatFits seat → CodeFits (code_of seat)
seat_code_fits (in_page program params) h = h.0
seat_code_fits (in_tag call caller) h = h.0

seat_program_fits : (seat : Seat) → SeatFits seat → ProgramFits (program_of seat)
seat_program_fits (in_page program params) h = h
seat_program_fits (in_tag call caller) h = seat_program_fits caller h.2

-- what the call around gives
body_in_fits : (seat : Seat) → SeatFits seat → (c : CallSeat) (caller : Seat) → seat ≡ in_tag c caller → GivenFits (code_of caller) (body_in seat)
body_in_fits seat seated c caller e =
    let h = subst SeatFits e seated in
    subst (λ x. GivenFits (code_of caller) (body_in x)) (sym e) (body_fits (code_of caller) c.body c.behind h.1.0)

fragment_in_fits : (name : List ℕ) (seat : Seat) → SeatFits seat → (c : CallSeat) (caller : Seat) → seat ≡ in_tag c caller → GivenFits (code_of caller) (fragment_in name seat)
fragment_in_fits name seat seated c caller e =
    let h = subst SeatFits e seated in
    subst (λ x. GivenFits (code_of caller) (fragment_in name x)) (sym e) (fragment_fits (code_of caller) name c.body c.fragments c.behind h.1.1)

module _ (serving : Serving) (code : List Cell) (base pc : ℕ) (within : pc < length code) (s : State) where
  abbrev n : ℕ
  n = length code

  later : pc < pc + 1
  later = omega arith

  -- on at a later place, with the catches of the state before
  on_to : (to : ℕ) (sh : Shape) (t : State) (o p : Open) → pc < to → Carries code to sh → HasShape code base (kept t) p sh → s.visits ≤ t.visits → p.catches ≡ o.catches
      → Next code base s.visits (weight (length code) pc o.catches) (Running to t p)
  on_to to sh t o p ahead carries has visits same =
      subst (λ c. Next code base s.visits (weight (length code) pc c) (Running to t p)) same (go_on code base s.visits pc within to sh t p ahead carries has visits)

  less_of : (o p : Open) → p.catches ≡ o.catches → weights (length code) p.catches < weight (length code) pc o.catches
  less_of o p same = subst (λ c. weights (length code) p.catches < weight (length code) pc c) same (below (length code) pc p)

  spot : (to : ℕ) (p : Open) (r : Shape) → pc < to → Carries code to r → HasShape code base (kept s) p r → Ready code base p r → Spot code base pc to s p r
  spot to p r ahead carries has rd = record { within = within; later = ahead; carries = carries; has = has; ready = rd }

  -- a move of what stands open without some values, seen from before
  seen : (o p : Open) (m : Move) → p.catches ≡ o.catches → MoveFits serving code base s.visits (weight (length code) pc p.catches) m → MoveFits serving code base s.visits (weight (length code) pc o.catches) m
  seen o p m same h = subst (λ c. MoveFits serving code base s.visits (weight (length code) pc c) m) same h

  -- a loop
  round_next : (place : Place) (again to : ℕ) (o : Open) (sh rest : Shape) → sh ≡ looping rest → pc < to → Carries code to rest → Carries code again sh → HasShape code base (kept s) o sh → Ready code base o sh
      → (loop : Loop) (outer : List Loop) (rounds : List Round) → length o.loops ≡ suc (length outer)
      → Next code base s.visits (weight (length code) pc o.catches) (next_round place loop outer rounds again to s o)
  round_next place again to o sh rest was ahead out back has rd loop outer [] e =
      let t = without_named loop.variable s in
      let u = without_named loop.status t in
      let k = keeps_both s t u (without_named_calm loop.variable s) (without_named_calm loop.status t) in
      on_to to rest u o (record o { loops = outer }) ahead out
      (record {
        values = has.values ∙ ap (λ x. x.values) was;
        bodies = omega (arith, k.bodies, has.bodies, ap (λ x. x.bodies) was);
        loops = omega (arith, e, has.loops, ap (λ x. x.loops) was);
        catches = subst (λ x. Catches code base o.catches x.catches) was has.catches;
      })
      k.visits refl
  round_next place again to o sh rest was ahead out back has rd loop outer (r ∷ more) e =
      counted (round_begun place loop.variable loop.status loop.values r s) (round_counts place loop.variable loop.status loop.values r s)
    where
      counted : (w : Did) → Counts s w
          → Next code base s.visits (weight (length code) pc o.catches) (then_at o w (λ u s1. Running again s1 (record o { loops = record loop { rounds = more } ∷ outer })))
      counted (Well u t) c = (
        record {
          shape = sh;
          carries = back;
          has = record { values = has.values; bodies = omega (arith, c.0, has.bodies); loops = omega (arith, e, has.loops); catches = has.catches };
        },
        visited c.1 c.2,
      )
      counted (Raised f p t) c = thrown_next code base s.visits (weight (length code) pc o.catches) f p t o sh rd (omega (arith, c.0, has.bodies)) c.1 (below (length code) pc o)
      counted (Ended (redirects location) t) c = (omega (arith, c.0, has.bodies), c.1)
      counted (Ended (forwards path params left) t) c = tt
      counted (Awaits step t) c = tt

  loop_fits : (place : Place) (again to : ℕ) (o : Open) (sh rest : Shape) → sh ≡ looping rest → pc < to → Carries code to rest → Carries code again sh → HasShape code base (kept s) o sh → Ready code base o sh
      → MoveFits serving code base s.visits (weight (length code) pc o.catches) (loop_next place o.loops again to s o)
  loop_fits place again to o sh rest was ahead out back has rd = by o.loops refl
    where
      by : (loops : List Loop) → o.loops ≡ loops → MoveFits serving code base s.visits (weight (length code) pc o.catches) (loop_next place loops again to s o)
      by [] e = absurd (omega (arith, ap length e, has.loops, ap (λ x. x.loops) was))
      by (loop ∷ outer) e = round_next place again to o sh rest was ahead out back has rd loop outer loop.rounds (ap length e)

  -- a catch
  closed_fits : (o : Open) (sh rest : Shape) → sh ≡ trying rest → Carries code (pc + 1) rest → HasShape code base (kept s) o sh
      → MoveFits serving code base s.visits (weight (length code) pc o.catches) (catch_closed o.catches (pc + 1) s o)
  closed_fits o sh rest was out has = by o.catches (trying rest).catches refl refl (subst (λ x. Catches code base o.catches x.catches) was has.catches)
    where
      by : (cs : List OpenCatch) (ls : List Level) → o.catches ≡ cs → ls ≡ (trying rest).catches → Catches code base cs ls
          → MoveFits serving code base s.visits (weight (length code) pc o.catches) (catch_closed cs (pc + 1) s o)
      by _ _ q e none = absurd (omega (arith, ap length e))
      by _ _ q e (also {opened = more} {outer = ls} handler below_it) =
          let m : ls ≡ rest.catches = let x = e in cc in
          let less : weights n more ≤ weights n o.catches = let x = ap (weights n) q in omega (arith, x) in (
            record {
              shape = rest;
              carries = out;
              has = record {
                values = has.values ∙ ap (λ x. x.values) was;
                bodies = has.bodies ∙ ap (λ x. base + x.bodies) was;
                loops = has.loops ∙ ap (λ x. x.loops) was;
                catches = subst (Catches code base more) m below_it;
              };
            },
            nearer (omega arith) (omega (arith, less, three_lt (n - (pc + 1)) (n - pc) (omega (arith, within)), three_pos (n - (pc + 1)))),
          )

  -- a body taken
  above_rest : (ls : List Level) (r : Shape) → Above ls (keeping r) → Above ls (up 1 r) → Above ls r
  above_rest [] r h g = tt
  above_rest (c ∷ rest) r h g = (h.0, g.1, h.2)

  fewer_bodies : {m : ℕ} → (ks : List (List ℕ)) → length ks ≡ suc m → length (around ks) ≡ m
  fewer_bodies [] e = absurd (omega (arith, e))
  fewer_bodies (k ∷ ks) e = omega (arith, e)

  take_body_fits : (place : Place) (o : Open) (sh r : Shape) → sh ≡ keeping r → Roomy sh → Roomy (up 1 r) → Carries code (pc + 1) (up 1 r) → HasShape code base (kept s) o sh
      → Next code base s.visits (weight (length code) pc o.catches) (land (pc + 1) (λ t. text t ∷ o.stack) o (taken place s))
  take_body_fits place o sh r was roomy roomy_next out has = go (body_answer (innermost s.writer.kept))
    where
      after : State
      after = in_writer (without_body s.writer) s

      bodies : length (around s.writer.kept) ≡ base + r.bodies
      bodies = fewer_bodies s.writer.kept (omega (arith, has.bodies, ap (λ x. x.bodies) was))

      has_rest : HasShape code base (length (around s.writer.kept)) o r
      has_rest = record {
        values = has.values ∙ ap (λ x. x.values) was;
        bodies = fewer_bodies s.writer.kept (omega (arith, has.bodies, ap (λ x. x.bodies) was));
        loops = has.loops ∙ ap (λ x. x.loops) was;
        catches = subst (λ x. Catches code base o.catches x.catches) was has.catches;
      }

      go : (a : Result (List ℕ) RunFault) → Next code base s.visits (weight (length code) pc o.catches) (land (pc + 1) (λ t. text t ∷ o.stack) o (result_of place a (in_writer (without_body s.writer) s)))
      go (Ok t) =
          on_to (pc + 1) (up 1 r) after o (record o { stack = text t ∷ o.stack }) later out
          (record { values = omega (arith, has_rest.values); bodies = has_rest.bodies; loops = has_rest.loops; catches = has_rest.catches }) (omega arith) refl
      go (Err f) =
          thrown_next code base s.visits (weight (length code) pc o.catches) f place after o r
          (ready code base (length (around s.writer.kept)) o r (above_rest r.catches r (subst Roomy was roomy) roomy_next) has_rest) (omega (arith, bodies)) (omega arith) (below (length code) pc o)

  -- a null
  null_next : (d : Datum) (to : ℕ) (o p : Open) → Next code base s.visits (weight (length code) pc o.catches) (Running to s p)
      → Next code base s.visits (weight (length code) pc o.catches) (Running (pc + 1) s o) → Next code base s.visits (weight (length code) pc o.catches) (jump_null d to (pc + 1) s o p)
  null_next null to o p h g = h
  null_next (truth b) to o p h g = g
  null_next (number z) to o p h g = g
  null_next (text t) to o p h g = g
  null_next (datum.list is) to o p h g = g
  null_next (rec es) to o p h g = g

  -- a value brought to the top
  brought_fits : (k : ℕ) (o : Open) (sh : Shape) → k < length o.stack → Carries code (pc + 1) sh → HasShape code base (kept s) o sh
      → MoveFits serving code base s.visits (weight (length code) pc o.catches) (brought_up (slice_get o.stack k) k (pc + 1) s o)
  brought_fits k o sh inside out has =
      subst (λ x. MoveFits serving code base s.visits (weight (length code) pc o.catches) (brought_up x k (pc + 1) s o)) (sym (slice_get-get_or o.stack k null inside))
      (on_to (pc + 1) sh s o (with_stack (get_or o.stack k null ∷ take k o.stack ++ drop (k + 1) o.stack) o) later out
      (record {
        values = omega (arith, length-append (take k o.stack) (drop (k + 1) o.stack), length-take k o.stack, length-drop (k + 1) o.stack, inside, has.values);
        bodies = has.bodies;
        loops = has.loops;
        catches = has.catches;
      }) (omega arith) refl)

  module _ (seat : Seat) (seated : SeatFits seat) (place : Place) where
    -- a call, whose next cell is behind it
    called_fits : (c : CallOut) (o : Open) (sh : Shape) → Roomy sh → HasShape code base (kept s) o sh → code ≡ code_of seat → FitsCall code (pc + 1) sh c
        → MoveFits serving code base s.visits (weight (length code) pc o.catches) (called_out serving seat place (pc + 1) c s o)
    called_fits (call.Tag c) o sh roomy has same f =
        popped_all_next serving code base s.visits (weight (length code) pc o.catches) (kept s) (length c.names) o sh _ has f (λ ds p r catches left hp rp out.
        seen o p (tag_called place (tag_at c.path (program_of seat).tags) c (pc + 1) ds seat s p) catches
        (tag_next serving code base pc (pc + 1 + call_size c) r s.visits place (tag_at c.path (program_of seat).tags) (tag_fits c.path (program_of seat).tags (seat_program_fits seat seated).1) c (pc + 1) ds seat seated
        (subst (λ x. BodyBegins x (pc + 1) c.body) same out.0) (subst (λ x. FragmentsBegin x (pc + 1 + body_size c.body) c.fragments) same out.1) refl
        s p (spot (pc + 1 + call_size c) p r (omega arith) out.2 hp rp) (omega arith)))
    called_fits call.Body o sh roomy has same f =
        given_next serving code base pc (pc + 1) sh s.visits place (body_in seat) seat seated (body_in_fits seat seated) s o (spot (pc + 1) o sh later f has (ready code base (kept s) o sh roomy has)) (omega arith)
    called_fits (call.Fragment name) o sh roomy has same f =
        given_next serving code base pc (pc + 1) sh s.visits place (fragment_in name seat) seat seated (fragment_in_fits name seat seated) s o
        (spot (pc + 1) o sh later f has (ready code base (kept s) o sh roomy has)) (omega arith)
    called_fits (call.Include flush params) o sh roomy has same f =
        popped_all_next serving code base s.visits (weight (length code) pc o.catches) (kept s) (address_with params) o sh _ has f (λ ds p r catches left hp rp out.
        let t = flush_if flush s in
        let k = flush_if_calm flush s in
        seen o p (include_called serving place (page_run_of seat) (text_at 0 ds) (params_in (behind_first ds)) (pc + 1) t p) catches
        (include_next serving code base pc (pc + 1) r s.visits place (page_run_of seat) (text_at 0 ds) (params_in (behind_first ds)) t p
        (record { within = within; later = later; carries = out; has = has_kept code base (kept s) (kept t) p r (k.bodies ∙ hp.bodies) hp; ready = rp }) k.visits))
    called_fits call.Import o sh roomy has same f =
        popped_all_next serving code base s.visits (weight (length code) pc o.catches) (kept s) 1 o sh _ has f (λ ds p r catches left hp rp out.
        seen o p (import_called serving place (page_run_of seat) (text_at 0 ds) (pc + 1) s p) catches
        (import_next serving code base pc (pc + 1) r s.visits place (page_run_of seat) (text_at 0 ds) s p (spot (pc + 1) p r later out hp rp) (omega arith)))

    leaving_fits : (how : Leave) (o : Open) (sh : Shape) → HasShape code base (kept s) o sh → FitsLeave sh how
        → MoveFits serving code base s.visits (weight (length code) pc o.catches) (leaving serving seat place how s o)
    leaving_fits (leave.Forward params) o sh has f =
        popped_all_next serving code base s.visits (weight (length code) pc o.catches) (kept s) (address_with params) o sh _ has f (λ ds p r catches left hp rp out.
        gone_next code base s.visits (weight (length code) pc o.catches) p r s
        (forward_mean (served_of serving) (levels o.left) place (page_run_of seat) (text_at 0 ds) (params_in (behind_first ds)) s) (λ u s1. Over (Well u s1))
        (forward_gone (served_of serving) o.left place (page_run_of seat) (text_at 0 ds) (params_in (behind_first ds)) s) rp (less_of o p catches) hp.bodies (omega arith))
    leaving_fits leave.Redirect o sh has f =
        popped_all_next serving code base s.visits (weight (length code) pc o.catches) (kept s) 1 o sh _ has f (λ ds p r catches left hp rp out.
        gone_next code base s.visits (weight (length code) pc o.catches) p r s (redirect_mean place (text_at 0 ds) s) (λ u s1. Over (Well u s1)) (redirect_gone place (text_at 0 ds) s) rp
        (less_of o p catches) hp.bodies (omega arith))
    leaving_fits leave.End o sh has f = (omega (arith, has.bodies, ap (λ x. x.bodies) f), omega arith)

    -- the topmost value
    popped_fits : (o : Open) (sh : Shape) {Then : Shape → Type 0} (go : Datum → Open → Move) → HasShape code base (kept s) o sh → Takes 1 sh Then
        → ((d : Datum) (p : Open) (r : Shape) → p.catches ≡ o.catches → HasShape code base (kept s) p r → Then r → MoveFits serving code base s.visits (weight (length code) pc o.catches) (go d p))
        → MoveFits serving code base s.visits (weight (length code) pc o.catches) (popped o o.stack go)
    popped_fits o sh go has f h = by o.stack refl
      where
        by : (stack : List Datum) → o.stack ≡ stack → MoveFits serving code base s.visits (weight (length code) pc o.catches) (popped o stack go)
        by [] e = absurd (omega (arith, ap length e, has.values, ap (λ x. x.values) f.was))
        by (d ∷ rest) e = h d (record o { stack = rest }) f.rest refl (record {
          values = omega (arith, ap length e, has.values, ap (λ x. x.values) f.was);
          bodies = has.bodies ∙ ap (λ x. base + x.bodies) f.was;
          loops = has.loops ∙ ap (λ x. x.loops) f.was;
          catches = subst (λ x. Catches code base o.catches x.catches) f.was has.catches;
        }) f.next

    pub act_fits : (i : Instr) (o : Open) (sh : Shape) → CodeFits code → code ≡ code_of seat → Roomy sh → HasShape code base (kept s) o sh → FitsInstr code pc sh i
        → MoveFits serving code base s.visits (weight (length code) pc o.catches) (act serving seat place pc s o i)
    act_fits (instr.Op op) o sh cf same roomy has f =
        popped_all_next serving code base s.visits (weight (length code) pc o.catches) (kept s) (takes op) o sh _ has f (λ ds p r catches left hp rp out.
        works_next code base s.visits (weight (length code) pc o.catches) p r (leaves op) (pc + 1) s (operation serving seat place op ds s) (operation_works serving seat place op ds s) rp
        (less_of o p catches) hp.bodies (omega arith) (λ made t e k vs.
        on_to (pc + 1) (up (leaves op) r) t o (record p { stack = made ++ p.stack }) later out
        (record { values = omega (arith, length-append made p.stack, e, hp.values); bodies = k; loops = hp.loops; catches = hp.catches }) vs catches))
    act_fits (instr.Take k) o sh cf same roomy has f = brought_fits k o sh (omega (arith, has.values, ap (λ x. x.values) f.was)) f.next has
    act_fits instr.StartBody o sh cf same roomy has f =
        on_to (pc + 1) (keeping sh) (in_writer (with_body s.writer) s) o o later f (record { values = has.values; bodies = omega (arith, has.bodies); loops = has.loops; catches = has.catches }) (omega arith) refl
    act_fits instr.TakeBody o sh cf same roomy has f = take_body_fits place o sh f.rest f.was roomy (roomy_at code (pc + 1) (up 1 f.rest) cf f.next) f.next has
    act_fits (instr.Jump k) o sh cf same roomy has f = on_to (pc + 1 + k) sh s o o (omega arith) f has (omega arith) refl
    act_fits (instr.JumpIf b k) o sh cf same roomy has f =
        popped_fits o sh _ has f (λ d p r catches hp out.
        one_of_next code base s.visits (weight (length code) pc o.catches) (is_same_truth b (is_true d)) (Running (pc + 1 + k) s p) (Running (pc + 1) s p)
        (on_to (pc + 1 + k) r s o p (omega arith) out.1 hp (omega arith) catches) (on_to (pc + 1) r s o p later out.0 hp (omega arith) catches))
    act_fits (instr.JumpNull k) o sh cf same roomy has f =
        popped_fits o sh _ has f (λ d p r catches hp out.
        null_next d (pc + 1 + k) o p (on_to (pc + 1 + k) r s o p (omega arith) out.1 hp (omega arith) catches) (on_to (pc + 1) sh s o o later out.0 has (omega arith) refl))
    act_fits (instr.Ensure x bean k) o sh cf same roomy has f =
        let w = bean_made place (held_scope x.scope) x.name (datum_of bean) s in
        at_next code base s.visits (weight (length code) pc o.catches) o sh w (λ made s1. one_of made (Running (pc + 1) s1 o) (Running (pc + 1 + k) s1 o)) (ready code base (kept s) o sh roomy has)
        (below (length code) pc o) (subst (λ m. LeavesBodies m s.visits w) has.bodies (tame_leaves s w (bean_tame place (held_scope x.scope) x.name (datum_of bean) s))) (λ made t m vs.
        one_of_next code base s.visits (weight (length code) pc o.catches) made (Running (pc + 1) t o) (Running (pc + 1 + k) t o)
        (on_to (pc + 1) sh t o o later f.0 (has_kept code base (kept s) (kept t) o sh m has) vs refl)
        (on_to (pc + 1 + k) sh t o o (omega arith) f.1 (has_kept code base (kept s) (kept t) o sh m has) vs refl))
    act_fits (instr.LoopStart kind) o sh cf same roomy has f =
        popped_all_next serving code base s.visits (weight (length code) pc o.catches) (kept s) (length kind.names) o sh _ has f (λ ds p r catches left hp rp out.
        let vs = table_of kind.names ds in
        let w = result_of place (loop_rounds kind.over vs) s in
        at_next code base s.visits (weight (length code) pc o.catches) p r w
        (λ rounds s1. Running (pc + 1) s1 (with_loop (record { variable = kind.variable; status = kind.status; values = vs; rounds = rounds }) p)) rp (less_of o p catches)
        (subst (λ m. LeavesBodies m s.visits w) hp.bodies (tame_leaves s w (result place (loop_rounds kind.over vs) s))) (λ rounds t m more.
        on_to (pc + 1) (looping r) t o (with_loop (record { variable = kind.variable; status = kind.status; values = vs; rounds = rounds }) p) later out
        (record { values = hp.values; bodies = m; loops = omega (arith, hp.loops); catches = hp.catches }) more catches))
    act_fits (instr.LoopNext k) o sh cf same roomy has f = loop_fits place (pc - k) (pc + 1) o sh f.rest f.was later f.next.1 f.next.2 has (ready code base (kept s) o sh roomy has)
    act_fits (instr.CatchStart k) o sh cf same roomy has f = (
      record {
        shape = trying sh;
        carries = f.0;
        has = record { values = has.values; bodies = has.bodies; loops = has.loops; catches = subst (λ c. Catches code base (c ∷ o.catches) (trying sh).catches) (sym opened) (also f.1 has.catches) };
      },
      nearer (omega arith) (omega (arith, three_lt (n - (pc + 1)) (n - pc) (omega (arith, within)), three_le (n - (pc + 1 + k)) (n - (pc + 1)) (omega arith), three_pos (n - (pc + 1)))),
    )
      where
        opened : record { to = pc + 1 + k; values = length o.stack; bodies = kept s; loops = length o.loops } ≡ based base (pc + 1 + k) (level_of sh)
        opened = let a = has.values in let b = has.bodies in let c = has.loops in cc
    act_fits instr.CatchEnd o sh cf same roomy has f = closed_fits o sh f.rest f.was f.next has
    act_fits (instr.CallOut c) o sh cf same roomy has f = called_fits c o sh roomy has same f
    act_fits (instr.Leave how) o sh cf same roomy has f = leaving_fits how o sh has f
