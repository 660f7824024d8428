-- What loops, catches and beans do, where what their bodies do is known.
use Rattle.std.proofs.Common.{◌≡◌, ℕ, suc, ◌+◌, ◌-◌, Bool, true, false, List, [], ◌∷◌, ◌++◌, length, Some, None, Option, refl, sym, ap, ◌∙◌, subst, arith, length-append}
use Rattle.std.specs.Prelude.{slice_get, take, is_some, if◌then◌else◌}
use Rattle.out_buffer.specs.Writer.{last_of}
use Rattle.page_code.specs.Shapes.{cell, up, looping, trying}
use Rattle.page_code.specs.declared.instr.Instr.TheVariants as instr
use Rattle.page_code.specs.declared.op.Op.TheVariants as op
use Rattle.page_code.specs.declared.operands.LoopKind.{LoopKind}
use Rattle.page_code.specs.declared.operands.ScopedName.{ScopedName}
use Rattle.page_code.specs.declared.shape.Shape.{Shape}
use Rattle.page_meaning.specs.Attributes.{table_of}
use Rattle.page_meaning.specs.Beans.{bean_in}
use Rattle.page_meaning.specs.Context.{Deeper}
use Rattle.page_meaning.specs.Core.{is_caught, catch_mean}
use Rattle.page_meaning.specs.Faults.{Raise, fault_record}
use Rattle.page_meaning.specs.Loops.{with_named, without_named, round_begun, rounds_mean, loop_mean}
use Rattle.page_meaning.specs.Rounds.{Round}
use Rattle.page_meaning.specs.State.{State}
use Rattle.page_meaning.specs.Variables.{set_held}
use Rattle.page_meaning.specs.Went.{Did, Went, Well, Raised, Ended, Awaits, then_do, tidied, either, result_of}
use Rattle.page_meaning.specs.Work.{ask}
use Rattle.page_table.specs.Act.{act, bean_made}
use Rattle.page_table.specs.Landing.{Config, Running, unwound, uncaught, cut_bodies, caught_by, one_of, thrown, then_at}
use Rattle.page_table.specs.LoopMoves.{loop_rounds, loop_next, loop_opened}
use Rattle.page_table.specs.Move.{On}
use Rattle.page_table.specs.Open.{Loop, Open}
use Rattle.page_table.specs.Program.{Serving}
use Rattle.page_table.specs.Runs.{Runs}
use Rattle.page_table.specs.Seat.{Seat, code_of}
use Rattle.pg_text.specs.declared.place.Place.{Place}
use Rattle.pg_value.specs.Datum.{Datum, null}
use Rattle.pg_value.specs.Value.{datum_of, value_of}
use Rattle.pg_value.specs.declared.fault.RunFault.{RunFault}
use Rattle.pg_value.specs.declared.scope.Scope.TheVariants as scope
use Rattle.pg_value.specs.declared.value.Value.{Value}
use Rattle.pg_value.specs.declared.value.Value.TheVariants as value
use Rattle.scopes.specs.HeldScope.{held_scope}
use Rattle.scopes.specs.Scopes.{found_in}
use Rattle.scopes.specs.declared.held_scope.HeldScope.{HeldScope}
use Rattle.site_words.specs.declared.words.AppStep.TheVariants as step
use Rattle.code_forms.specs.Codes.{form_code, rounds_code}
use Rattle.code_forms.specs.Forms.{Form, looped, caught, ensured}
use Rattle.code_lowering.specs.Lowering.{scoped, keeps_fault}
use Rattle.code_lowering.proofs.Goes.{Runs0, does_none, well}
use Rattle.code_lowering.proofs.Joins.{then_then}
use Rattle.code_lowering.proofs.Parts.{Does, onto, onto_append, opens, popped_is}
use Rattle.code_lowering.proofs.Reach.{Arrives, push, in_loop, tidy, thrown_loop, leads, to_pc, step as step_to, step_land, at}
use Rattle.code_lowering.proofs.Stands.{has_front, has_back, Fits, fits_loop, last_all}

-- a loop with other rounds to come
abbrev with_rounds : Loop → List Round → Loop
with_rounds l rounds = record { variable = l.variable; status = l.status; values = l.values; rounds = rounds }

module _ {serving : Serving} {seat : Seat} where
  -- a part inside a loop, whose variables are removed where the loop ends
  tidy_at : {A B : Type 0} {o : Open} {st2 : B → List Datum} {p2 : ℕ} (l : Loop) (w : Went A) {go : A → State → Config} (k : A → State → Went B) → Fits o.catches o.stack o.loops
      → ((a : A) (s : State) → Arrives serving seat (go a s) st2 p2 o (tidied (tidy l) (k a s))) → Arrives serving seat (then_at (in_loop l o) w go) st2 p2 o (tidied (tidy l) (then_do w k))
  tidy_at l (Well a s) k fits g = g a s
  tidy_at {o = o} l (Raised f place s) k fits g = record { by = λ d r. subst (λ c. Runs serving seat c d) (sym (thrown_loop f place s o l fits)) r }
  tidy_at l (Ended e s) k fits g = record { by = λ d r. r }
  tidy_at l (Awaits x s) k fits g = record { by = λ d r. r }

  tidy_seq : {A B : Type 0} {c : Config} {o : Open} {st1 : A → List Datum} {p1 : ℕ} {st2 : B → List Datum} {p2 : ℕ} (l : Loop) (w : Went A) (k : A → State → Went B)
      → Fits o.catches o.stack o.loops → Arrives serving seat c st1 p1 (in_loop l o) w
      → ((a : A) (s : State) → Arrives serving seat (Running p1 s (record (in_loop l o) { stack = st1 a })) st2 p2 o (tidied (tidy l) (k a s)))
      → Arrives serving seat c st2 p2 o (tidied (tidy l) (then_do w k))
  tidy_seq l (Well a s) k fits h g = record { by = λ d r. h.by d ((g a s).by d r) }
  tidy_seq {o = o} l (Raised f place s) k fits h g = record { by = λ d r. h.by d (subst (λ c. Runs serving seat c d) (sym (thrown_loop f place s o l fits)) r) }
  tidy_seq l (Ended e s) k fits h g = record { by = h.by }
  tidy_seq l (Awaits x s) k fits h g = record { by = h.by }

  -- the rounds of a loop, from its end, where the next one begins
  rounds_run : (body : State → Did) (l : Loop) (place : Place) (start size next : ℕ) (o : Open) {sh : Shape} → Fits o.catches o.stack o.loops → next - size ≡ start
      → slice_get (code_of seat) next ≡ Some (cell sh place (instr.LoopNext size))
      → ((k : Loop) (s : State) → Arrives serving seat (Running start s (in_loop k o)) (λ u. o.stack) next (in_loop k o) (body s)) → (rounds : List Round) (s : State)
      → Arrives serving seat (Running next s (in_loop (with_rounds l rounds) o)) (λ u. o.stack) (next + 1) o (tidied (tidy l) (rounds_mean place l.variable l.status l.values body rounds s))
  rounds_run body l place start size next o fits back has hb [] s = step_land {st = λ u. o.stack} {w = well (tidy l s)} has refl
  rounds_run body l place start size next o fits back has hb (r ∷ rest) s =
      let l0 = with_rounds l (r ∷ rest) in
      let l1 = with_rounds l rest in
      let begun = round_begun place l.variable l.status l.values r s in
      let more : State → Did = λ s2. rounds_mean place l.variable l.status l.values body rest s2 in
      leads (step_to has (ap (λ p. loop_next place (l0 ∷ o.loops) p (next + 1) s (in_loop l0 o)) back))
      (tidy_at l0 begun (λ u s1. then_do (body s1) (λ u s2. more s2)) fits
      (λ u s1. tidy_seq l1 (body s1) (λ u s2. more s2) fits (hb l1 s1) (λ u s2. rounds_run body l place start size next o fits back has hb rest s2)))

-- with a catch open from which a fault goes on at a place
abbrev pub opened : ℕ → ℕ → Open → Open
opened to kept o = record o { catches = record { to = to; values = length o.stack; bodies = kept; loops = length o.loops } ∷ o.catches }

fits_opened : (to kept : ℕ) (o : Open) → Fits (opened to kept o).catches o.stack o.loops
fits_opened to kept o = (omega arith, omega arith)

abbrev record_of_fault : RunFault → Place → Datum
record_of_fault f place = fault_record (record { fault = f; place = place })

-- a fault's record is on the stack, and all else is as at the catch's start
caught_here : (f : RunFault) (place : Place) (to kept : ℕ) (s : State) (o : Open) → is_caught f ≡ true
    → thrown f place s (opened to kept o) ≡ Running to (cut_bodies kept s) (push (record_of_fault f place) o)
caught_here f place to kept s o e =
    let nothing_left : length o.loops - length o.loops ≡ 0 = omega arith in
    ap (λ b. one_of b (caught_by f place s (opened to kept o) (opened to kept o).catches) (uncaught f place s (opened to kept o))) e
    ∙ ap (λ k. Running to (cut_bodies kept (unwound (take k o.loops) s))
    (record { left = o.left; stack = record_of_fault f place ∷ last_of (length o.stack) o.stack; loops = last_of (length o.loops) o.loops; catches = o.catches })) nothing_left
    ∙ ap (λ v. Running to (cut_bodies kept s) (record { left = o.left; stack = record_of_fault f place ∷ v; loops = last_of (length o.loops) o.loops; catches = o.catches })) (last_all o.stack)
    ∙ ap (λ v. Running to (cut_bodies kept s) (record { left = o.left; stack = record_of_fault f place ∷ o.stack; loops = v; catches = o.catches })) (last_all o.loops)

passed_by : (f : RunFault) (place : Place) (to kept : ℕ) (s : State) (o : Open) → is_caught f ≡ false → thrown f place s (opened to kept o) ≡ thrown f place s o
passed_by f place to kept s o e =
    ap (λ b. one_of b (caught_by f place s (opened to kept o) (opened to kept o).catches) (uncaught f place s o)) e
    ∙ sym (ap (λ b. one_of b (caught_by f place s o o.catches) (uncaught f place s o)) e)

module _ {serving : Serving} {seat : Seat} where
  catch_raised : (x : Option (List ℕ)) (to end kept : ℕ) (f : RunFault) (place : Place) (s : State) (o : Open) (c : Config) (b : Bool) → is_caught f ≡ b
      → Arrives serving seat (Running to (cut_bodies kept s) (push (record_of_fault f place) o)) (λ u. o.stack) end o (well (with_named x (record_of_fault f place) (cut_bodies kept s)))
      → ((d : Did) → Runs serving seat (thrown f place s (opened to kept o)) d → Runs serving seat c d)
      → Arrives serving seat c (λ u. o.stack) end o (if b then well (with_named x (record_of_fault f place) (cut_bodies kept s)) else Raised f place s)
  catch_raised x to end kept f place s o c true e after h = record { by = λ d r. h d (subst (λ y. Runs serving seat y d) (sym (caught_here f place to kept s o e)) (after.by d r)) }
  catch_raised x to end kept f place s o c false e after h = record { by = λ d r. h d (subst (λ y. Runs serving seat y d) (sym (passed_by f place to kept s o e)) r) }

  catch_end : (x : Option (List ℕ)) (to p2 end kept : ℕ) (o : Open) {c : Config} (w : Did)
      → ((s : State) → Arrives serving seat (Running p2 s (opened to kept o)) (λ u. o.stack) end o (well (without_named x s)))
      → ((r : Raise) (s : State) → Arrives serving seat (Running to s (push (fault_record r) o)) (λ u. o.stack) end o (well (with_named x (fault_record r) s)))
      → Arrives serving seat c (λ u. o.stack) p2 (opened to kept o) w → Arrives serving seat c (λ u. o.stack) end o (catch_mean x kept w)
  catch_end x to p2 end kept o (Well u s) ends after h = record { by = λ d r. h.by d ((ends s).by d r) }
  catch_end x to p2 end kept o {c = c} (Raised f place s) ends after h =
      catch_raised x to end kept f place s o c (is_caught f) refl (after (record { fault = f; place = place }) (cut_bodies kept s)) h.by
  catch_end x to p2 end kept o (Ended e s) ends after h = record { by = h.by }
  catch_end x to p2 end kept o (Awaits y s) ends after h = record { by = h.by }

-- whether a bean was made, and then its body
bean_same : (place : Place) (sc : Option HeldScope) (name : List ℕ) (bean : Datum) (body : State → Did) (s : State)
    → then_do (bean_made place sc name bean s) (λ made s1. either made body (λ s2. well s2) s1) ≡ bean_in place sc name bean body s
bean_same place (Some sc) name bean body s = go (is_some (found_in s.scopes sc name))
  where
    go : (b : Bool)
        → then_do (either b (λ s1. Well false s1) (λ s1. then_do (set_held place sc name bean s1) (λ u s2. Well true s2)) s)
        (λ made s1. either made body (λ s2. well s2) s1) ≡ either b (λ s2. well s2) (λ s1. then_do (set_held place sc name bean s1) (λ u s2. body s2)) s
    go true = refl
    go false = then_then (set_held place sc name bean s) _ _
bean_same place None name bean body s = then_then (ask place (step.Ensure name (value_of bean)) s) _ _

module _ {serving : Serving} {seat : Seat} {deep : ℕ → Deeper} {Calls : ℕ → Type 0} where
  -- the rounds of a loop, from behind its start
  rounds_do : {f : Form 0 0} {m : Deeper → State → Did} → Runs0 serving seat deep Calls f [] m → (l : Loop) (place : Place) (sh : Shape) (o : Open) → Fits o.catches o.stack o.loops → Calls o.left
      → Does serving seat (rounds_code sh place (form_code (looping sh) f)) (in_loop l o) (λ u. o.stack) o (λ s. loop_mean place l.variable l.status l.values (m (deep o.left)) l.rounds s)
  rounds_do {f = f} {m = m} h l place sh o fits calls = record {
    by = λ pc s has.
        let part = form_code (looping sh) f in
        let tail = cell (looping sh) place (instr.LoopNext (length part)) ∷ [] in
        let len : pc + 1 + length part + 1 ≡ pc + suc (length (part ++ tail)) = omega (arith, length-append part tail) in
        let back : pc + 1 + length part - length part ≡ pc + 1 = omega arith in
        to_pc len (leads (step_to has.0 refl) (rounds_run (m (deep o.left)) l place (pc + 1) (length part) (pc + 1 + length part) o fits back (has_back (code_of seat) (pc + 1) part tail has.1).0
        (λ k s3. (h.by (looping sh) (in_loop k o) (fits_loop o.catches o.stack k o.loops fits) calls).by (pc + 1) s3 (has_front (code_of seat) (pc + 1) part tail has.1)) l.rounds s));
  }

  -- a loop with the values that it takes
  pub looped_goes : {f : Form 0 0} {m : Deeper → State → Did} (kind : LoopKind) (place : Place) (ds : List Datum) → length ds ≡ length kind.names → Runs0 serving seat deep Calls f [] m
      → Runs0 serving seat deep Calls (looped kind f place) (onto ds [])
      (λ dp s. then_do (result_of place (loop_rounds kind.over (table_of kind.names ds)) s) (λ rounds s1. loop_mean place kind.variable kind.status (table_of kind.names ds) (m dp) rounds s1))
  looped_goes {f = f} {m = m} kind place ds e h = record {
    by = λ sh o fits calls.
        let vs = table_of kind.names ds in
        opens (λ s. result_of place (loop_rounds kind.over vs) s) (cell (up (length kind.names) sh) place (instr.LoopStart kind)) (rounds_code sh place (form_code (looping sh) f))
        (λ rounds. in_loop (record { variable = kind.variable; status = kind.status; values = vs; rounds = rounds }) o)
        (λ pc s. ap (λ v. act serving seat place pc s (record o { stack = v }) (instr.LoopStart kind)) (onto_append ds [] o.stack)
        ∙ popped_is ds o (length kind.names) (λ es p. On (loop_opened place kind (table_of kind.names es) (pc + 1) s p)) e)
        (λ rounds. rounds_do h (record { variable = kind.variable; status = kind.status; values = vs; rounds = rounds }) place sh o fits calls);
  }

  -- what takes a fault's record, and what takes the null of no fault
  keeps_null : (place : Place) (x : Option (List ℕ)) → Runs0 serving seat deep Calls (keeps_fault place x) (null ∷ []) (λ dp s. well (without_named x s))
  keeps_null place None = does_none op.Pop place (null ∷ []) (λ s. well s) refl (λ s. refl)
  keeps_null place (Some name) = does_none (op.SetVar (scoped scope.Page name)) place (null ∷ []) (λ s. well (without_named (Some name) s)) refl (λ s. refl)

  keeps_record : (place : Place) (x : Option (List ℕ)) (r : Raise) → Runs0 serving seat deep Calls (keeps_fault place x) (fault_record r ∷ []) (λ dp s. well (with_named x (fault_record r) s))
  keeps_record place None r = does_none op.Pop place (fault_record r ∷ []) (λ s. well s) refl (λ s. refl)
  keeps_record place (Some name) r = does_none (op.SetVar (scoped scope.Page name)) place (fault_record r ∷ []) (λ s. well (with_named (Some name) (fault_record r) s)) refl (λ s. refl)

  -- a catch
  pub caught_goes : {f : Form 0 0} {m : Deeper → State → Did} (place : Place) (x : Option (List ℕ)) → Runs0 serving seat deep Calls f [] m
      → Runs0 serving seat deep Calls (caught f (keeps_fault place x) place) [] (λ dp s. catch_mean x (length s.writer.kept) (m dp s))
  caught_goes {f = f} {m = m} place x h = record {
    by = λ sh o fits calls. record {
      by = λ pc s has.
          let part = form_code (trying sh) f in
          let p2 = pc + 1 + length part in
          let tail = cell (trying sh) place instr.CatchEnd ∷ cell sh place (instr.Op (op.Const value.Null)) ∷ [] in
          let front = part ++ tail in
          let handler = form_code sh (keeps_fault place x) in
          let to = pc + 1 + length front in
          let len : to + length handler ≡ pc + suc (length (front ++ handler)) = omega (arith, length-append front handler) in
          let e : p2 + 1 + 1 ≡ to = omega (arith, length-append part tail) in
          let ht = has_front (code_of seat) (pc + 1) front handler has.1 in
          let h2 = has_back (code_of seat) (pc + 1) part tail ht in
          let hs = has_back (code_of seat) (pc + 1) front handler has.1 in
          let kept = length s.writer.kept in
          let nulled : (st : State) → Arrives serving seat (Running to st (push null o)) (λ u. o.stack) (to + length handler) o (well (without_named x st)) = λ st.
          ((keeps_null place x).by sh o fits calls).by to st hs in
          to_pc len (leads (step_to has.0 refl) (catch_end x to p2 (to + length handler) kept o (m (deep o.left) s)
          (λ st. leads (step_to h2.0 refl) (leads (step_to h2.1.0 refl)
          (subst (λ p. Arrives serving seat (Running p st (push null o)) (λ u. o.stack) (to + length handler) o (well (without_named x st))) (sym e) (nulled st))))
          (λ r st. ((keeps_record place x r).by sh o fits calls).by to st hs)
          ((h.by (trying sh) (opened to kept o) (fits_opened to kept o) calls).by (pc + 1) s (has_front (code_of seat) (pc + 1) part tail ht))));
    };
  }

  -- a bean, and its body where it was made
  pub ensured_goes : {f : Form 0 0} {m : Deeper → State → Did} (place : Place) (x : ScopedName) (bean : Value) → Runs0 serving seat deep Calls f [] m
      → Runs0 serving seat deep Calls (ensured x bean f place) [] (λ dp s. bean_in place (held_scope x.scope) x.name (datum_of bean) (m dp) s)
  ensured_goes {f = f} {m = m} place x bean h = record {
    by = λ sh o fits calls. record {
      by = λ pc s has.
          let part = form_code sh f in
          let len : pc + 1 + length part ≡ pc + suc (length part) = omega arith in
          let sc = held_scope x.scope in
          to_pc len (leads (step_to has.0 refl) (subst
          (λ w. Arrives serving seat (then_at o (bean_made place sc x.name (datum_of bean) s)
          (λ made s1. one_of made (Running (pc + 1) s1 o) (Running (pc + 1 + length part) s1 o))) (λ u. o.stack) (pc + 1 + length part) o w)
          (bean_same place sc x.name (datum_of bean) (m (deep o.left)) s)
          (at (bean_made place sc x.name (datum_of bean) s) (λ made s1. made_or_not made (λ s2. (h.by sh o fits calls).by (pc + 1) s2 has.1) s1))));
    };
  }
    where
      made_or_not : {o : Open} {p q : ℕ} {body : State → Did} (b : Bool) → ((s : State) → Arrives serving seat (Running p s o) (λ u. o.stack) q o (body s)) → (s : State)
          → Arrives serving seat (one_of b (Running p s o) (Running q s o)) (λ u. o.stack) q o (either b body (λ s2. well s2) s)
      made_or_not true g s = g s
      made_or_not false g s = record { by = λ d r. r }
