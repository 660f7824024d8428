-- Stretches of a run.
use Rattle.std.proofs.Common.{◌≡◌, ℕ, suc, ◌-◌, List, [], ◌∷◌, ◌++◌, length, Some, refl, sym, ap, ◌∙◌, subst, arith}
use Rattle.std.specs.Prelude.{slice_get, take}
use Rattle.out_buffer.specs.Writer.{last_of}
use Rattle.page_code.specs.declared.code.Cell.{Cell}
use Rattle.page_meaning.specs.Core.{is_caught}
use Rattle.page_meaning.specs.Faults.{fault_record}
use Rattle.page_meaning.specs.Loops.{without_named}
use Rattle.page_meaning.specs.State.{State}
use Rattle.page_meaning.specs.Went.{Did, Went, Well, Raised, Ended, Awaits, then_do}
use Rattle.page_table.specs.Act.{act, act_at}
use Rattle.page_table.specs.Landing.{Config, Running, unwound, uncaught, cut_bodies, caught_by, one_of, thrown, then_at, land}
use Rattle.page_table.specs.Move.{On}
use Rattle.page_table.specs.Open.{Loop, OpenCatch, Open}
use Rattle.page_table.specs.Program.{Serving}
use Rattle.page_table.specs.Runs.{Runs, on}
use Rattle.page_table.specs.Seat.{Seat, code_of}
use Rattle.pg_text.specs.declared.place.Place.{Place}
use Rattle.pg_value.specs.Datum.{Datum}
use Rattle.pg_value.specs.declared.fault.RunFault.{RunFault}
use Rattle.code_lowering.proofs.Stands.{Fits, last_push}

-- whatever ends from the second ends so from the first
pub record Reaches (serving : Serving) (seat : Seat) (c next : Config) : Type 0 where
  pub by : (d : Did) → Runs serving seat next d → Runs serving seat c d

-- the run comes to where a part that went so ends
pub record Arrives (serving : Serving) (seat : Seat) (c : Config) {A : Type 0} (st : A → List Datum) (to : ℕ) (o : Open) (w : Went A) : Type 0 where
  pub by : (d : Did) → Runs serving seat (land to st o w) d → Runs serving seat c d

-- with values more on the stack
abbrev pub pushed : List Datum → Open → Open
pushed vs o = record o { stack = vs ++ o.stack }

-- with one value more
abbrev pub push : Datum → Open → Open
push d o = record o { stack = d ∷ o.stack }

-- with one loop more
abbrev pub in_loop : Loop → Open → Open
in_loop l o = record o { loops = l ∷ o.loops }

-- without the variables of a loop
abbrev pub tidy : Loop → State → State
tidy l s = without_named l.status (without_named l.variable s)

caught_push : (f : RunFault) (place : Place) (s : State) (o : Open) (d : Datum) (cs : List OpenCatch) → Fits cs o.stack o.loops → caught_by f place s (push d o) cs ≡ caught_by f place s o cs
caught_push f place s o d [] h = refl
caught_push f place s o d (c ∷ outer) h =
    ap (λ b. Running c.to (cut_bodies c.bodies (unwound (take (length o.loops - c.loops) o.loops) s))
    (record { left = o.left; stack = fault_record (record { fault = f; place = place }) ∷ b; loops = last_of c.loops o.loops; catches = outer }))
    (last_push c.values d o.stack h.0)

pub thrown_push : (f : RunFault) (place : Place) (s : State) (o : Open) (d : Datum) → Fits o.catches o.stack o.loops → thrown f place s (push d o) ≡ thrown f place s o
thrown_push f place s o d h = ap (λ c. one_of (is_caught f) c (uncaught f place s o)) (caught_push f place s o d o.catches h)

caught_loop : (f : RunFault) (place : Place) (s : State) (o : Open) (l : Loop) (cs : List OpenCatch) → Fits cs o.stack o.loops
    → caught_by f place s (in_loop l o) cs ≡ caught_by f place (tidy l s) o cs
caught_loop f place s o l [] h = refl
caught_loop f place s o l (c ∷ outer) h =
    let e : length (l ∷ o.loops) - c.loops ≡ suc (length o.loops - c.loops) = omega (arith, h.1) in
    let stack = fault_record (record { fault = f; place = place }) ∷ last_of c.values o.stack in
    ap (λ k. Running c.to (cut_bodies c.bodies (unwound (take k (l ∷ o.loops)) s)) (record { left = o.left; stack = stack; loops = last_of c.loops (l ∷ o.loops); catches = outer })) e
    ∙ ap (λ ls. Running c.to (cut_bodies c.bodies (unwound (take (length o.loops - c.loops) o.loops) (tidy l s)))
    (record { left = o.left; stack = stack; loops = ls; catches = outer })) (last_push c.loops l o.loops h.1)

pub thrown_loop : (f : RunFault) (place : Place) (s : State) (o : Open) (l : Loop) → Fits o.catches o.stack o.loops → thrown f place s (in_loop l o) ≡ thrown f place (tidy l s) o
thrown_loop f place s o l h = ap (λ c. one_of (is_caught f) c (uncaught f place s (in_loop l o))) (caught_loop f place s o l o.catches h)

pub land_push : {A : Type 0} (st : A → List Datum) (to : ℕ) (o : Open) (d : Datum) (w : Went A) → Fits o.catches o.stack o.loops → land to st (push d o) w ≡ land to st o w
land_push st to o d (Well a s) h = refl
land_push st to o d (Raised f place s) h = thrown_push f place s o d h
land_push st to o d (Ended e s) h = refl
land_push st to o d (Awaits x s) h = refl

module _ {serving : Serving} {seat : Seat} where
  pub leads : {a b : Config} → Reaches serving seat a b → {A : Type 0} → {st : A → List Datum} {to : ℕ} {o : Open} {w : Went A} → Arrives serving seat b st to o w → Arrives serving seat a st to o w
  leads h g = record { by = λ d r. h.by d (g.by d r) }

  pub to_pc : {A : Type 0} {c : Config} {st : A → List Datum} {p q : ℕ} {o : Open} {w : Went A} → p ≡ q → Arrives serving seat c st p o w → Arrives serving seat c st q o w
  to_pc {c = c} {st = st} {o = o} {w = w} e h = subst (λ p. Arrives serving seat c st p o w) e h

  pub to_went : {A : Type 0} {c : Config} {st : A → List Datum} {p : ℕ} {o : Open} {v w : Went A} → v ≡ w → Arrives serving seat c st p o v → Arrives serving seat c st p o w
  to_went {c = c} {st = st} {p = p} {o = o} e h = subst (λ w. Arrives serving seat c st p o w) e h

  pub here : {A : Type 0} {st : A → List Datum} {to : ℕ} {o : Open} (w : Went A) → Arrives serving seat (land to st o w) st to o w
  here w = record { by = λ d r. r }

  -- one instruction
  pub step : {pc : ℕ} {s : State} {o : Open} {cl : Cell} {c : Config} → slice_get (code_of seat) pc ≡ Some cl → act serving seat cl.place pc s o cl.instr ≡ On c
      → Reaches serving seat (Running pc s o) c
  step {pc = pc} {s = s} {o = o} {c = c} h e = record { by = λ d r. on seat pc s o c d (ap (act_at serving seat pc s o) h ∙ e) r }

  -- one instruction whose row is a `land`
  pub step_land : {pc : ℕ} {s : State} {o : Open} {cl : Cell} {A : Type 0} {st : A → List Datum} {to : ℕ} {q : Open} {w : Went A} → slice_get (code_of seat) pc ≡ Some cl
      → act serving seat cl.place pc s o cl.instr ≡ On (land to st q w)
      → Arrives serving seat (Running pc s o) st to q w
  step_land {pc = pc} {s = s} {o = o} {st = st} {to = to} {q = q} {w = w} h e = record { by = λ d r. on seat pc s o (land to st q w) d (ap (act_at serving seat pc s o) h ∙ e) r }

  -- a part, and what follows where it went well
  pub seq : {A B : Type 0} {c : Config} {o : Open} {st1 : A → List Datum} {p1 : ℕ} {st2 : B → List Datum} {p2 : ℕ} (w : Went A) {k : A → State → Went B} → Arrives serving seat c st1 p1 o w
      → ((a : A) (s : State) → Arrives serving seat (Running p1 s (record o { stack = st1 a })) st2 p2 o (k a s)) → Arrives serving seat c st2 p2 o (then_do w k)
  seq (Well a s) h g = record { by = λ d r. h.by d ((g a s).by d r) }
  seq (Raised f place s) h g = record { by = h.by }
  seq (Ended e s) h g = record { by = h.by }
  seq (Awaits x s) h g = record { by = h.by }

  -- the same inside one instruction
  pub at : {A B : Type 0} {o : Open} {st2 : B → List Datum} {p2 : ℕ} (w : Went A) {go : A → State → Config} {k : A → State → Went B}
      → ((a : A) (s : State) → Arrives serving seat (go a s) st2 p2 o (k a s)) → Arrives serving seat (then_at o w go) st2 p2 o (then_do w k)
  at (Well a s) g = g a s
  at (Raised f place s) g = record { by = λ d r. r }
  at (Ended e s) g = record { by = λ d r. r }
  at (Awaits x s) g = record { by = λ d r. r }

  -- with a value more on the stack a fault leads to the same
  pub lower : {A : Type 0} {c : Config} {st : A → List Datum} {to : ℕ} (w : Went A) (o : Open) (d : Datum) → Fits o.catches o.stack o.loops
      → Arrives serving seat c st to (push d o) w → Arrives serving seat c st to o w
  lower {st = st} {to = to} w o d fits h = record { by = λ x r. h.by x (subst (λ c. Runs serving seat c x) (sym (land_push st to o d w fits)) r) }

  -- the same with other values for the result
  pub restacked : {A : Type 0} {c : Config} {st st2 : A → List Datum} {to : ℕ} {o : Open} (w : Went A) → ((a : A) → st a ≡ st2 a) → Arrives serving seat c st to o w → Arrives serving seat c st2 to o w
  restacked {to = to} {o = o} (Well a s) e h = record { by = λ d r. h.by d (subst (λ v. Runs serving seat (Running to s (record o { stack = v })) d) (sym (e a)) r) }
  restacked (Raised f place s) e h = record { by = h.by }
  restacked (Ended x s) e h = record { by = h.by }
  restacked (Awaits x s) e h = record { by = h.by }
