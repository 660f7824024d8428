-- Where a fault leads, once it is known what stands open.
use Rattle.std.proofs.Common.{subst, ◌≡◌, ◌≤◌, ◌<◌, ◌-◌, ℕ, Bool, true, false, List, [], ◌∷◌, length, nat_le, refl, sym, ap, ◌∙◌, arith}
use Rattle.std.specs.Prelude.{take, Option, Some, None}
use Rattle.std.proofs.Math.Seq.{take-length}
use Rattle.std.proofs.lemmas.Bool.Decides.{nat_tests}
use Rattle.out_buffer.specs.Writer.{last_of, with_bodies}
use Rattle.run_moves.specs.Acted.{Acted}
use Rattle.run_world.specs.Origin.{Origin}
use Rattle.run_world.specs.Part.{given, Changes}
use Rattle.run_moves.specs.declared.flow.End.TheVariants as ends
use Rattle.run_moves.specs.declared.flow.Flow.TheVariants as flows
use Rattle.run_moves.proofs.Acts.{acted_changed, acted_raised}
use Rattle.page_meaning.specs.Core.{is_caught}
use Rattle.page_meaning.specs.Faults.{fault_record}
use Rattle.page_meaning.specs.Loops.{without_named}
use Rattle.page_meaning.specs.State.{State, in_writer}
use Rattle.page_table.specs.Landing.{Config, Running, unwound, uncaught, caught_by, cut_bodies, one_of, thrown}
use Rattle.page_table.specs.Move.{On}
use Rattle.page_table.specs.Open.{Loop, OpenCatch, Open}
use Rattle.pg_text.specs.declared.place.Place.{Place}
use Rattle.pg_value.specs.Datum.{Datum}
use Rattle.pg_value.specs.RunFault.{number_of}
use Rattle.pg_value.specs.declared.fault.RunFault.{RunFault}
use Rattle.site_words.specs.Law.{Answer}

le_no : (a b : ℕ) → b < a → nat_le a b ≡ false
le_no a b h = grind (arith, nat_tests)

le_yes : (a b : ℕ) → a ≤ b → nat_le a b ≡ true
le_yes a b h = grind (arith, nat_tests)

-- what the variables of loops are doesn't look at the answers
without_given : (name : Option (List ℕ)) (a : List Answer) (s : State) → without_named name (given a s) ≡ given a (without_named name s)
without_given None a s = refl
without_given (Some n) a s = refl

pub unwound_given : (loops : List Loop) (a : List Answer) (s : State) → unwound loops (given a s) ≡ given a (unwound loops s)
unwound_given [] a s = refl
unwound_given (l ∷ outer) a s =
    ap (λ t. unwound outer (without_named l.status t)) (without_given l.variable a s)
    ∙ ap (unwound outer) (without_given l.status a (without_named l.variable s))
    ∙ unwound_given outer a (without_named l.status (without_named l.variable s))

pub thrown_high : (f : RunFault) (place : Place) (s : State) (o : Open) → 16 < number_of f → thrown f place s o ≡ uncaught f place s o
thrown_high f place s o high = ap (λ b. one_of b (caught_by f place s o o.catches) (uncaught f place s o)) (le_no (number_of f) 16 high)

same_way : (b : Bool) (c : Config) → one_of b c c ≡ c
same_way true c = refl
same_way false c = refl

pub thrown_free : (f : RunFault) (place : Place) (s : State) (o : Open) → o.catches ≡ [] → thrown f place s o ≡ uncaught f place s o
thrown_free f place s o none = ap (λ cs. one_of (is_caught f) (caught_by f place s o cs) (uncaught f place s o)) none ∙ same_way (is_caught f) (uncaught f place s o)

-- what a caught fault leaves open
abbrev pub caught_open : RunFault → Place → Open → OpenCatch → List OpenCatch → Open
caught_open f place o c outer =
    record { left = o.left; stack = fault_record (record { fault = f; place = place }) ∷ last_of c.values o.stack; loops = last_of c.loops o.loops; catches = outer }

pub caught_is : (f : RunFault) (place : Place) (o : Open) (c : OpenCatch) (outer : List OpenCatch) (stack : List Datum) (loops : List Loop)
    → stack ≡ fault_record (record { fault = f; place = place }) ∷ last_of c.values o.stack → loops ≡ last_of c.loops o.loops
    → (let opened : Open = record { left = o.left; stack = stack; loops = loops; catches = outer } in opened) ≡ caught_open f place o c outer
caught_is f place o c outer stack loops e h =
    ap (λ z. let opened : Open = record { left = o.left; stack = z; loops = loops; catches = outer } in opened) e
    ∙ ap (λ z. let opened : Open = record { left = o.left; stack = fault_record (record { fault = f; place = place }) ∷ last_of c.values o.stack; loops = z; catches = outer } in opened) h

-- how it changes the state
abbrev pub caught_state : Open → OpenCatch → State → State
caught_state o c s = cut_bodies c.bodies (unwound (take (length o.loops - c.loops) o.loops) s)

pub caught_given : (o : Open) (c : OpenCatch) (a : List Answer) (s : State) → caught_state o c (given a s) ≡ given a (caught_state o c s)
caught_given o c a s = ap (cut_bodies c.bodies) (unwound_given (take (length o.loops - c.loops) o.loops) a s)

pub thrown_caught : (f : RunFault) (place : Place) (s : State) (o : Open) (c : OpenCatch) (outer : List OpenCatch) → number_of f ≤ 16 → o.catches ≡ c ∷ outer
    → thrown f place s o ≡ Running c.to (caught_state o c s) (caught_open f place o c outer)
thrown_caught f place s o c outer low e =
    ap (λ b. one_of b (caught_by f place s o o.catches) (uncaught f place s o)) (le_yes (number_of f) 16 low) ∙ ap (caught_by f place s o) e

take_whole : {A : Type 0} (xs : List A) → take (length xs - 0) xs ≡ xs
take_whole xs = let e : length xs - 0 ≡ length xs = omega arith in ap (λ n. take n xs) e ∙ take-length xs

module _ {W : Type 0} {reached : W → Origin → W → State → Type 0} {replies : W → List Answer} where
  -- a fault that no catch takes: all loops end, and the run with them
  pub fallen : (old new : W) (o o2 : Open) (f : RunFault) (place : Place) → Changes reached (unwound (take (length o.loops - 0) o.loops)) old new → replies new ≡ replies old
      → Acted reached replies (λ s. On (uncaught f place s o)) old new o2 (flows.Over (ends.Raised f place))
  fallen old new o o2 f place changes same =
      acted_raised (λ s. On (uncaught f place s o)) (unwound o.loops) old new o2 f place (λ a s. unwound_given o.loops a s) (λ s. refl)
      (subst (λ loops. Changes reached (unwound loops) old new) (take_whole o.loops) changes) same

  -- a fault that the innermost catch takes
  pub caught : (old mid new : W) (o o2 : Open) (f : RunFault) (place : Place) (c : OpenCatch) (outer : List OpenCatch) → number_of f ≤ 16 → o.catches ≡ c ∷ outer → o2 ≡ caught_open f place o c outer
      → Changes reached (unwound (take (length o.loops - c.loops) o.loops)) old mid → Changes reached (λ s. in_writer (with_bodies c.bodies s.writer) s) mid new → replies mid ≡ replies old → replies new ≡ replies mid
      → Acted reached replies (λ s. On (thrown f place s o)) old new o2 (flows.Go c.to)
  caught old mid new o o2 f place c outer low e same one two first second =
      acted_changed (λ s. On (thrown f place s o)) (caught_state o c) old new o2 c.to (λ a s. caught_given o c a s)
      (λ s. ap On (thrown_caught f place s o c outer low e) ∙ ap (λ x. On (Running c.to (caught_state o c s) x)) (sym same))
      (record { by = λ begin origin s h. two.by begin origin (unwound (take (length o.loops - c.loops) o.loops) s) (one.by begin origin s h) })
      (second ∙ first)
