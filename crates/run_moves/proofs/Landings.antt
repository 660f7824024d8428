-- What an operation made lands where the table says; and what is taken from the stack.
use Rattle.std.proofs.Common.{◌≡◌, ◌≤◌, ◌+◌, ℕ, zero, suc, List, [], ◌∷◌, ◌++◌, length, Result, Ok, Err, refl, sym, ap, ◌∙◌, subst, append_assoc, append-nil, arith}
use Rattle.std.specs.Prelude.{Option, Some, None, take, drop, reverse}
use Rattle.std.proofs.lemmas.List.{reverse-append}
use Rattle.run_moves.specs.Acted.{Acted}
use Rattle.run_world.specs.Origin.{Origin}
use Rattle.run_world.specs.Part.{Doing}
use Rattle.run_moves.specs.Landing.{failing, landing}
use Rattle.run_parts.specs.Answers.{left_by}
use Rattle.run_moves.specs.declared.flow.End.TheVariants as ends
use Rattle.run_moves.specs.declared.flow.Flow.{Flow}
use Rattle.run_moves.specs.declared.flow.Flow.TheVariants as flows
use Rattle.run_moves.proofs.Acts.{acted_behind, acted_fault, acted_on, acted_part_short, acted_short, then_at_grows}
use Rattle.page_meaning.proofs.Growing.{same}
use Rattle.page_meaning.specs.State.{State}
use Rattle.page_meaning.specs.Went.{Went}
use Rattle.page_table.specs.Landing.{Running, land}
use Rattle.page_table.specs.Move.{Move, On, popped_onto, popped_all}
use Rattle.page_table.specs.Open.{Open}
use Rattle.pg_text.specs.declared.failure.Failure.{Failure}
use Rattle.pg_text.specs.declared.failure.Failure.TheVariants as failure
use Rattle.pg_text.specs.declared.place.Place.{Place}
use Rattle.pg_value.specs.Datum.{Datum}
use Rattle.pg_value.specs.Value.{datum_of}
use Rattle.pg_value.specs.declared.fault.RunFault.{RunFault}
use Rattle.pg_value.specs.declared.value.Value.{Value}
use Rattle.site_words.specs.Law.{Answer}

-- an operation behind which the run lands
abbrev pub Lands : (pc : ℕ) → Place → Open → (Place → State → Went (List Datum)) → State → Move
Lands pc place p part s = On (land (pc + 1) (λ ds. ds ++ p.stack) p (part place s))

pub landed : {W : Type 0} {reached : W → Origin → W → State → Type 0} {replies : W → List Answer} {part : Place → State → Went (List Datum)} (pc : ℕ) (place : Place) (p : Open) (old mid new : W)
    (made : Result (Option Value) (Failure RunFault)) (o : Open) (flow : Flow) → Doing reached replies left_by part old mid made → Acted reached replies (landing pc place p made) mid new o flow
    → (made ≡ Err failure.NoMemory → (flow ≡ flows.Over ends.NoMemory) × (new ≡ mid)) → Acted reached replies (Lands pc place p part) old new o flow
landed {part = part} pc place p old mid new (Ok made) o flow does acted short =
    acted_behind place (Lands pc place p part) (landing pc place p (Ok made)) old mid new made o flow (λ s t e. ap (λ w. On (land (pc + 1) (λ ds. ds ++ p.stack) p w)) e) does acted
landed {part = part} pc place p old mid new (Err (failure.Fault f)) o flow does acted short =
    acted_fault place (Lands pc place p part) (landing pc place p (Err (failure.Fault f))) old mid new f o flow (λ s t e. ap (λ w. On (land (pc + 1) (λ ds. ds ++ p.stack) p w)) e) does acted
landed {W} {reached} {replies} {part} pc place p old mid new (Err failure.NoMemory) o flow does acted short =
    let e = short refl in
    subst (λ f. Acted reached replies (Lands pc place p part) old new o f) (sym e.0)
    (subst (λ w. Acted reached replies (Lands pc place p part) old w o (flows.Over ends.NoMemory)) (sym e.1)
    (acted_part_short place (Lands pc place p part) old mid o (λ s. then_at_grows p (part place s) (λ ds t. Running (pc + 1) t (record p { stack = ds ++ p.stack })) (λ ds t. same t)) does))

-- so many of the topmost values, in the order in which they were pushed
onto_is : (n : ℕ) (o : Open) (stack ds : List Datum) (go : List Datum → Open → Move) → n ≤ length stack
    → popped_onto n o stack ds go ≡ go (reverse (take n stack) ++ ds) (record o { stack = drop n stack })
onto_is zero o stack ds go h = refl
onto_is (suc n) o [] ds go h = absurd (omega (arith, h))
onto_is (suc n) o (d ∷ stack) ds go h =
    onto_is n o stack (d ∷ ds) go (omega (arith, h))
    ∙ ap (λ x. go x (record o { stack = drop n stack })) (sym (ap (λ x. x ++ ds) (reverse_more d (take n stack)) ∙ append_assoc (reverse (take n stack)) (d ∷ []) ds))
  where
    reverse_more : (d : Datum) (xs : List Datum) → reverse (d ∷ xs) ≡ reverse xs ++ d ∷ []
    reverse_more d xs = reverse-append (d ∷ []) xs

pub popped_all_is : (n : ℕ) (o : Open) (go : List Datum → Open → Move) → n ≤ length o.stack → popped_all n o go ≡ go (reverse (take n o.stack)) (record o { stack = drop n o.stack })
popped_all_is n o go h = onto_is n o o.stack [] go h ∙ ap (λ x. go x (record o { stack = drop n o.stack })) (append-nil (reverse (take n o.stack)))

module _ {W : Type 0} {reached : W → Origin → W → State → Type 0} {replies : W → List Answer} where
  -- a failure that is this one
  pub failing_as : (place : Place) (p : Open) (failed this : Failure RunFault) (old new : W) (o : Open) (flow : Flow) → failed ≡ this → Acted reached replies (failing place p this) old new o flow
      → Acted reached replies (failing place p failed) old new o flow
  failing_as place p failed this old new o flow e acted = subst (λ x. Acted reached replies (failing place p x) old new o flow) (sym e) acted

  pub failing_short : (place : Place) (p : Open) (failed : Failure RunFault) (w : W) (o : Open) → failed ≡ failure.NoMemory → Acted reached replies (failing place p failed) w w o (flows.Over ends.NoMemory)
  failing_short place p failed w o e = failing_as place p failed failure.NoMemory w w o (flows.Over ends.NoMemory) e (acted_short (failing place p failure.NoMemory) w o (λ s. tt))

  -- what an operation made is pushed
  pub land_some : (pc : ℕ) (place : Place) (p : Open) (w : W) (made : Result (Option Value) (Failure RunFault)) (m : Option Value) (v : Value) (stack : List Datum) → made ≡ Ok m → m ≡ Some v → stack ≡ datum_of v ∷ p.stack
      → Acted reached replies (landing pc place p made) w w (record p { stack = stack }) (flows.Go (pc + 1))
  land_some pc place p w made m v stack e f pushed =
      acted_on (landing pc place p made) w (record p { stack = stack }) (pc + 1)
      (λ s. ap (λ x. landing pc place p x s) e ∙ ap (λ x. landing pc place p (Ok x) s) f ∙ ap (λ z. On (Running (pc + 1) s (record p { stack = z }))) (sym pushed))

  pub land_none : (pc : ℕ) (place : Place) (p : Open) (w : W) (made : Result (Option Value) (Failure RunFault)) (m : Option Value) → made ≡ Ok m → m ≡ None
      → Acted reached replies (landing pc place p made) w w p (flows.Go (pc + 1))
  land_none pc place p w made m e f = acted_on (landing pc place p made) w p (pc + 1) (λ s. ap (λ x. landing pc place p x s) e ∙ ap (λ x. landing pc place p (Ok x) s) f)

  pub land_short : (pc : ℕ) (place : Place) (p : Open) (w : W) (made : Result (Option Value) (Failure RunFault)) (m : Option Value) (o : Open) → made ≡ Ok m
      → Acted reached replies (landing pc place p made) w w o (flows.Over ends.NoMemory)
  land_short pc place p w made m o e =
      subst (λ x. Acted reached replies (landing pc place p x) w w o (flows.Over ends.NoMemory)) (sym e) (acted_short (landing pc place p (Ok m)) w o (λ s. same s))

  pub land_failed : (pc : ℕ) (place : Place) (p : Open) (old new : W) (made : Result (Option Value) (Failure RunFault)) (failed : Failure RunFault) (o : Open) (flow : Flow) → made ≡ Err failed
      → Acted reached replies (failing place p failed) old new o flow → Acted reached replies (landing pc place p made) old new o flow
  land_failed pc place p old new made failed o flow e acted = subst (λ x. Acted reached replies (landing pc place p x) old new o flow) (sym e) acted
