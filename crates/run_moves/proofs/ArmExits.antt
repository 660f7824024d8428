-- The exits of single instructions.
use Rattle.std.proofs.Common.{◌≡◌, ◌<◌, ◌+◌, ℕ, zero, suc, Bool, true, false, List, [], ◌∷◌, ◌++◌, length, Some, refl, sym, ap, ◌∙◌, subst, arith}
use Rattle.std.specs.Prelude.{take, drop, slice_get}
use Rattle.run_moves.specs.Acted.{Acted}
use Rattle.run_world.specs.Origin.{Origin}
use Rattle.run_parts.specs.Answers.{is_null}
use Rattle.run_moves.specs.declared.flow.Flow.{Flow}
use Rattle.run_moves.specs.declared.flow.Flow.TheVariants as flows
use Rattle.run_world.specs.Part.{given}
use Rattle.run_moves.proofs.Acts.{acted_as, acted_on}
use Rattle.run_moves.proofs.Behind.{acted_where}
use Rattle.page_meaning.specs.State.{State}
use Rattle.page_table.specs.Act.{brought_up, catch_closed, is_same_truth, is_true, jump_null, with_catch, with_stack}
use Rattle.page_table.specs.Landing.{Running, one_of}
use Rattle.page_table.specs.Move.{Move, On, popped}
use Rattle.page_table.specs.Open.{OpenCatch, Open}
use Rattle.pg_value.specs.Datum as datum
use Rattle.pg_value.specs.Datum.{Datum, null, truth, number, text, rec}
use Rattle.site_words.specs.Law.{Answer}

-- a value that stands in a list
record At (n : ℕ) (xs : List Datum) : Type 0 where
  value : Datum
  stands : slice_get xs n ≡ Some value
  alone : take 1 (drop n xs) ≡ value ∷ []

at : (n : ℕ) (xs : List Datum) → n < length xs → At n xs
at n [] h = absurd (omega (arith, h))
at zero (d ∷ xs) h = record { value = d; stands = refl; alone = refl }
at (suc n) (d ∷ xs) h = let a = at n xs (omega (arith, h)) in record { value = a.value; stands = a.stands; alone = a.alone }

-- a list that isn't empty
record Filled (xs : List Datum) : Type 0 where
  top : Datum
  rest : List Datum
  is : xs ≡ top ∷ rest

filled : (xs : List Datum) → 0 < length xs → Filled xs
filled [] h = absurd (omega (arith, h))
filled (d ∷ xs) h = record { top = d; rest = xs; is = refl }

null_there : (d : Datum) (to behind : ℕ) (s : State) (o p : Open) → is_null d ≡ true → jump_null d to behind s o p ≡ Running to s p
null_there null to behind s o p e = refl
null_there (truth b) to behind s o p e = absurd (cc)
null_there (number n) to behind s o p e = absurd (cc)
null_there (text t) to behind s o p e = absurd (cc)
null_there (datum.list is) to behind s o p e = absurd (cc)
null_there (rec es) to behind s o p e = absurd (cc)

no_null : (d : Datum) (to behind : ℕ) (s : State) (o p : Open) → is_null d ≡ false → jump_null d to behind s o p ≡ Running behind s o
no_null null to behind s o p e = absurd (cc)
no_null (truth b) to behind s o p e = refl
no_null (number n) to behind s o p e = refl
no_null (text t) to behind s o p e = refl
no_null (datum.list is) to behind s o p e = refl
no_null (rec es) to behind s o p e = refl

module _ {W : Type 0} {reached : W → Origin → W → State → Type 0} {replies : W → List Answer} where
  pub take_exit : (n to : ℕ) (w : W) (o : Open) (stack : List Datum) → n < length o.stack → stack ≡ take 1 (drop n o.stack) ++ take n o.stack ++ drop (n + 1) o.stack
      → Acted reached replies (λ s. brought_up (slice_get o.stack n) n to s o) w w (with_stack stack o) (flows.Go to)
  take_exit n to w o stack h e =
      let a = at n o.stack h in
      acted_on (λ s. brought_up (slice_get o.stack n) n to s o) w (with_stack stack o) to
      (λ s. ap (λ x. brought_up x n to s o) a.stands
      ∙ ap (λ z. On (Running to s (with_stack z o))) (sym (e ∙ ap (λ z. z ++ take n o.stack ++ drop (n + 1) o.stack) a.alone)))

  -- the topmost value taken
  pub popped_exit : (w new : W) (o o2 : Open) (flow : Flow) (d : Datum) (rest : List Datum) (go : State → Datum → Open → Move) → o.stack ≡ d ∷ rest
      → Acted reached replies (λ s. go s d (with_stack rest o)) w new o2 flow → Acted reached replies (λ s. popped o o.stack (go s)) w new o2 flow
  popped_exit w new o o2 flow d rest go e acted = acted_as (λ s. popped o o.stack (go s)) (λ s. go s d (with_stack rest o)) w new o2 flow (λ s. ap (λ xs. popped o xs (go s)) e) acted

  pub jump_exit : (holds : Bool) (to behind : ℕ) (w : W) (o : Open) (d : Datum) (rest : List Datum) → o.stack ≡ d ∷ rest → is_same_truth holds (is_true d) ≡ true
      → Acted reached replies (λ s. popped o o.stack (λ d p. On (one_of (is_same_truth holds (is_true d)) (Running to s p) (Running behind s p)))) w w (with_stack rest o) (flows.Go to)
  jump_exit holds to behind w o d rest e same =
      popped_exit w w o (with_stack rest o) (flows.Go to) d rest (λ s d p. On (one_of (is_same_truth holds (is_true d)) (Running to s p) (Running behind s p))) e
      (acted_on (λ s. On (one_of (is_same_truth holds (is_true d)) (Running to s (with_stack rest o)) (Running behind s (with_stack rest o)))) w (with_stack rest o) to
      (λ s. ap (λ b. On (one_of b (Running to s (with_stack rest o)) (Running behind s (with_stack rest o)))) same))

  pub stay_exit : (holds : Bool) (to behind : ℕ) (w : W) (o : Open) (d : Datum) (rest : List Datum) → o.stack ≡ d ∷ rest → is_same_truth holds (is_true d) ≡ false
      → Acted reached replies (λ s. popped o o.stack (λ d p. On (one_of (is_same_truth holds (is_true d)) (Running to s p) (Running behind s p)))) w w (with_stack rest o) (flows.Go behind)
  stay_exit holds to behind w o d rest e other =
      popped_exit w w o (with_stack rest o) (flows.Go behind) d rest (λ s d p. On (one_of (is_same_truth holds (is_true d)) (Running to s p) (Running behind s p))) e
      (acted_on (λ s. On (one_of (is_same_truth holds (is_true d)) (Running to s (with_stack rest o)) (Running behind s (with_stack rest o)))) w (with_stack rest o) behind
      (λ s. ap (λ b. On (one_of b (Running to s (with_stack rest o)) (Running behind s (with_stack rest o)))) other))

  pub null_exit : (to behind : ℕ) (w : W) (o : Open) (stack : List Datum) (is : Bool) → 0 < length o.stack → ((d : Datum) (rest : List Datum) → o.stack ≡ d ∷ rest → is ≡ is_null d) → is ≡ true → stack ≡ drop 1 o.stack
      → Acted reached replies (λ s. popped o o.stack (λ d p. On (jump_null d to behind s o p))) w w (with_stack stack o) (flows.Go to)
  null_exit to behind w o stack is h tells e left =
      let f = filled o.stack h in
      let rest : stack ≡ f.rest = left ∙ ap (drop 1) f.is in
      subst (λ z. Acted reached replies (λ s. popped o o.stack (λ d p. On (jump_null d to behind s o p))) w w (with_stack z o) (flows.Go to)) (sym rest)
      (popped_exit w w o (with_stack f.rest o) (flows.Go to) f.top f.rest (λ s d p. On (jump_null d to behind s o p)) f.is
      (acted_on (λ s. On (jump_null f.top to behind s o (with_stack f.rest o))) w (with_stack f.rest o) to
      (λ s. ap On (null_there f.top to behind s o (with_stack f.rest o) (sym (tells f.top f.rest f.is) ∙ e)))))

  pub value_exit : (to behind : ℕ) (w : W) (o : Open) (is : Bool) → 0 < length o.stack → ((d : Datum) (rest : List Datum) → o.stack ≡ d ∷ rest → is ≡ is_null d) → is ≡ false
      → Acted reached replies (λ s. popped o o.stack (λ d p. On (jump_null d to behind s o p))) w w o (flows.Go behind)
  value_exit to behind w o is h tells e =
      let f = filled o.stack h in
      popped_exit w w o o (flows.Go behind) f.top f.rest (λ s d p. On (jump_null d to behind s o p)) f.is
      (acted_on (λ s. On (jump_null f.top to behind s o (with_stack f.rest o))) w o behind
      (λ s. ap On (no_null f.top to behind s o (with_stack f.rest o) (sym (tells f.top f.rest f.is) ∙ e))))

  pub close_exit : (to : ℕ) (w : W) (o : Open) (c : OpenCatch) (outer : List OpenCatch) → o.catches ≡ c ∷ outer
      → Acted reached replies (λ s. catch_closed o.catches to s o) w w (record o { catches = outer }) (flows.Go to)
  close_exit to w o c outer e = acted_on (λ s. catch_closed o.catches to s o) w (record o { catches = outer }) to (λ s. ap (λ cs. catch_closed cs to s o) e)

  -- a catch opens
  pub catch_exit : (to on bodies : ℕ) (w : W) (o : Open) (catches : List OpenCatch) → ((first : W) (origin : Origin) (s : State) → reached first origin w s → bodies ≡ length s.writer.kept)
      → catches ≡ (let opened : OpenCatch = record { to = to; values = length o.stack; bodies = bodies; loops = length o.loops } in opened) ∷ o.catches
      → Acted reached replies (λ s. On (Running on s (with_catch to s o))) w w (record o { catches = catches }) (flows.Go on)
  catch_exit to on bodies w o catches told e =
      acted_where (λ s. On (Running on s (with_catch to s o))) w (record o { catches = catches }) on
      (λ first origin s h a.
      ap (λ n. On (Running on (given a s) (record o { catches = (let opened : OpenCatch = record { to = to; values = length o.stack; bodies = n; loops = length o.loops } in opened) ∷ o.catches })))
      (sym (told first origin s h))
      ∙ ap (λ cs. On (Running on (given a s) (record o { catches = cs }))) (sym e))
