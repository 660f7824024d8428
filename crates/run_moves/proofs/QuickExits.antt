-- Frequent operations: what they did lands as the move leads.
use Rattle.std.proofs.Common.{◌≡◌, ◌≤◌, ◌+◌, ℕ, List, ◌∷◌, length, Result, Ok, Err, refl, sym, ap, ◌∙◌, subst}
use Rattle.std.specs.Prelude.{Some, None, take, drop, reverse}
use Rattle.page_code.specs.Ops.{takes}
use Rattle.page_code.specs.declared.instr.Instr.TheVariants as instr
use Rattle.page_code.specs.declared.op.Op.{Op}
use Rattle.page_code.specs.declared.op.Op.TheVariants as ops
use Rattle.page_code.specs.declared.operands.Coercion.{Coercion}
use Rattle.page_meaning.proofs.Growing.{same}
use Rattle.page_meaning.specs.Attributes.{coerced}
use Rattle.page_meaning.specs.State.{State}
use Rattle.page_meaning.specs.Went.{Did, Went}
use Rattle.page_table.specs.Act.{act, with_stack}
use Rattle.page_table.specs.Landing.{Running}
use Rattle.page_table.specs.Move.{Move, On}
use Rattle.page_table.specs.Open.{Open}
use Rattle.page_table.specs.Operands.{coercion_of}
use Rattle.page_table.specs.Operations.{leaving_none, leaving_one, operation}
use Rattle.page_table.specs.Program.{Serving}
use Rattle.page_table.specs.Seat.{Seat}
use Rattle.pg_text.specs.Failure.{AnswersAs}
use Rattle.pg_text.specs.declared.failure.Failure.{Failure}
use Rattle.pg_text.specs.declared.failure.Failure.TheVariants as failure
use Rattle.pg_text.specs.declared.place.Place.{Place}
use Rattle.pg_value.specs.Datum.{Datum}
use Rattle.pg_value.specs.Value.{datum_of}
use Rattle.pg_value.specs.declared.fault.RunFault.{RunFault}
use Rattle.pg_value.specs.declared.value.Value.{Value}
use Rattle.run_moves.proofs.Acts.{acted_as, acted_on, acted_short}
use Rattle.run_moves.proofs.OpExits.{done_landed, failure_of, ok_err, value_landed}
use Rattle.run_moves.specs.Acted.{Acted}
use Rattle.run_moves.specs.Landing.{failing, landing}
use Rattle.run_moves.specs.Quick.{LandsSo, Made, Pushed}
use Rattle.run_moves.specs.declared.flow.End.TheVariants as ends
use Rattle.run_moves.specs.declared.flow.Flow.{Flow}
use Rattle.run_moves.specs.declared.flow.Flow.TheVariants as flows
use Rattle.run_parts.proofs.Operates.{computed_is}
use Rattle.run_parts.specs.Answers.{none_of, one_of}
use Rattle.run_parts.specs.Operations.{IsComputed, computed}
use Rattle.run_world.proofs.Parts.{result_doing}
use Rattle.run_world.specs.Origin.{Origin}
use Rattle.run_world.specs.Part.{Doing}
use Rattle.site_words.specs.Law.{Answer}

-- what was made is pushed
pub pushed_well : (made : Result Value (Failure RunFault)) (value : Value) (stack after : List Datum) → made ≡ Ok value → after ≡ datum_of value ∷ stack → Pushed made stack (Ok tt) after
pushed_well made value stack after is e = subst (λ x. Pushed x stack (Ok tt) after) (sym is) e

pub pushed_short : (made : Result Value (Failure RunFault)) (value : Value) (failed : Failure RunFault) (stack after : List Datum) → made ≡ Ok value → failed ≡ failure.NoMemory → Pushed made stack (Err failed) after
pushed_short made value failed stack after is e = subst (λ x. Pushed x stack (Err failed) after) (sym is) e

pub pushed_not : (made : Result Value (Failure RunFault)) (failed : Failure RunFault) (stack : List Datum) → made ≡ Err failed → Pushed made stack (Err failed) stack
pushed_not made failed stack is = subst (λ x. Pushed x stack (Err failed) stack) (sym is) (refl, refl)

-- where memory ran out for what was made, it ran out for what was done
made_short : (stack after : List Datum) (made : Result Value (Failure RunFault)) (done : Result Unit (Failure RunFault)) → Pushed made stack done after → made ≡ Err failure.NoMemory → done ≡ Err failure.NoMemory
made_short stack after (Ok value) done pushed e = absurd (ok_err value failure.NoMemory e)
made_short stack after (Err failed) (Ok done) pushed e = absurd pushed
made_short stack after (Err failed) (Err this) pushed e = ap Err (pushed.0 ∙ ap failure_of e)

-- what was made of the values that are seen on top was pushed in their place
pub made_of : (this : Op) (before seen after : List Datum) (made : Result Value (Failure RunFault)) (done : Result Unit (Failure RunFault)) → before ≡ seen
    → AnswersAs datum_of (computed this (reverse (take (takes this) seen))) made → Pushed made (drop (takes this) seen) done after → Made this before done after
made_of this before seen after made done e answers pushed = subst (λ xs. Made this xs done after) (sym e) (made, answers, pushed)

-- a value that its coercion leaves as it is stays on top
pub made_stays : (coercion : Coercion) (before rest : List Datum) (value : Value) → before ≡ datum_of value ∷ rest → coerced (coercion_of coercion) (datum_of value) ≡ Ok (datum_of value)
    → Made (ops.Coerce coercion) before (Ok tt) before
made_stays coercion before rest value e stays = subst (λ xs. Made (ops.Coerce coercion) xs (Ok tt) xs) (sym e) (Ok value, stays, refl)

module _ {W : Type 0} {reached : W → Origin → W → State → Type 0} {replies : W → List Answer} where
  -- where it went well the move goes on
  pub led_on : (move : Place → (pc : ℕ) → State → Move) (old mid : W) (o : Open) (done : Unit {0}) (place : Place) (pc : ℕ) → LandsSo reached replies move old mid o (Ok done)
      → Acted reached replies (move place pc) old mid o (flows.Go (pc + 1))
  led_on move old mid o done place pc lands =
      lands.leads place pc mid o (flows.Go (pc + 1)) (acted_on (landing pc place o (Ok None)) mid o (pc + 1) (λ s. refl)) (λ e. absurd (ok_err done failure.NoMemory e))

  -- where it failed the move leads where the failure leads
  pub led_off : (move : Place → (pc : ℕ) → State → Move) (old mid new : W) (o o2 : Open) (failed : Failure RunFault) (flow : Flow) (place : Place) (pc : ℕ) → LandsSo reached replies move old mid o (Err failed)
      → Acted reached replies (failing place o failed) mid new o2 flow → (failed ≡ failure.NoMemory → (flow ≡ flows.Over ends.NoMemory) × (new ≡ mid)) → Acted reached replies (move place pc) old new o2 flow
  led_off move old mid new o o2 failed flow place pc lands acted short = lands.leads place pc new o2 flow acted (λ e. short (ap failure_of e))

  -- what was pushed lands as what was made
  made_landed : (pc : ℕ) (place : Place) (o : Open) (stack after : List Datum) (mid new : W) (made : Result Value (Failure RunFault)) (done : Result Unit (Failure RunFault)) (o2 : Open) (flow : Flow)
      → Pushed made stack done after → Acted reached replies (landing pc place (with_stack after o) (none_of done)) mid new o2 flow
      → (done ≡ Err failure.NoMemory → (flow ≡ flows.Over ends.NoMemory) × (new ≡ mid)) → Acted reached replies (landing pc place (with_stack stack o) (one_of made)) mid new o2 flow
  made_landed pc place o stack after mid new (Ok value) (Ok done) o2 flow pushed acted short =
      acted_as (landing pc place (with_stack stack o) (Ok (Some value))) (landing pc place (with_stack after o) (Ok None)) mid new o2 flow (λ s. ap (λ z. On (Running (pc + 1) s (with_stack z o))) (sym pushed)) acted
  made_landed pc place o stack after mid new (Ok value) (Err failed) o2 flow pushed acted short =
      let e = short (ap Err pushed) in
      subst (λ f. Acted reached replies (landing pc place (with_stack stack o) (Ok (Some value))) mid new o2 f) (sym e.0)
      (subst (λ w. Acted reached replies (landing pc place (with_stack stack o) (Ok (Some value))) mid w o2 (flows.Over ends.NoMemory)) (sym e.1)
      (acted_short (landing pc place (with_stack stack o) (Ok (Some value))) mid o2 (λ s. same s)))
  made_landed pc place o stack after mid new (Err failed) (Ok done) o2 flow pushed acted short = absurd pushed
  made_landed pc place o stack after mid new (Err failed) (Err this) o2 flow pushed acted short =
      subst (λ f. Acted reached replies (failing place (with_stack stack o) f) mid new o2 flow) pushed.0
      (subst (λ z. Acted reached replies (failing place (with_stack z o) this) mid new o2 flow) pushed.1 acted)

  module _ (serving : Serving) (seat : Seat) (o : Open) (op this : Op) (count : ℕ) (ds stack : List Datum) (enough : takes op ≤ length o.stack) (all : count ≡ takes op) (taken : ds ≡ reverse (take count o.stack))
      (rest : stack ≡ drop count o.stack) (is : op ≡ this) where
    -- an operation that leaves no value
    pub done_lands : {part : Place → State → Did} (old mid : W) (done : Result Unit (Failure RunFault)) → ((at : Place) (s : State) → operation serving seat at this ds s ≡ leaving_none (part at s))
        → Doing reached replies (λ u. u) part old mid done → LandsSo reached replies (λ place pc s. act serving seat place pc s o (instr.Op op)) old mid (with_stack stack o) done
    done_lands old mid done same does = record {
      leads = λ place pc new o2 flow acted short. done_landed serving seat place pc o op this count ds stack enough all taken rest is old mid new done o2 flow same does acted short;
    }

    -- one that leaves its value
    pub value_lands : {part : Place → State → Went Datum} (old mid : W) (made : Result Value (Failure RunFault)) (done : Result Unit (Failure RunFault)) (after : List Datum)
        → ((at : Place) (s : State) → operation serving seat at this ds s ≡ leaving_one (part at s)) → Doing reached replies datum_of part old mid made → Pushed made stack done after
        → LandsSo reached replies (λ place pc s. act serving seat place pc s o (instr.Op op)) old mid (with_stack after o) done
    value_lands old mid made done after same does pushed = record {
      leads = λ place pc new o2 flow acted short.
          value_landed serving seat place pc o op this count ds stack enough all taken rest is old mid new made o2 flow same does (made_landed pc place o stack after mid new made done o2 flow pushed acted short)
          (λ e. short (made_short stack after made done pushed e));
    }

  -- one that makes it of values alone
  pub made_lands : (serving : Serving) (seat : Seat) (o : Open) (op this : Op) (w : W) (done : Result Unit (Failure RunFault)) (after : List Datum) → op ≡ this → IsComputed this → takes op ≤ length o.stack
      → Made this o.stack done after → LandsSo reached replies (λ place pc s. act serving seat place pc s o (instr.Op op)) w w (with_stack after o) done
  made_lands serving seat o op this w done after is alone enough made =
      let ds = reverse (take (takes this) o.stack) in
      value_lands serving seat o op this (takes this) ds (drop (takes this) o.stack) enough (sym (ap takes is)) refl refl is w w made.0 done after (λ place s. computed_is serving seat place this ds s alone)
      (result_doing w (computed this ds) made.0 made.1) made.2

  -- an operation that is this one
  pub lands_as : (serving : Serving) (seat : Seat) (o : Open) (op this : Op) (old mid : W) (o2 : Open) (done : Result Unit (Failure RunFault)) → op ≡ this
      → LandsSo reached replies (λ place pc s. act serving seat place pc s o (instr.Op this)) old mid o2 done → LandsSo reached replies (λ place pc s. act serving seat place pc s o (instr.Op op)) old mid o2 done
  lands_as serving seat o op this old mid o2 done is lands = subst (λ x. LandsSo reached replies (λ place pc s. act serving seat place pc s o (instr.Op x)) old mid o2 done) (sym is) lands
