-- The loop that values open, as an answer.
use Rattle.std.proofs.Common.{◌≡◌, ℕ, List, Option, Result, Ok, Err, sym, ap, ◌∙◌, subst}
use Rattle.std.specs.Prelude.{IsErrAnd}
use Rattle.jstl_functions.specs.Functions.{and_then}
use Rattle.page_code.specs.declared.operands.LoopKind.{LoopKind}
use Rattle.page_meaning.specs.Attributes.{Values}
use Rattle.page_meaning.specs.Rounds.{Round}
use Rattle.page_table.specs.LoopMoves.{loop_rounds}
use Rattle.page_table.specs.Open.{Loop}
use Rattle.pg_text.specs.Failure.{AnswersAs}
use Rattle.pg_text.specs.declared.failure.Failure.{Failure}
use Rattle.pg_text.specs.declared.failure.Failure.TheVariants as failure
use Rattle.pg_value.specs.declared.fault.RunFault.{RunFault}
use Rattle.run_moves.specs.Rounds.{loop_answer}

-- the exit of a `?`
pub answers_err : {A B : Type 0} (view : A → B) (expected : Result B RunFault) (answer : Result A (Failure RunFault)) (e : Failure RunFault) → IsErrAnd answer (λ f. f ≡ e) → AnswersAs view expected (Err e)
    → AnswersAs view expected answer
answers_err view expected (Ok a) e is answers = absurd is
answers_err view expected (Err f) e is answers = subst (λ f. AnswersAs view expected (Err f)) (sym is) answers

pub answers_short : {A B : Type 0} (view : A → B) (expected : Result B RunFault) (answer : Result A (Failure RunFault)) → IsErrAnd answer (λ f. f ≡ failure.NoMemory) → AnswersAs view expected answer
answers_short view expected answer is = answers_err view expected answer failure.NoMemory is tt

module _ (kind : LoopKind) (vs table : Values) (same : table ≡ vs) where
  abbrev loop_with : Option (List ℕ) → Option (List ℕ) → List Round → Loop
  loop_with variable status rounds = record { variable = variable; status = status; values = table; rounds = rounds }

  pub loop_made : (variable status : Option (List ℕ)) (rounds : List Round) → loop_rounds kind.over table ≡ Ok rounds → variable ≡ kind.variable → status ≡ kind.status
      → loop_answer kind vs ≡ Ok (loop_with variable status rounds)
  loop_made variable status rounds e v t =
      ap (loop_answer kind) (sym same)
      ∙ ap (λ r. and_then r (λ rounds. Ok (loop_with kind.variable kind.status rounds))) e
      ∙ ap (λ x. Ok (loop_with x kind.status rounds)) (sym v)
      ∙ ap (λ x. Ok (loop_with variable x rounds)) (sym t)

  pub loop_unmade : {A B : Type 0} (seen : A → List Round) (view : B → Loop) (e : Failure RunFault) → AnswersAs seen (loop_rounds kind.over table) (Err e) → AnswersAs view (loop_answer kind vs) (Err e)
  loop_unmade seen view (failure.Fault f) answers = ap (loop_answer kind) (sym same) ∙ ap (λ r. and_then r (λ rounds. Ok (loop_with kind.variable kind.status rounds))) answers
  loop_unmade seen view failure.NoMemory answers = tt
