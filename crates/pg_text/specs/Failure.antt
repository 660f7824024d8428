-- What a call answers for which memory may run out.
use Rattle.std.specs.Prelude.{◌≡◌, Result, Ok, Err, ⊤}
use Rattle.pg_text.specs.declared.failure.Failure.{Failure}
use Rattle.pg_text.specs.declared.failure.Failure.TheVariants as failure

-- the answer, seen by this view, is the expected one, unless memory ran out
abbrev pub AnswersAs : {A : Type 0} {B : Type 0} {E : Type 0} → (A → B) → Result B E → Result A (Failure E) → Type 0
AnswersAs view expected (Ok x) = expected ≡ Ok (view x)
AnswersAs view expected (Err (failure.Fault fault)) = expected ≡ Err fault
AnswersAs view expected (Err failure.NoMemory) = ⊤

-- the answer is the expected one, unless memory ran out
abbrev pub Answers : {A : Type 0} {E : Type 0} → Result A E → Result A (Failure E) → Type 0
Answers expected result = AnswersAs (λ x. x) expected result
