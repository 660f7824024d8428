-- Answers that may be a fault, or that memory ran out.
use Rattle.std.specs.Prelude.{Result, Ok, Err, ⊤}
use Rattle.pg_text.specs.declared.failure.Failure.{Failure}
use Rattle.pg_text.specs.declared.failure.Failure.TheVariants as failure

-- where the answer is a fault, the fault has P
abbrev pub IfFault : {A : Type 0} {E : Type 0} → Result A (Failure E) → (E → Type 0) → Type 0
IfFault (Err (failure.Fault fault)) P = P fault
IfFault (Err failure.NoMemory) P = ⊤
IfFault (Ok x) P = ⊤
