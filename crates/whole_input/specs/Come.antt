-- What comes from a source that is read up to a limit.
use Rattle.std.specs.Prelude.{◌≡◌, ◌≤◌, ℕ, List, ◌++◌, length, Option, Result, Ok, Err, ⊤}
use Rattle.std.specs.Io.KnownBytes.{Consumes, IsAtEnd}
use Rattle.pg_text.specs.declared.failure.Failure.{Failure}
use Rattle.pg_text.specs.declared.failure.Failure.TheVariants as failure

-- these bytes came: all that there were, or more than there may be
pub record HasCome (most : ℕ) (left later : Option (List ℕ)) (came : List ℕ) : Type 0 where
  pub consumed : Consumes left later came
  pub whole : length came ≤ most → IsAtEnd later

-- a piece came from the source, and stands behind the bytes that were there
pub record Grows (left later : Option (List ℕ)) (old new : List ℕ) : Type 0 where
  pub piece : List ℕ
  pub consumed : Consumes left later piece
  pub grown : new ≡ old ++ piece

-- where the answer is a fault, this holds
abbrev pub IfFailed : {A E : Type 0} → Result A (Failure E) → Type 0 → Type 0
IfFailed (Err (failure.Fault fault)) P = P
IfFailed (Err failure.NoMemory) P = ⊤
IfFailed (Ok x) P = ⊤
