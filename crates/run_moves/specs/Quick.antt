-- Frequent operations, which are done in place, for proofs alone.
use Rattle.std.specs.Prelude.{◌≡◌, ℕ, Bool, true, false, List, ◌∷◌, Result, Ok, Err, ⊤, drop, reverse, take}
use Rattle.page_code.specs.Ops.{takes}
use Rattle.page_code.specs.declared.op.Op.{Op}
use Rattle.page_code.specs.declared.op.Op.TheVariants as op
use Rattle.page_meaning.specs.State.{State}
use Rattle.page_table.specs.Move.{Move}
use Rattle.page_table.specs.Open.{Open}
use Rattle.pg_text.specs.Failure.{AnswersAs}
use Rattle.pg_text.specs.declared.failure.Failure.{Failure}
use Rattle.pg_text.specs.declared.failure.Failure.TheVariants as failure
use Rattle.pg_text.specs.declared.place.Place.{Place}
use Rattle.pg_value.specs.Datum.{Datum}
use Rattle.pg_value.specs.Value.{datum_of}
use Rattle.pg_value.specs.declared.fault.RunFault.{RunFault}
use Rattle.pg_value.specs.declared.value.Value.{Value}
use Rattle.run_moves.specs.Acted.{Acted}
use Rattle.run_moves.specs.Landing.{landing}
use Rattle.run_moves.specs.declared.flow.End.TheVariants as ends
use Rattle.run_moves.specs.declared.flow.Flow.{Flow}
use Rattle.run_moves.specs.declared.flow.Flow.TheVariants as flows
use Rattle.run_parts.specs.Answers.{none_of}
use Rattle.run_parts.specs.Operations.{computed}
use Rattle.run_world.specs.Origin.{Origin}
use Rattle.site_words.specs.Law.{Answer}

-- whether an operation is a frequent one
abbrev pub is_quick : Op → Bool
is_quick (op.Write t) = true
is_quick op.Put = true
is_quick op.PutEscaped = true
is_quick (op.Visit n) = true
is_quick (op.Const v) = true
is_quick (op.Find name) = true
is_quick op.Index = true
is_quick (op.Unary o) = true
is_quick (op.Binary o) = true
is_quick (op.Coerce c) = true
is_quick other = false

-- what was made is pushed, and where it failed nothing is; where memory ran out while it was
-- pushed, no more is said
abbrev pub Pushed : Result Value (Failure RunFault) → List Datum → Result ⊤ (Failure RunFault) → List Datum → Type 0
Pushed (Ok value) stack (Ok done) after = after ≡ datum_of value ∷ stack
Pushed (Ok value) stack (Err failed) after = failed ≡ failure.NoMemory
Pushed (Err failed) stack (Ok done) after = ⊥
Pushed (Err failed) stack (Err this) after = (this ≡ failed) × (after ≡ stack)

-- what an operation makes of the values that it takes was pushed in their place
abbrev pub Made : Op → List Datum → Result ⊤ (Failure RunFault) → List Datum → Type 0
Made this before done after =
    (made : Result Value (Failure RunFault)) × AnswersAs datum_of (computed this (reverse (take (takes this) before))) made × Pushed made (drop (takes this) before) done after

-- a part of a move was done so that where its landing leads, at whatever place, the move leads
pub record LandsSo {W : Type 0} (reached : W → Origin → W → State → Type 0) (replies : W → List Answer) (move : Place → (pc : ℕ) → State → Move) (old mid : W) (o : Open)
    (done : Result ⊤ (Failure RunFault)) : Type 0 where
  pub leads : (place : Place) (pc : ℕ) (new : W) (o2 : Open) (flow : Flow) → Acted reached replies (landing pc place o (none_of done)) mid new o2 flow
      → (done ≡ Err failure.NoMemory → (flow ≡ flows.Over ends.NoMemory) × (new ≡ mid)) → Acted reached replies (move place pc) old new o2 flow
