-- Where what an instruction made leads, for proofs alone.
use Rattle.std.specs.Prelude.{ℕ, ◌+◌, ◌++◌, Option, Result, Ok, Err}
use Rattle.run_parts.specs.Answers.{left_by}
use Rattle.page_meaning.specs.State.{State}
use Rattle.page_table.specs.Landing.{Running, thrown}
use Rattle.page_table.specs.Move.{Move, On, Stuck}
use Rattle.page_table.specs.Open.{Open}
use Rattle.pg_text.specs.declared.failure.Failure.{Failure}
use Rattle.pg_text.specs.declared.failure.Failure.TheVariants as failure
use Rattle.pg_text.specs.declared.place.Place.{Place}
use Rattle.pg_value.specs.declared.fault.RunFault.{RunFault}
use Rattle.pg_value.specs.declared.value.Value.{Value}

-- where a fault leads; where memory ran out nothing is said
abbrev pub failing : Place → Open → Failure RunFault → State → Move
failing place o (failure.Fault fault) s = On (thrown fault place s o)
failing place o failure.NoMemory s = Stuck

-- on behind the instruction with what was made, or where it failed
abbrev pub landing : (pc : ℕ) → Place → Open → Result (Option Value) (Failure RunFault) → State → Move
landing pc place o (Ok made) s = On (Running (pc + 1) s (record o { stack = left_by made ++ o.stack }))
landing pc place o (Err failure) s = failing place o failure s
