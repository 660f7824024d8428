-- The loop that values open, in the words of the table.
use Rattle.std.specs.Prelude.{Result, Ok}
use Rattle.jstl_functions.specs.Functions.{and_then}
use Rattle.page_code.specs.declared.operands.LoopKind.{LoopKind}
use Rattle.page_meaning.specs.Attributes.{Values}
use Rattle.page_table.specs.LoopMoves.{loop_rounds}
use Rattle.page_table.specs.Open.{Loop}
use Rattle.pg_value.specs.declared.fault.RunFault.{RunFault}

-- the loop that values open, under their names: X7, X8
abbrev pub loop_answer : LoopKind → Values → Result Loop RunFault
loop_answer kind vs = and_then (loop_rounds kind.over vs) (λ rounds. Ok (record { variable = kind.variable; status = kind.status; values = vs; rounds = rounds }))
