-- Open loops, in the words of the table.
use Rattle.std.specs.Prelude.{List, [], ◌∷◌}
use Rattle.run_moves.specs.declared.loops.Loop as machine_loop
use Rattle.run_values.specs.Rounds.{behind_round}
use Rattle.page_table.specs.Open.{Loop}

-- an open loop
abbrev pub loop_of : machine_loop.Loop → Loop
loop_of l = record { variable = l.variable; status = l.status; values = l.statuses; rounds = l.rounds }

-- the innermost loop without its next round
abbrev pub advanced : List Loop → List Loop
advanced [] = []
advanced (l ∷ outer) = record l { rounds = behind_round l.rounds } ∷ outer
