use Rattle.std.proofs.Common.{ℕ, List, length}
use Rattle.connection_list.specs.List.{BeginsWith}
use Rattle.connection_list.proofs.list.is_list.Given as goal

-- the rest stands behind the first connections
abbrev pub invariant-connections : goal.invariant-connections
invariant-connections l = (front : List (List ℕ)) × BeginsWith l.input front l.rest

abbrev pub decreases-connections : goal.decreases-connections
decreases-connections l = length l.rest
