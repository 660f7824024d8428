use Rattle.source_tree.proofs.RisingLemmas.{RiseUpTo}
use Rattle.source_tree.proofs.place.are_rising.Given as goal

-- the files before this index are in order
abbrev pub invariant-loop-at : goal.invariant-loop-at
invariant-loop-at l = RiseUpTo l.at l.files
