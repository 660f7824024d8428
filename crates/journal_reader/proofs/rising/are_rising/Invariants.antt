use Rattle.std.proofs.Common.{map}
use Rattle.journal_reader.proofs.RisingLemmas.{RiseUpTo}
use Rattle.journal_reader.proofs.rising.are_rising.Given as goal

-- the keys before this index rise
abbrev pub invariant-loop-at : goal.invariant-loop-at
invariant-loop-at g l = RiseUpTo l.at (map g.T.Keyed.key l.items)
