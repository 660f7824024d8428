use Rattle.std.proofs.Common.{take}
use Rattle.page_pieces.specs.ReadFirsts.{HasFirsts}
use Rattle.page_pieces.proofs.firsts.firsts_of.Given as goal

abbrev pub invariant-loop-i : goal.invariant-loop-i
invariant-loop-i l = HasFirsts l.firsts (take l.i l.attributes)
