use Rattle.std.proofs.Common.{take}
use Rattle.unit_words.specs.State.{needed}
use Rattle.unit_build.specs.ReadFound.{IsMet}
use Rattle.unit_build.proofs.found.Found.need_all.Given as goal

abbrev pub invariant-loop-name : goal.invariant-loop-name
invariant-loop-name l = IsMet l.fn.self l.self (needed (take l.name-index l.names))
