use Rattle.std.proofs.Common.{◌≡◌, take}
use Rattle.translator.proofs.translating.copy_stamps.Given as goal

abbrev pub invariant-loop-need : goal.invariant-loop-need
invariant-loop-need l = l.stamps ≡ take l.need-index l.needs
