use Rattle.std.proofs.Common.{◌≡◌, ◌++◌, drop}
use Rattle.page_pieces.specs.Settings.{brought_at}
use Rattle.page_pieces.proofs.brought.Brought.register.Given as goal

abbrev pub invariant-loop-bringing : goal.invariant-loop-bringing
invariant-loop-bringing l = l.prefixes ++ brought_at l.byte (drop l.bringing-index l.bringing-items) ≡ l.fn.prefixes ++ brought_at l.byte l.self
