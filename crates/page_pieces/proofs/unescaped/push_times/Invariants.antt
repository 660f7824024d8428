use Rattle.std.proofs.Common.{◌≡◌, ◌++◌}
use Rattle.std.specs.Prelude.{replicate}
use Rattle.page_pieces.proofs.unescaped.push_times.Given as goal

abbrev pub invariant-loop-time : goal.invariant-loop-time
invariant-loop-time l = l.flags.items ≡ l.fn.flags.items ++ replicate l._time l.flag
