use Rattle.std.proofs.Common.{◌≡◌, ◌++◌, map}
use Rattle.std.specs.List.{range_with_len}
use Rattle.load_gen.specs.Messages.{asked, sent}
use Rattle.load_gen.proofs.generated.add_asked.Given as goal

abbrev pub invariant-loop-turn : goal.invariant-loop-turn
invariant-loop-turn l = l.bytes.items ≡ l.initial.bytes.items ++ sent (map (asked l.number l.change) (range_with_len 0 l.turn))
