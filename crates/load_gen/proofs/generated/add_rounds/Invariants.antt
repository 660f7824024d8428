use Rattle.std.proofs.Common.{◌≡◌, ◌++◌}
use Rattle.load_gen.specs.Messages.{rounds, sent}
use Rattle.load_gen.proofs.generated.add_rounds.Given as goal

abbrev pub invariant-loop-change : goal.invariant-loop-change
invariant-loop-change l = l.bytes.items ≡ l.initial.bytes.items ++ sent (rounds l.number l.change)
