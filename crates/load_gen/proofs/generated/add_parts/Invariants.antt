use Rattle.std.proofs.Common.{◌≡◌, ◌++◌, map}
use Rattle.std.specs.List.{range_with_len}
use Rattle.load_gen.specs.Messages.{first_part, sent}
use Rattle.load_gen.proofs.generated.add_parts.Given as goal

abbrev pub invariant-loop-part : goal.invariant-loop-part
invariant-loop-part l = l.bytes.items ≡ l.initial.bytes.items ++ sent (map first_part (range_with_len 0 l.part))
