use Rattle.std.proofs.Common.{◌≡◌, ◌++◌, drop, map, string_bytes}
use Rattle.unit_meaning.specs.Named.{plain_text}
use Rattle.unit_nodes.specs.Views.{part_of}
use Rattle.act_reader.proofs.named.joined_text.Given as goal

abbrev pub invariant-loop-part : goal.invariant-loop-part
invariant-loop-part l = string_bytes l.joined ++ plain_text (map part_of (drop l.part-index l.parts)) ≡ plain_text (map part_of l.parts)
