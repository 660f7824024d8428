use Rattle.std.proofs.Common.{◌≡◌, ◌++◌, map, drop}
use Rattle.unit_words.specs.Build.{parts_of}
use Rattle.unit_nodes.specs.Views.{part_of}
use Rattle.unit_build.proofs.nodes.parts_of.Given as goal

abbrev pub invariant-loop-part : goal.invariant-loop-part
invariant-loop-part l = map part_of l.parts ++ parts_of (drop l.part-index l.written) ≡ parts_of l.written
