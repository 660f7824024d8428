use Rattle.std.proofs.Common.{◌≡◌, map, take}
use Rattle.unit_words.specs.Build.{given_of as made_of}
use Rattle.unit_nodes.specs.Views.{given_of}
use Rattle.unit_build.proofs.nodes.attributes_of.Given as goal

abbrev pub invariant-loop-attribute : goal.invariant-loop-attribute
invariant-loop-attribute l = map given_of l.attributes ≡ map made_of (take l.attribute-index l.written)
