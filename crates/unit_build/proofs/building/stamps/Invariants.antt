use Rattle.std.proofs.Common.{◌≡◌, take}
use Rattle.unit_words.specs.Needs.{needs_of}
use Rattle.unit_build.proofs.building.stamps.Given as goal

abbrev pub invariant-loop-name : goal.invariant-loop-name
invariant-loop-name l = l.stamps ≡ needs_of l.tree (take l.name-index l.names)
