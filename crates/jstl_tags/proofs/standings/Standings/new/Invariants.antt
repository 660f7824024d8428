use Rattle.std.proofs.Common.{◌≡◌, take}
use Rattle.jstl_tags.specs.Check.{repeats}
use Rattle.jstl_tags.specs.ReadParts.{part_names_of}
use Rattle.jstl_tags.proofs.standings.Standings.new.Given as goal

abbrev pub invariant-loop-thing : goal.invariant-loop-thing
invariant-loop-thing l = record {
  names : l.names ≡ part_names_of (take l.thing-index l.thing-items);
  twice : l.twice ≡ repeats l.names;
}
