use Rattle.std.proofs.Common.{◌∙◌, ◌<◌, ◌∷◌, ◌++◌, [], length, ap, arith}
use Rattle.jstl_tags.specs.ReadParts.{part_names_of}
use Rattle.jstl_tags.proofs.PartLemmas.{names_more}
use Rattle.jstl_tags.proofs.standings.Standings.new.Goals as goal

pub loop-thing-preserved : goal.loop-thing-preserved
loop-thing-preserved c =
    let things = c.deref-thing-items.result.now in
    let thing = c.thing-item.result in
    let i = c.loop-thing.thing-index in
    let within : i < length things = grind arith in
    record {
      names = c.in_ok-twice.ensures.names ∙ (ap (λ names. names ++ part_names_of (thing ∷ [])) c.loop-thing.invariant.names ∙ names_more things i thing within c.thing-item.is);
      twice = c.in_ok-twice.ensures.twice c.loop-thing.invariant.twice;
    }
