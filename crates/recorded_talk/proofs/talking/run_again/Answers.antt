use Rattle.std.proofs.Common.{◌∙◌, ap, refl}
use Rattle.compiled_pages.specs.Pages.{needs_at}
use Rattle.edges.specs.Memory.{Catch, Feed}
use Rattle.recorded_talk.proofs.Talks.{idle_at_start, ran, reran, rests_at_start}
use Rattle.site_core.specs.Lived.{Lived}
use Rattle.recorded_talk.proofs.talking.run_again.Goals as goal

pub solo-port-requires : goal.solo-port-requires
solo-port-requires g c = rests_at_start c.args.site.opening c.args.site.history c.requires.new

pub talk-ended-requires : goal.talk-ended-requires
talk-ended-requires g c = record { idle = idle_at_start c.args.site _ c.solo-port.ensures c.requires.one c.requires.new }

pub returns : goal.returns
returns g c =
    reran needs_at c.args.site.opening c.args.bytes.items c.args.moments.items _ c.talk-ended.result _ (ap (λ (l : Lived). l.history) c.into_site.ensures) c.in_ok-number.ensures
    (ran needs_at c.args.site.opening c.args.site _ _ c.args.bytes.items _ c.args.moments.items c.new-clock.result c.talk-ended.new.clock _ c.talk-ended.new.sink.taken c.talk-ended.ensures.talk.0 _ _ _ _ _ c.talk-ended.result
    refl c.requires.new c.solo-port.ensures (ap (λ (f : Feed). f.rest) c.new-source.ensures) (c.new-clock.ensures ∙ c.in_ok-with_two.ensures.moments) (ap (λ (k : Catch). k.taken) c.new-sink.ensures) c.unseen-steps.ensures
    c.in_ok-number.ensures.0 c.talk-ended.ensures.talk.1)
