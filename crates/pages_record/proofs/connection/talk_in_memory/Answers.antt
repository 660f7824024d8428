use Rattle.std.proofs.Common.{sym, ap, ◌∙◌}
use Rattle.edges.specs.Clock.{Moments}
use Rattle.edges.specs.Memory.{Catch, Feed}
use Rattle.pages_record.proofs.Chain.{idle_before, rests_at_start, rests_behind, talked}
use Rattle.pages_record.proofs.connection.talk_in_memory.Goals as goal

pub solo-port-requires : goal.solo-port-requires
solo-port-requires g c = rests_at_start c.args.site.opening c.args.site.history c.requires.new

pub talk-ended-requires : goal.talk-ended-requires
talk-ended-requires g c = record { idle = idle_before c.args.site _ c.solo-port.ensures c.requires.one c.requires.new }

pub returns-clause-rest : goal.returns-clause-rest
returns-clause-rest g c = rests_behind c.args.site _ _ c.into_site.result c.requires.one c.solo-port.ensures c.talk-ended.ensures.same.1 c.into_site.ensures c.talk-ended.ensures.grown

pub returns-clause-talked : goal.returns-clause-talked
returns-clause-talked g c =
    talked c.args.site _ _ c.into_site.result _ c.new-noted.result c.talk-ended.new.clock c.talk-ended.ensures.talk.0 _ _ _ _ _ _ _ _ c.talk-ended.result c.requires.new c.solo-port.ensures c.talk-ended.ensures.same.1 c.into_site.ensures
    (ap (λ (m : Moments). m.noted) c.new-noted.ensures) c.in_ok-moments_of.ensures (sym c.end_number.ensures ∙ c.in-Some.is)
    (ap (λ (f : Feed). f.rest) c.new-source.ensures ∙ c.in_ok-from_slice.ensures.items ∙ sym c.in_ok-copy_of.ensures) (ap (λ (k : Catch). k.taken) c.new-sink.ensures)
    (sym (c.in_ok-copy_of-2.ensures ∙ c.taken.ensures)) c.talk-ended.ensures.talk.1
