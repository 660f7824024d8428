use Rattle.edges.proofs.ToldBytes.{appends_none}
use Rattle.pages_record.proofs.Chain.{breaks_off, goes_on, is_silent}
use Rattle.pages_record.proofs.recording.record_one.Goals as goal

pub returns-in_default-clause-comes : goal.returns-in_default-clause-comes
returns-in_default-clause-comes g c = appends_none (g.K.Sink.taken c.args.sink.now)

pub returns-in-Done-clause-comes : goal.returns-in-Done-clause-comes
returns-in-Done-clause-comes g c =
    goes_on c.args.site.opening c.in-Ok.site c.in-Done.next c.in-Ok.talk _ _ _ _ _ c.in-Ok.ensures.opening c.requires.one c.in-Ok.ensures.bytes c.in-Ok.ensures.talked c.in-Done.ensures.rolls

pub returns-in-WriteFault-clause-comes : goal.returns-in-WriteFault-clause-comes
returns-in-WriteFault-clause-comes g c =
    breaks_off c.args.site.opening c.in-Ok.site _ c.in-Ok.talk _ _ _ _ _ _ _ c.in-Ok.ensures.opening c.in-Ok.ensures.bytes c.in-Ok.ensures.talked c.in-WriteFault.ensures.rolls

pub returns-in-Spent-clause-comes : goal.returns-in-Spent-clause-comes
returns-in-Spent-clause-comes g c = is_silent _ _ _ _ c.in-Spent.ensures.rolls.0

pub returns-clause-comes : goal.returns-clause-comes
returns-clause-comes g c = is_silent _ _ _ _ c.in-NoMemory.ensures.rolls
