use Rattle.std.proofs.Common.{◌≡◌, ◌<◌, ◌^◌, true, length, ap, subst, sym, ◌∙◌}
use Rattle.site_words.specs.Opening.{is_sound}
use Rattle.rollover.proofs.Rolls.{comes_to_new, comes_to_nothing, comes_to_old, is_spent_behind, next_is_sound}
use Rattle.rollover.specs.Roll.{is_spent}
use Rattle.rollover.proofs.rolling.roll.Goals as goal

pub returns-in_default-clause-rolls : goal.returns-in_default-clause-rolls
returns-in_default-clause-rolls g c = comes_to_nothing c.args.site (g.K.Sink.taken c.args.sink.now)

pub returns-then-is_spent-clause-rolls : goal.returns-then-is_spent-clause-rolls
returns-then-is_spent-clause-rolls g c = (comes_to_nothing c.args.site (g.K.Sink.taken c.args.sink.now), is_spent_behind g.P.Compiled.needs c.args.site c.in-Ok.opening c.in-Ok.ensures (sym c.is_spent.ensures ∙ c.if-is_spent.true))

pub resume-requires : goal.resume-requires
resume-requires g c =
    let room = ap is_spent (sym c.in-Ok.ensures) ∙ sym c.is_spent.ensures ∙ c.if-is_spent.false in
    subst (λ x. is_sound x ≡ true) (sym c.in-Ok.ensures) (next_is_sound c.rollover.ensures.sound g.P.Compiled.needs c.args.site c.law.ensures.sound c.law.ensures.legal room)

pub returns-in_default-resume-clause-rolls : goal.returns-in_default-resume-clause-rolls
returns-in_default-resume-clause-rolls g c = comes_to_nothing c.args.site (g.K.Sink.taken c.args.sink.now)

pub write_journal-requires : goal.write_journal-requires
write_journal-requires g c = subst (λ h. length h < 2 ^ 63) (sym c.history.ensures) c.law.ensures.short

pub returns-in-Err-clause-rolls : goal.returns-in-Err-clause-rolls
returns-in-Err-clause-rolls g c =
    comes_to_old g.P.Compiled.needs c.args.site c.in-Ok.opening _ _ _ _ _ c.law.ensures.sound c.law.ensures.legal c.requires c.in-Ok.ensures (sym c.is_spent.ensures ∙ c.if-is_spent.false)
    (rw (c.opening.ensures, c.history.ensures) at c.in-Err.ensures.sent) (rw (c.opening.ensures, c.history.ensures) at c.write_journal.ensures.can_be) c.in-Err.ensures.rose

pub returns-in-Ok-write_journal-clause-rolls : goal.returns-in-Ok-write_journal-clause-rolls
returns-in-Ok-write_journal-clause-rolls g c =
    comes_to_new c.rollover.ensures.one g.P.Compiled.needs c.args.site c.in-Ok-resume.next c.in-Ok.opening _ _ _ c.law.ensures.sound c.law.ensures.legal c.requires c.in-Ok.ensures (sym c.is_spent.ensures ∙ c.if-is_spent.false)
    c.in-Ok-resume.ensures.0 c.in-Ok-resume.ensures.1 (rw (c.opening.ensures, c.history.ensures) at c.in-Ok-write_journal.ensures.sent)
    (rw (c.opening.ensures, c.history.ensures) at c.write_journal.ensures.can_be)
