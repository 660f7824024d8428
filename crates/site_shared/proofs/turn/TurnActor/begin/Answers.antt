use Rattle.site_words.specs.declared.words.Op.TheVariants as op
use Rattle.site_shared.proofs.Waiting.{answered_then}
use Rattle.site_shared.proofs.turn.TurnActor.begin.Goals as goal

pub returns-then-not-is_busy-clause-answer : goal.returns-then-not-is_busy-clause-answer
returns-then-not-is_busy-clause-answer g c =
    answered_then g.P.Compiled.needs g.P.Compiled.made c.args.self.now.site.now.opening c.loop-try.self.site.now.opening c.args.self.now.pass.number c.loop-try.self.pass.number
    c.args.self.now.pass.seen c.loop-try.self.pass.seen c.ask_begin-answer.new.self.pass.seen (op.Begin c.args.cookie.now c.args.moment) c.ask_begin-answer.result
    c.loop-try.invariant.same.1 c.loop-try.invariant.same.0 c.loop-try.invariant.stays c.ask_begin-answer.ensures.answer
