use Rattle.std.proofs.Common.{subst}
use Rattle.site_words.specs.declared.words.Op.TheVariants as op
use Rattle.site_words.specs.declared.words.Reply.TheVariants as reply
use Rattle.site_words.specs.Calls.{Acts}
use Rattle.site_core.proofs.PictureLemmas.{can_show, shows}
use Rattle.site_core.proofs.ReplyLemmas.{snapped_reply}
use Rattle.site_core.proofs.acting.ActingPort.snapshot.Goals as goal

pub snapped-requires : goal.snapped-requires
snapped-requires g c = can_show g.P.Compiled.needs g.P.Compiled.made (g.A.Actor.opening c.args.self.now.actor) (g.A.Actor.pass c.args.self.now.actor) (g.A.Actor.seen c.args.self.now.actor) (g.A.Actor.seen c.ask.new.self.actor) c.in-Ok.cookie c.in-Did.given c.in-Did.ensures.answer

pub returns-in-Did-clause-call : goal.returns-in-Did-clause-call
returns-in-Did-clause-call g c =
    subst (λ k. Acts g.P.Compiled.needs (g.A.Actor.opening c.args.self.now.actor) (g.A.Actor.pass c.args.self.now.actor) (g.A.Actor.seen c.args.self.now.actor) (g.A.Actor.seen c.ask.new.self.actor) (op.Snapshot k) (reply.Snapped c.snapped.result.version c.snapped.result.session)) c.in-Ok.ensures
    (subst (λ r. Acts g.P.Compiled.needs (g.A.Actor.opening c.args.self.now.actor) (g.A.Actor.pass c.args.self.now.actor) (g.A.Actor.seen c.args.self.now.actor) (g.A.Actor.seen c.ask.new.self.actor) (op.Snapshot c.in-Ok.cookie) r) (snapped_reply c.in-Did.given.reply c.in-Did.given.gift c.snapped.result c.snapped.ensures) c.in-Did.ensures.call)

pub returns-in-Did-clause-shows : goal.returns-in-Did-clause-shows
returns-in-Did-clause-shows g c = shows g.P.Compiled.needs g.P.Compiled.made (g.A.Actor.opening c.args.self.now.actor) (g.A.Actor.pass c.args.self.now.actor) (g.A.Actor.seen c.args.self.now.actor) (g.A.Actor.seen c.ask.new.self.actor) c.in-Ok.cookie c.in-Did.given c.snapped.result c.in-Did.ensures.answer c.snapped.ensures
