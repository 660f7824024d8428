use Rattle.std.proofs.Common.{subst}
use Rattle.site_words.specs.declared.words.Op.TheVariants as op
use Rattle.site_words.specs.Calls.{Acts}
use Rattle.site_core.proofs.CallLemmas.{can_name, names}
use Rattle.site_core.proofs.ReplyLemmas.{fresh_reply}
use Rattle.site_core.proofs.acting.ActingPort.fresh.Goals as goal

pub fresh-requires : goal.fresh-requires
fresh-requires g c = can_name g.P.Compiled.needs g.P.Compiled.made (g.A.Actor.opening c.args.self.now.actor) (g.A.Actor.pass c.args.self.now.actor) (g.A.Actor.seen c.args.self.now.actor) (g.A.Actor.seen c.ask.new.self.actor) c.args.request c.in-Did.given c.in-Did.ensures.answer

pub returns-in-Did-clause-call : goal.returns-in-Did-clause-call
returns-in-Did-clause-call g c =
    subst (λ r. Acts g.P.Compiled.needs (g.A.Actor.opening c.args.self.now.actor) (g.A.Actor.pass c.args.self.now.actor) (g.A.Actor.seen c.args.self.now.actor) (g.A.Actor.seen c.ask.new.self.actor) (op.Fresh c.args.request) r) (fresh_reply c.in-Did.given.reply c.in-Did.given.gift c.fresh.result c.fresh.ensures) c.in-Did.ensures.call

pub returns-in-Did-clause-named : goal.returns-in-Did-clause-named
returns-in-Did-clause-named g c = names g.P.Compiled.needs g.P.Compiled.made (g.A.Actor.opening c.args.self.now.actor) (g.A.Actor.pass c.args.self.now.actor) (g.A.Actor.seen c.args.self.now.actor) (g.A.Actor.seen c.ask.new.self.actor) c.args.request c.in-Did.given c.fresh.result c.in-Did.ensures.answer c.fresh.ensures
