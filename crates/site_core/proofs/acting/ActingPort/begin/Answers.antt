use Rattle.std.proofs.Common.{subst}
use Rattle.edges.specs.declared.acted.Acted.TheVariants.{Did}
use Rattle.site_words.specs.declared.words.Op.TheVariants as op
use Rattle.site_words.specs.Calls.{Acts}
use Rattle.site_core.proofs.CallLemmas.{begins, calls_of, can_begin}
use Rattle.site_core.proofs.ReplyLemmas.{begun_reply}
use Rattle.site_core.proofs.acting.ActingPort.begin.Goals as goal

pub begun-requires : goal.begun-requires
begun-requires g c = can_begin g.P.Compiled.needs g.P.Compiled.made (g.A.Actor.opening c.args.self.now.actor) (g.A.Actor.pass c.args.self.now.actor) (g.A.Actor.seen c.args.self.now.actor) (g.A.Actor.seen c.begin.new.self) c.args.cookie.now c.args.moment c.in-Did.given c.in-Did.ensures.answer

pub returns-in-Did-clause-call : goal.returns-in-Did-clause-call
returns-in-Did-clause-call g c =
    subst (λ r. Acts g.P.Compiled.needs (g.A.Actor.opening c.args.self.now.actor) (g.A.Actor.pass c.args.self.now.actor) (g.A.Actor.seen c.args.self.now.actor) (g.A.Actor.seen c.begin.new.self) (op.Begin c.args.cookie.now c.args.moment) r) (begun_reply c.in-Did.given.reply c.in-Did.given.gift c.begun.result c.begun.ensures)
    (calls_of g.P.Compiled.needs g.P.Compiled.made (g.A.Actor.opening c.args.self.now.actor) (g.A.Actor.pass c.args.self.now.actor) (g.A.Actor.seen c.args.self.now.actor) (g.A.Actor.seen c.begin.new.self) (op.Begin c.args.cookie.now c.args.moment) (Did c.in-Did.given) c.in-Did.ensures.answer)

pub returns-in-Did-clause-start : goal.returns-in-Did-clause-start
returns-in-Did-clause-start g c = begins g.P.Compiled.needs g.P.Compiled.made (g.A.Actor.opening c.args.self.now.actor) (g.A.Actor.pass c.args.self.now.actor) (g.A.Actor.seen c.args.self.now.actor) (g.A.Actor.seen c.begin.new.self) c.args.cookie.now c.args.moment c.in-Did.given c.begun.result c.in-Did.ensures.answer c.begun.ensures
