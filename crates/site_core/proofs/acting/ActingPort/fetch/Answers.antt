use Rattle.std.proofs.Common.{subst}
use Rattle.std.specs.Prelude.{IfSome, ◌+◌}
use Rattle.std.specs.Arc.{arc_value}
use Rattle.site_words.specs.declared.words.Op.TheVariants as op
use Rattle.site_words.specs.Answers.{ForRun, is_hit}
use Rattle.site_words.specs.Calls.{Acts}
use Rattle.site_words.specs.Law.{own, run_of}
use Rattle.site_words.specs.Weights.{end_weight, op_weight}
use Rattle.site_core.proofs.CallLemmas.{can_find, fetched, is_under_way}
use Rattle.site_core.proofs.ReplyLemmas.{found_reply}
use Rattle.site_core.proofs.acting.ActingPort.fetch.Goals as goal

pub found-requires : goal.found-requires
found-requires g c = can_find g.P.Compiled.needs g.P.Compiled.made (g.A.Actor.opening c.args.self.now.actor) (g.A.Actor.pass c.args.self.now.actor) (g.A.Actor.seen c.args.self.now.actor) (g.A.Actor.seen c.ask.new.self.actor) c.args.request c.in-Ok.path c.in-Did.given c.in-Did.ensures.answer

pub returns-in-Did-clause-call : goal.returns-in-Did-clause-call
returns-in-Did-clause-call g c =
    subst (λ p. Acts g.P.Compiled.needs (g.A.Actor.opening c.args.self.now.actor) (g.A.Actor.pass c.args.self.now.actor) (g.A.Actor.seen c.args.self.now.actor) (g.A.Actor.seen c.ask.new.self.actor) (op.Fetch c.args.request p) (is_hit c.found.result)) c.in-Ok.ensures
    (subst (λ r. Acts g.P.Compiled.needs (g.A.Actor.opening c.args.self.now.actor) (g.A.Actor.pass c.args.self.now.actor) (g.A.Actor.seen c.args.self.now.actor) (g.A.Actor.seen c.ask.new.self.actor) (op.Fetch c.args.request c.in-Ok.path) r) (found_reply c.in-Did.given.reply c.in-Did.given.gift c.found.result c.found.ensures) c.in-Did.ensures.call)

pub returns-in-Did-clause-made : goal.returns-in-Did-clause-made
returns-in-Did-clause-made g c =
    subst (λ p. IfSome c.found.result (λ v. ForRun (g.A.Actor.opening c.args.self.now.actor) (g.A.Actor.seen c.args.self.now.actor) (run_of (own (g.A.Actor.pass c.args.self.now.actor) (g.A.Actor.seen c.args.self.now.actor))) (λ tree. g.P.Compiled.made (arc_value v) tree p))) c.in-Ok.ensures
    (fetched g.P.Compiled.needs g.P.Compiled.made (g.A.Actor.opening c.args.self.now.actor) (g.A.Actor.pass c.args.self.now.actor) (g.A.Actor.seen c.args.self.now.actor) (g.A.Actor.seen c.ask.new.self.actor) c.args.request c.in-Ok.path c.in-Did.given c.found.result c.requires.may.0
    (is_under_way g.P.Compiled.needs g.P.Compiled.made (run_of (own (g.A.Actor.pass c.args.self.now.actor) (g.A.Actor.seen c.args.self.now.actor))) c.args.request (op_weight (op.Fetch c.args.request c.args.path.now) + end_weight) c.requires.may.1) c.in-Did.ensures.answer c.found.ensures)
