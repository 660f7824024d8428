use Rattle.std.proofs.Common.{subst}
use Rattle.site_words.specs.declared.words.Opening.{Opening}
use Rattle.turn_table.specs.Passes.{Origin}
use Rattle.site_rounds.proofs.handler.PortHandlerHandler.handle.Goals as goal

pub returns-clause-handled : goal.returns-clause-handled
returns-clause-handled g c = (
  c.talk.ensures.same.0,
  c.talk.ensures.longer,
  subst (λ (turns : Origin Opening). g.T.Talk.talked c.args.self.now.talk.now turns.opening c.args.token.now.actor.pass.number c.args.token.now.actor.pass.seen c.talk.new.port.actor.pass.seen) c.requires.0 c.talk.ensures.talked,
)
