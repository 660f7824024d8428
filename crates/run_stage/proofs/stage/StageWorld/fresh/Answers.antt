use Rattle.std.proofs.Common.{◌≡◌, ◌∙◌, ℕ, List, Some, refl, subst}
use Rattle.run_stage.proofs.AskMoves.{fresh_doing, fresh_short, no_id, session_adds, unasked_at}
use Rattle.run_stage.proofs.stage.StageWorld.fresh.Goals as goal

pub returns-in_err-made-clause-does : goal.returns-in_err-made-clause-does
returns-in_err-made-clause-does g c =
    unasked_at g.met.P.AppPort.leads_on c.args.self.now c.fresh.new.self c.args.self.now.around.now.charge c.from_residual.result c.from_residual.ensures.1 c.in_err-made.ensures.leads c.in_err-made.ensures.tree
    c.in_err-made.ensures.given refl (λ place s held. session_adds s.answers s (held ∙ c.requires.uncommitted))

pub returns-in_default-clause-does : goal.returns-in_default-clause-does
returns-in_default-clause-does g c =
    let w = c.args.self.now in
    let given = c.in_ok-made.ensures.given in
    let none = no_id w.scopes.now.session w.around.now.id c.requires.none c.requires.covered.session in
    fresh_short g.met.P.AppPort.leads_on w c.fresh.new.self c.start_session.new.self c.in_ok-made.made.id none c.start_session.ensures c.in_ok-made.ensures.leads c.in_ok-made.ensures.tree given.0 given.1 given.3
    c.requires.uncommitted

pub returns-clause-does : goal.returns-clause-does
returns-clause-does g c =
    let w = c.args.self.now in
    let given = c.in_ok-made.ensures.given in
    let none = no_id w.scopes.now.session w.around.now.id c.requires.none c.requires.covered.session in
    let head : c.set_cookie.new.self ≡ record w.writer.now { head = record w.writer.now.head { set_cookie = Some c.in_ok-made.made.id } } =
    subst (λ (id : List ℕ). c.set_cookie.new.self ≡ record w.writer.now { head = record w.writer.now.head { set_cookie = Some id } }) c.in-Ok.ensures c.set_cookie.ensures.head in
    fresh_doing g.met.P.AppPort.leads_on w c.fresh.new.self c.start_session.new.self c.set_cookie.new.self c.in_ok-made.made.id none c.start_session.ensures c.in_ok-made.ensures.leads c.in_ok-made.ensures.tree given.0 given.1 given.3
    c.set_cookie.ensures.stands head
