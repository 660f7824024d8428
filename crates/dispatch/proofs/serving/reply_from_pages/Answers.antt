use Rattle.std.proofs.Common.{[], List, refl, sym, subst, ap, ◌∙◌}
use Rattle.dispatch.proofs.CountLemmas.{turns_under}
use Rattle.dispatch.proofs.RunLemmas.{begun_funded, begun_headed, begun_in_order, begun_stands, closed_at, in_order_back, ok_unless, ran_short, ran_whole, runs_back, runs_unless, under_back}
use Rattle.dispatch.proofs.serving.reply_from_pages.Goals as goal
use Rattle.dispatch.specs.Started.{Start, started}
use Rattle.page_answers.specs.Standing.{found}
use Rattle.compiled_pages.specs.Pages.{needs_at}
use Rattle.page_meaning.specs.Respond.{beginning}
use Rattle.request_pages.specs.Meant.{served_at}
use Rattle.request_pages.specs.Closed.{request_answers}
use Rattle.run_world.specs.Origin.{Origin}
use Rattle.run_world.specs.declared.around.Around.{Around}
use Rattle.site_words.specs.Answers.{IsSamePort}
use Rattle.site_words.specs.Law.{Answer}

pub answer-replied-requires-clause-ready : goal.answer-replied-requires-clause-ready
answer-replied-requires-clause-ready g c =
    let o = c.requires.opened in
    let port = c.args.port.now in
    record {
      headed = begun_headed c.args.under_way.incoming.request.now.cookie o.0 o.1 c.args.under_way.incoming.close c.args.under_way.incoming.shown c.args.state.now o.3;
      in_order = begun_in_order c.args.under_way.incoming.request.now.cookie o.0 o.1 c.args.under_way.incoming.close c.args.under_way.incoming.shown c.args.state.now o.3 (g.Q.Port.opening port) (g.Q.Port.pass port) (g.Q.Port.seen port) c.args.under_way.number o.0 c.args.under_way.tree.now o.2 refl o.4;
      funded = begun_funded c.args.under_way.incoming.request.now.cookie o.0 o.1 c.args.under_way.incoming.close c.args.under_way.incoming.shown c.args.state.now o.3 (g.Q.Port.opening port) (g.Q.Port.pass port) (g.Q.Port.seen port) c.args.under_way.number o.0 c.args.under_way.tree.now o.2;
    }

pub answer-replied-requires-clause-stands : goal.answer-replied-requires-clause-stands
answer-replied-requires-clause-stands g c =
    let o = c.requires.opened in
    let port = c.args.port.now in
    let taken = g.K.Sink.taken c.args.sink.now in
    let faults = g.K.Sink.faults c.args.sink.now in
    let origin : Origin = record { start = taken; before = faults; asked = [] } in (
      origin,
      beginning (found c.args.under_way.incoming.request.now.cookie o.0 o.1) [],
      begun_stands c.args.under_way.incoming.request.now.cookie o.0 o.1 c.args.under_way.incoming.close c.args.under_way.incoming.shown c.args.state.now o.3 (g.Q.Port.opening port) (g.Q.Port.pass port) (g.Q.Port.seen port) c.args.under_way.number o.0 c.args.under_way.tree.now o.2 taken faults,
      refl,
    )

pub returns-clause-same : goal.returns-clause-same
returns-clause-same g c =
    let port = c.args.port.now in
    let leads = c.answer-replied.ensures.leads in
    subst (λ q. IsSamePort (g.Q.Port.pass port) (g.Q.Port.pass q) (g.Q.Port.opening port) (g.Q.Port.opening q) (g.Q.Port.home port) (g.Q.Port.home q)) (sym (c.port-1.given.1 (sym leads.port) ∙ c.come_back.ensures.port)) leads.same

pub returns-clause-under : goal.returns-clause-under
returns-clause-under g c =
    let o = c.requires.opened in
    let port = c.args.port.now in
    let x = g.Q.Port.opening port in
    let pass = g.Q.Port.pass port in
    let leads = c.answer-replied.ensures.leads in
    let mid = c.answer-replied.new.port.port.now in
    under_back g.Q.Port.opening g.Q.Port.pass g.Q.Port.seen x pass c.args.under_way.number c.args.under_way.tree.now _ mid (c.port-1.given.1 (sym leads.port) ∙ c.come_back.ensures.port) (leads.same.0, leads.same.1, refl)
    (turns_under needs_at x pass (g.Q.Port.seen port) (g.Q.Port.seen mid) c.args.under_way.number leads.turns (leads.did c.law.ensures.legal) c.args.under_way.tree.now o.2.run o.2.under)

pub returns-clause-later : goal.returns-clause-later
returns-clause-later g c =
    let o = c.requires.opened in
    let port = c.args.port.now in
    let taken = g.K.Sink.taken c.args.sink.now in
    let faults = g.K.Sink.faults c.args.sink.now in
    let origin : Origin = record { start = taken; before = faults; asked = [] } in
    let closed = c.answer-replied.ensures.closed origin (beginning (found c.args.under_way.incoming.request.now.cookie o.0 o.1) [])
    (begun_stands c.args.under_way.incoming.request.now.cookie o.0 o.1 c.args.under_way.incoming.close c.args.under_way.incoming.shown c.args.state.now o.3 (g.Q.Port.opening port) (g.Q.Port.pass port) (g.Q.Port.seen port) c.args.under_way.number o.0 c.args.under_way.tree.now o.2 taken faults) refl in
    closed.stood.writer.streamed.later

pub returns-clause-ran : goal.returns-clause-ran
returns-clause-ran g c = λ session attrs begun.
    let o = c.requires.opened in
    let port = c.args.port.now in
    let x = g.Q.Port.opening port in
    let pass = g.Q.Port.pass port in
    let seen = g.Q.Port.seen port in
    let request = c.args.under_way.incoming.request.now in
    let tree = c.args.under_way.tree.now in
    let state = c.args.state.now in
    let after = c.answer-replied.new.state in
    let taken = g.K.Sink.taken c.args.sink.now in
    let faults = g.K.Sink.faults c.args.sink.now in
    let origin : Origin = record { start = taken; before = faults; asked = [] } in
    let s = beginning (found request.cookie session attrs) [] in
    let leads = c.answer-replied.ensures.leads in
    let now = c.answer-replied.new.port in
    let p : Start = started request c.args.under_way.incoming.close c.args.under_way.incoming.shown c.args.under_way.number tree (found request.cookie session attrs) seen c.args.steps.now taken faults in
    let closed = c.answer-replied.ensures.closed origin s (begun_stands request.cookie session attrs c.args.under_way.incoming.close c.args.under_way.incoming.shown state begun x pass seen c.args.under_way.number o.0 tree o.2 taken faults) refl in
    let answers = request_answers (served_at tree request state.around) request in
    let means = λ (a : List Answer). ap (λ (around : Around). request_answers (served_at tree request around) request a s) begun.around in
    let new = g.Q.Port.seen now.port.now in
    let sent = g.K.Sink.taken c.answer-replied.new.sink in
    let counted = g.K.Sink.faults c.answer-replied.new.sink in
    let did = leads.did c.law.ensures.legal in
    let here = closed_at answers origin after sent counted x (g.Q.Port.opening now.port.now) pass (g.Q.Port.pass now.port.now) new now.request now.tree.now s _ c.answer-replied.result leads.same.1 leads.same.0 closed in
    let runs = runs_unless x pass p new now.steps.now after sent counted now.starved c.answer-replied.result c.come_back.result c.come_back.ensures.starved c.come_back.ensures.fed
    (λ fed.
    let whole = leads.whole fed in
    ran_whole x pass p new leads.turns did leads.stops o.2.asked o.2.told now.request now.tree.now s answers means after sent counted c.answer-replied.result c.answer-replied.ensures.headed here now.steps.now whole.1 whole.2)
    (ran_short x pass p new leads.turns did leads.stops o.2.asked o.2.told now.request now.tree.now s answers means after sent counted c.answer-replied.result c.answer-replied.ensures.headed here now.steps.now leads.read) in
    runs_back g.Q.Port.opening g.Q.Port.pass g.Q.Port.seen c.come_back.result x pass p after sent counted _ now.port.now _ now.steps.now (c.port-1.given.1 (sym leads.port) ∙ c.come_back.ensures.port) (c.steps-1.given.1 (sym leads.steps) ∙ c.come_back.ensures.steps) runs

pub returns-clause-in_order : goal.returns-clause-in_order
returns-clause-in_order g c =
    let leads = c.answer-replied.ensures.leads in
    let now = c.answer-replied.new.port in
    let after = c.answer-replied.new.state in
    in_order_back g.Q.Port.opening g.Q.Port.pass g.Q.Port.seen c.come_back.result after.scopes after.around _ now.port.now c.args.under_way.number now.request c.args.under_way.tree.now now.tree.now (c.port-1.given.1 (sym leads.port) ∙ c.come_back.ensures.port) leads.request leads.tree
    (ok_unless _ now.starved c.answer-replied.result c.come_back.result c.come_back.ensures.starved c.come_back.ensures.fed c.answer-replied.ensures.in_order)
