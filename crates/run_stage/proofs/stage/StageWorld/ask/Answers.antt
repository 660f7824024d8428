use Rattle.std.proofs.Common.{◌+◌, sym, refl, arith}
use Rattle.run_stage.proofs.AskMoves.{ask_doing, spent_doing, unasked_at}
use Rattle.run_stage.proofs.Covering.{answer_light, ask_pays, below_limit, covered_asked, step_light}
use Rattle.run_stage.proofs.stage.StageWorld.ask.Goals as goal
use Rattle.run_world.proofs.Adds.{ask_adds}
use Rattle.site_words.specs.Weights.{answer_weight, step_weight}

pub returns-then-is_spent-clause-does : goal.returns-then-is_spent-clause-does
returns-then-is_spent-clause-does g c = spent_doing c.args.self.now c.args.step (sym c.if-is_spent.ensures)

pub app-requires-clause-room : goal.app-requires-clause-room
app-requires-clause-room g c =
    let low = below_limit c.args.self.now.around.now.charge (sym c.if-is_spent.ensures) in
    let light = step_light c.args.step c.requires.askable in
    omega (arith, low, light, c.requires.covered.promise)

pub returns-in_err-reply-clause-does : goal.returns-in_err-reply-clause-does
returns-in_err-reply-clause-does g c =
    unasked_at g.met.P.AppPort.leads_on c.args.self.now c.app.new.self c.args.self.now.around.now.charge c.from_residual.result c.from_residual.ensures.1 c.in_err-reply.ensures.leads c.in_err-reply.ensures.tree c.in_err-reply.ensures.told
    refl (λ place s held. ask_adds place c.args.step s)

pub returns-clause-covered : goal.returns-clause-covered
returns-clause-covered g c =
    let w = c.args.self.now in
    let reply = c.in_ok-reply.reply in
    let told = c.in_ok-reply.ensures.told in
    let left = told.3 in
    let sum = c.entry_weight-asked.result + c.answer_weight-told.result in
    let pays = ask_pays w.around.now.charge sum (step_weight c.args.step) (answer_weight reply) (g.P.AppPort.asking w.port.now).left (g.P.AppPort.asking c.app.new.self).left
    (below_limit w.around.now.charge (sym c.if-is_spent.ensures)) (step_light c.args.step c.requires.askable) (answer_light reply told.5) (omega (arith, c.entry_weight-asked.ensures, c.answer_weight-told.ensures)) (omega (arith, left)) in
    covered_asked w.scopes.now.session w.around.now.id w.around.now.visits w.around.now.charge (w.around.now.charge + sum) (g.P.AppPort.asking w.port.now) (g.P.AppPort.asking c.app.new.self)
    c.requires.covered told.2 (omega (arith, pays.1)) pays.2

pub returns-clause-does : goal.returns-clause-does
returns-clause-does g c =
    let w = c.args.self.now in
    let reply = c.in_ok-reply.reply in
    let told = c.in_ok-reply.ensures.told in
    let left = told.3 in
    let sum = c.entry_weight-asked.result + c.answer_weight-told.result in
    let pays = ask_pays w.around.now.charge sum (step_weight c.args.step) (answer_weight reply) (g.P.AppPort.asking w.port.now).left (g.P.AppPort.asking c.app.new.self).left
    (below_limit w.around.now.charge (sym c.if-is_spent.ensures)) (step_light c.args.step c.requires.askable) (answer_light reply told.5) (omega (arith, c.entry_weight-asked.ensures, c.answer_weight-told.ensures)) (omega (arith, left)) in
    ask_doing g.met.P.AppPort.leads_on w c.app.new.self (w.around.now.charge + sum) c.args.step reply reply refl (sym c.if-is_spent.ensures)
    c.in_ok-reply.ensures.leads c.in_ok-reply.ensures.tree told.0 told.1 (omega (arith, pays.0)) (omega (arith, pays.1)) pays.2
