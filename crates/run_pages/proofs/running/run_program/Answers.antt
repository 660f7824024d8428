use Rattle.std.proofs.Common.{◌≡◌, ap, ◌∙◌}
use Rattle.code_lowering.specs.Programs.{program_of}
use Rattle.run_pages.proofs.Meaning.{page_meant}
use Rattle.run_pages.proofs.Serving.{pages_served, serves, serving_at}
use Rattle.run_pages.proofs.running.run_program.Goals as goal
use Rattle.run_pages.specs.Meant.{served_at}

pub run-requires-clause-served : goal.run-requires-clause-served
run-requires-clause-served g c = pages_served c.programs.ensures.fit c.requires.tells (g.P.AppPort.tree c.args.port.now) c.args.asked.request.now c.args.around.now

pub returns-clause-meant : goal.returns-clause-meant
returns-clause-meant g c = λ path made page stands origin s begins.
    let tree = g.P.AppPort.tree c.args.port.now in
    let same : made.page ≡ page = cc in
    page_meant c.programs.ensures.mean (served_at tree c.args.asked.request.now c.args.around.now) page _ _ _ _ s _ _ _ c.run.result
    (made.lowered ∙ ap program_of same) (c.run.ensures.ran (serving_at tree c.args.asked.request.now c.args.around.now) (serves c.requires.tells tree c.args.asked.request.now c.args.around.now) origin s begins)
