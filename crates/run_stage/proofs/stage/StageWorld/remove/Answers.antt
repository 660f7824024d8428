use Rattle.std.proofs.Common.{subst, sym}
use Rattle.run_stage.proofs.ScopeMoves.{covered_scopes, remove_light, remove_there}
use Rattle.run_stage.proofs.stage.StageWorld.remove.Goals as goal
use Rattle.run_stage.specs.Stage.{Covered}
use Rattle.scopes.specs.Scopes.{ScopeState, without_variable}

pub returns-clause-covered : goal.returns-clause-covered
returns-clause-covered g c =
    let w = c.args.self.now in
    let s = w.scopes.now in
    let around = w.around.now in
    let asking = g.P.AppPort.asking w.port.now in
    subst (λ (x : ScopeState). Covered x.session around.id around.visits around.charge asking) (sym c.remove.ensures)
    (covered_scopes s.session (without_variable s c.args.scope c.args.name.now).session around.id around.visits around.charge asking c.requires.covered (remove_there s c.args.scope c.args.name.now)
    (remove_light s c.args.scope c.args.name.now c.requires.covered.weight))
