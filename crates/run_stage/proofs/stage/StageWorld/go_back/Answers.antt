use Rattle.std.proofs.Common.{ap, take, length, arith, ◌∙◌}
use Rattle.std.proofs.lemmas.List.{length-take-le}
use Rattle.run_stage.proofs.ScopeMoves.{covered_same}
use Rattle.run_stage.proofs.StageMoves.{scopes_changed}
use Rattle.run_stage.proofs.stage.StageWorld.go_back.Goals as goal
use Rattle.scopes.specs.Scopes.{ScopeState, turned_to}

pub turn_to-requires : goal.turn_to-requires
turn_to-requires g c =
    let frames = c.args.self.now.scopes.now.frames in
    let e = ap (λ (s : ScopeState). length s.frames) c.drop_frames.ensures.1 in
    let f = length-take-le c.args.frames frames c.requires.there.1 in
    omega (arith, c.requires.there.0, e, f)

pub returns-clause-covered : goal.returns-clause-covered
returns-clause-covered g c =
    let w = c.args.self.now in
    covered_same w.scopes.now.session c.turn_to.new.self.session w.around.now.id w.around.now.visits w.around.now.charge (g.P.AppPort.asking w.port.now) c.requires.covered
    (ap (λ (s : ScopeState). s.session) c.turn_to.ensures.turned ∙ ap (λ (s : ScopeState). s.session) c.drop_frames.ensures.1)

pub returns-clause-back : goal.returns-clause-back
returns-clause-back g c =
    scopes_changed c.args.self.now (λ (s : ScopeState). record s { frames = take c.args.frames s.frames; current = c.args.current }) c.turn_to.new.self
    (c.turn_to.ensures.turned ∙ ap (λ (s : ScopeState). turned_to s c.args.current) c.drop_frames.ensures.1)
