use Rattle.std.proofs.Common.{◌≡◌, length, arith}
use Rattle.run_stage.proofs.ScopeMoves.{cut_is}
use Rattle.run_stage.proofs.stage.drop_frames.Goals as goal

pub returns : goal.returns
returns c =
    let inv = c.loop-scopes.invariant in
    let long : length c.loop-scopes.scopes.frames ≡ c.args.frames = omega (arith, inv.left, c.frames.ensures, c.loop-scopes-test.false) in
    (c.loop-scopes.scopes.current, cut_is c.loop-scopes.scopes c.args.scopes.now c.args.frames inv.front inv.request inv.session long)
