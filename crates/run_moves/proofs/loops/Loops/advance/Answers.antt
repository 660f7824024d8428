use Rattle.std.proofs.Common.{◌-◌, ap, arith, refl}
use Rattle.std.proofs.lemmas.Bool.{false≢true}
use Rattle.run_moves.specs.Loops.{loop_of}
use Rattle.run_moves.proofs.Advancing.{last_advanced, none_advanced}
use Rattle.run_moves.proofs.loops.Loops.advance.Goals as goal

pub returns-in_default : goal.returns-in_default
returns-in_default c =
    let held = c.self.inside.loops in
    none_advanced held.items c.args.self.now c.self.view_is (λ h. false≢true (c.in_default.ensures.variant.1 (omega (arith, h, held.ok.0))))

pub returns : goal.returns
returns c =
    let held = c.self.inside.loops in
    let some = c.in-Some.ensures.variant.0 refl in
    last_advanced held.items (held.len - 1) c.in-Some.innermost.now (record c.in-Some.innermost.now { rounds = c.advance.new.self }) c.args.self.now (omega (arith, some, held.ok.0)) c.in-Some.ensures.value
    (ap (λ rs. record (loop_of c.in-Some.innermost.now) { rounds = rs }) c.advance.ensures) c.self.view_is
