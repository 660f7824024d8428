use Rattle.std.proofs.Common.{◌<◌, ◌∙◌, length, subst, arith}
use Rattle.run_moves.specs.Loops.{loop_of}
use Rattle.run_moves.proofs.Unwinding.{Unwound, unwound_all, unwound_on, unwound_rest}
use Rattle.run_moves.proofs.raising.unwind.Goals as goal

pub returns-clause-loops : goal.returns-clause-loops
returns-clause-loops g c = unwound_rest c.args.left _ _ _ c.loop-loops.loops c.loop-loops.invariant.ended (omega (arith, c.len.ensures, c.loop-loops-test.false))

pub returns-clause-unwound : goal.returns-clause-unwound
returns-clause-unwound g c = unwound_all c.args.left _ _ _ c.loop-loops.loops c.loop-loops.invariant.ended (omega (arith, c.len.ensures, c.loop-loops-test.false))

pub loop-loops-preserved : goal.loop-loops-preserved
loop-loops-preserved g c = record {
  covered = c.remove_named-in-loop-loops.ensures.covered;
  ended = unwound_on c.args.left c.args.loops.now c.args.world.now c.loop-loops.world c.remove_named.new.world c.remove_named-in-loop-loops.new.world (loop_of c.in-Some.innermost) c.pop.new.self
      (subst (λ loops. Unwound g.W.World.reached c.args.left c.args.loops.now c.args.world.now c.loop-loops.world loops) c.in-Some.ensures c.loop-loops.invariant.ended)
      (subst (λ loops. c.args.left < length loops) c.in-Some.ensures (subst (λ n. c.args.left < n) c.len.ensures c.loop-loops-test.true)) c.remove_named.ensures.removed
      c.remove_named-in-loop-loops.ensures.removed;
  replies = c.remove_named-in-loop-loops.ensures.replies ∙ c.remove_named.ensures.replies ∙ c.loop-loops.invariant.replies;
}

pub loop-loops-preserved-in-Some : goal.loop-loops-preserved-in-Some
loop-loops-preserved-in-Some g c = record {
  covered = c.remove_named-in-loop-loops.ensures.covered;
  ended = unwound_on c.args.left c.args.loops.now c.args.world.now c.loop-loops.world c.remove_named.new.world c.remove_named-in-loop-loops.new.world (loop_of c.in-Some.innermost) c.pop.new.self
      (subst (λ loops. Unwound g.W.World.reached c.args.left c.args.loops.now c.args.world.now c.loop-loops.world loops) c.in-Some.ensures c.loop-loops.invariant.ended)
      (subst (λ loops. c.args.left < length loops) c.in-Some.ensures (subst (λ n. c.args.left < n) c.len.ensures c.loop-loops-test.true)) c.remove_named.ensures.removed
      c.remove_named-in-loop-loops.ensures.removed;
  replies = c.remove_named-in-loop-loops.ensures.replies ∙ c.remove_named.ensures.replies ∙ c.loop-loops.invariant.replies;
}

pub loop-loops-preserved-in-Some-2 : goal.loop-loops-preserved-in-Some-2
loop-loops-preserved-in-Some-2 g c = record {
  covered = c.remove_named-in-loop-loops.ensures.covered;
  ended = unwound_on c.args.left c.args.loops.now c.args.world.now c.loop-loops.world c.remove_named.new.world c.remove_named-in-loop-loops.new.world (loop_of c.in-Some.innermost) c.pop.new.self
      (subst (λ loops. Unwound g.W.World.reached c.args.left c.args.loops.now c.args.world.now c.loop-loops.world loops) c.in-Some.ensures c.loop-loops.invariant.ended)
      (subst (λ loops. c.args.left < length loops) c.in-Some.ensures (subst (λ n. c.args.left < n) c.len.ensures c.loop-loops-test.true)) c.remove_named.ensures.removed
      c.remove_named-in-loop-loops.ensures.removed;
  replies = c.remove_named-in-loop-loops.ensures.replies ∙ c.remove_named.ensures.replies ∙ c.loop-loops.invariant.replies;
}

pub loop-loops-preserved-in-Some-3 : goal.loop-loops-preserved-in-Some-3
loop-loops-preserved-in-Some-3 g c = record {
  covered = c.remove_named-in-loop-loops.ensures.covered;
  ended = unwound_on c.args.left c.args.loops.now c.args.world.now c.loop-loops.world c.remove_named.new.world c.remove_named-in-loop-loops.new.world (loop_of c.in-Some.innermost) c.pop.new.self
      (subst (λ loops. Unwound g.W.World.reached c.args.left c.args.loops.now c.args.world.now c.loop-loops.world loops) c.in-Some.ensures c.loop-loops.invariant.ended)
      (subst (λ loops. c.args.left < length loops) c.in-Some.ensures (subst (λ n. c.args.left < n) c.len.ensures c.loop-loops-test.true)) c.remove_named.ensures.removed
      c.remove_named-in-loop-loops.ensures.removed;
  replies = c.remove_named-in-loop-loops.ensures.replies ∙ c.remove_named.ensures.replies ∙ c.loop-loops.invariant.replies;
}
