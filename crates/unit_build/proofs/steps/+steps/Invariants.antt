use Rattle.std.proofs.Common.{◌≡◌, ◌++◌, drop, map}
use Rattle.unit_source.specs.Placed.{in_place}
use Rattle.unit_words.specs.Walk.{behind_all}
use Rattle.unit_judges.specs.Made.{here_made}
use Rattle.unit_build.specs.MadeSteps.{step_made}
use Rattle.unit_build.specs.ReadSteps.{steps_of}
use Rattle.unit_build.proofs.steps.+steps.Given as goal

abbrev pub invariant-push_steps-loop-node : goal.invariant-push_steps-loop-node
invariant-push_steps-loop-node l = record {
  here : behind_all l.directives (in_place (drop l.node-index l.nodes)) (here_made l.here) ≡ behind_all l.directives (in_place l.nodes) (here_made l.fn.here);
  steps : map step_made l.steps.items ++ steps_of l.directives (here_made l.here) (in_place (drop l.node-index l.nodes))
      ≡ map step_made l.fn.steps.items ++ steps_of l.directives (here_made l.fn.here) (in_place l.nodes);
}
