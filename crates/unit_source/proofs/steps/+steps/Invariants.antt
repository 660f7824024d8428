use Rattle.std.proofs.Common.{◌≡◌, ◌++◌, drop, map}
use Rattle.unit_source.specs.Placed.{in_place}
use Rattle.unit_source.specs.ReadSplice.{step_of}
use Rattle.unit_source.specs.ReadSteps.{steps_of}
use Rattle.unit_source.proofs.steps.+steps.Given as goal

abbrev pub invariant-add_steps-loop-node : goal.invariant-add_steps-loop-node
invariant-add_steps-loop-node l =
    map step_of l.steps.items ++ steps_of l.around (in_place (drop l.node-index l.nodes)) ≡ map step_of l.fn.steps.items ++ steps_of l.around (in_place l.nodes)
