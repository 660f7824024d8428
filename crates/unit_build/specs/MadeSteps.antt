-- Steps as the program has them.
use Rattle.jstl_tags.specs.Elements.{opened_of}
use Rattle.unit_source.specs.InPlace.{flat}
use Rattle.unit_source.specs.Placed.{in_place}
use Rattle.unit_judges.specs.Made.{here_made, kind_made}
use Rattle.unit_build.specs.declared.steps.Step.{Step as StepMade}
use Rattle.unit_build.specs.declared.steps.Step.TheVariants as made
use Rattle.unit_build.specs.ReadSteps.{Step, leaf_step, break_step, start_step, include_step, end_step}

abbrev pub step_made : StepMade → Step
step_made (made.Leaf here leaf place) = leaf_step (here_made here) leaf.now place.now
step_made (made.Break fault) = break_step fault.now
step_made (made.Start here kind element) = start_step (here_made here) (kind_made kind) (opened_of element.now.head) (flat (in_place element.now.body.items))
step_made (made.Include directive entry) = include_step directive.now entry
step_made made.End = end_step
