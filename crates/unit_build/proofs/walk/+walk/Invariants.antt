use Rattle.std.proofs.Common.{◌≡◌, ◌≤◌, ◌+◌, ◌*◌, drop, map}
use Rattle.unit_source.specs.Files.{text_in}
use Rattle.unit_source.specs.Placed.{root_view}
use Rattle.unit_words.specs.Walk.{met_within}
use Rattle.unit_build.specs.MadeSteps.{step_made}
use Rattle.unit_build.specs.ReadFound.{state_in}
use Rattle.unit_build.specs.ReadSteps.{steps_met}
use Rattle.unit_build.specs.ReadWalk.{IsOwn, Leads}
use Rattle.unit_build.proofs.walk.+walk.Given as goal

abbrev pub decreases-read_root : goal.decreases-read_root
decreases-read_root l = 5 * l.deep

abbrev pub decreases-take_start : goal.decreases-take_start
decreases-take_start l = 5 * l.deep + 1

abbrev pub decreases-take_step : goal.decreases-take_step
decreases-take_step l = 5 * l.deep + 2

abbrev pub decreases-take_steps : goal.decreases-take_steps
decreases-take_steps l = 5 * l.deep + 3

abbrev pub decreases-take_course : goal.decreases-take_course
decreases-take_course l = 5 * l.deep + 4

abbrev pub invariant-take_steps-loop-step : goal.invariant-take_steps-loop-step
invariant-take_steps-loop-step l = record {
  within : l.left_out ≤ l.step-index;
  root : l.course.root ≡ l.fn.course.root;
  own : IsOwn l.course;
  leads : Leads l.fn.found l.found
      (steps_met (text_in l.fn.found.site) (root_view l.fn.course.root) (met_within l.deep (text_in l.fn.found.site)) l.left_out (map step_made (drop l.step-index l.steps)) (state_in l.course.before l.found))
      (steps_met (text_in l.fn.found.site) (root_view l.fn.course.root) (met_within l.deep (text_in l.fn.found.site)) 0 (map step_made l.steps) (state_in l.fn.course.before l.fn.found));
}
