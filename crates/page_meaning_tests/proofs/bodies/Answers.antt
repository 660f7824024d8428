use Rattle.page_meaning_tests.proofs.BodiesCases.{body_in_callers_frame, fragments, dependent_body, no_body, fault_in_body, caught_inside, nested_bodies}
use Rattle.page_meaning_tests.proofs.bodies.Goals as goal

pub returns-clause-body_in_callers_frame : goal.returns-clause-body_in_callers_frame
returns-clause-body_in_callers_frame c = body_in_callers_frame

pub returns-clause-fragments : goal.returns-clause-fragments
returns-clause-fragments c = fragments

pub returns-clause-dependent_body : goal.returns-clause-dependent_body
returns-clause-dependent_body c = dependent_body

pub returns-clause-no_body : goal.returns-clause-no_body
returns-clause-no_body c = no_body

pub returns-clause-fault_in_body : goal.returns-clause-fault_in_body
returns-clause-fault_in_body c = fault_in_body

pub returns-clause-caught_inside : goal.returns-clause-caught_inside
returns-clause-caught_inside c = caught_inside

pub returns-clause-nested_bodies : goal.returns-clause-nested_bodies
returns-clause-nested_bodies c = nested_bodies
