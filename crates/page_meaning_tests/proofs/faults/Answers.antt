use Rattle.page_meaning_tests.proofs.FaultsCases.{out_faults, set_faults, test_faults, loop_faults, address_faults, page_faults, action_faults, object_faults}
use Rattle.page_meaning_tests.proofs.faults.Goals as goal

pub returns-clause-out_faults : goal.returns-clause-out_faults
returns-clause-out_faults c = out_faults

pub returns-clause-set_faults : goal.returns-clause-set_faults
returns-clause-set_faults c = set_faults

pub returns-clause-test_faults : goal.returns-clause-test_faults
returns-clause-test_faults c = test_faults

pub returns-clause-loop_faults : goal.returns-clause-loop_faults
returns-clause-loop_faults c = loop_faults

pub returns-clause-address_faults : goal.returns-clause-address_faults
returns-clause-address_faults c = address_faults

pub returns-clause-page_faults : goal.returns-clause-page_faults
returns-clause-page_faults c = page_faults

pub returns-clause-action_faults : goal.returns-clause-action_faults
returns-clause-action_faults c = action_faults

pub returns-clause-object_faults : goal.returns-clause-object_faults
returns-clause-object_faults c = object_faults
