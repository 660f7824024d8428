use Rattle.code_lowering_tests.proofs.Cases.{each_number, caught, called, fault_in_fragment, no_level, included, fault_included}
use Rattle.code_lowering_tests.proofs.ends.Goals as goal

pub returns-clause-each : goal.returns-clause-each
returns-clause-each c = each_number

pub returns-clause-caught : goal.returns-clause-caught
returns-clause-caught c = caught

pub returns-clause-called : goal.returns-clause-called
returns-clause-called c = called

pub returns-clause-fault_in_fragment : goal.returns-clause-fault_in_fragment
returns-clause-fault_in_fragment c = fault_in_fragment

pub returns-clause-no_level : goal.returns-clause-no_level
returns-clause-no_level c = no_level

pub returns-clause-included : goal.returns-clause-included
returns-clause-included c = included

pub returns-clause-fault_included : goal.returns-clause-fault_included
returns-clause-fault_included c = fault_included
