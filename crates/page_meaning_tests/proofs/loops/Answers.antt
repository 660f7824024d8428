use Rattle.page_meaning_tests.proofs.LoopsCases.{each_list, each_record, each_numbers, each_faults, each_fault_inside, each_token}
use Rattle.page_meaning_tests.proofs.loops.Goals as goal

pub returns-clause-each_list : goal.returns-clause-each_list
returns-clause-each_list c = each_list

pub returns-clause-each_record : goal.returns-clause-each_record
returns-clause-each_record c = each_record

pub returns-clause-each_numbers : goal.returns-clause-each_numbers
returns-clause-each_numbers c = each_numbers

pub returns-clause-each_faults : goal.returns-clause-each_faults
returns-clause-each_faults c = each_faults

pub returns-clause-each_fault_inside : goal.returns-clause-each_fault_inside
returns-clause-each_fault_inside c = each_fault_inside

pub returns-clause-each_token : goal.returns-clause-each_token
returns-clause-each_token c = each_token
