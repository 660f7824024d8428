use Rattle.page_meaning_tests.proofs.FunctionsCases.{split_and_join, substring, index_of_absent, upper_case, split_empty, each_function, function_faults}
use Rattle.page_meaning_tests.proofs.functions.Goals as goal

pub returns-clause-split_and_join : goal.returns-clause-split_and_join
returns-clause-split_and_join c = split_and_join

pub returns-clause-substring : goal.returns-clause-substring
returns-clause-substring c = substring

pub returns-clause-index_of_absent : goal.returns-clause-index_of_absent
returns-clause-index_of_absent c = index_of_absent

pub returns-clause-upper_case : goal.returns-clause-upper_case
returns-clause-upper_case c = upper_case

pub returns-clause-split_empty : goal.returns-clause-split_empty
returns-clause-split_empty c = split_empty

pub returns-clause-each_function : goal.returns-clause-each_function
returns-clause-each_function c = each_function

pub returns-clause-function_faults : goal.returns-clause-function_faults
returns-clause-function_faults c = function_faults
