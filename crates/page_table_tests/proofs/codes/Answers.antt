use Rattle.page_table_tests.proofs.Cases.{sum_written, texts_joined, each_item, caught, caught_in_body, not_caught, last_visit, call_with_body, no_level, redirected}
use Rattle.page_table_tests.proofs.codes.Goals as goal

pub returns-clause-sum : goal.returns-clause-sum
returns-clause-sum c = sum_written

pub returns-clause-joined : goal.returns-clause-joined
returns-clause-joined c = texts_joined

pub returns-clause-each : goal.returns-clause-each
returns-clause-each c = each_item

pub returns-clause-caught : goal.returns-clause-caught
returns-clause-caught c = caught

pub returns-clause-caught_in_body : goal.returns-clause-caught_in_body
returns-clause-caught_in_body c = caught_in_body

pub returns-clause-not_caught : goal.returns-clause-not_caught
returns-clause-not_caught c = not_caught

pub returns-clause-call : goal.returns-clause-call
returns-clause-call c = call_with_body

pub returns-clause-level : goal.returns-clause-level
returns-clause-level c = no_level

pub returns-clause-visit : goal.returns-clause-visit
returns-clause-visit c = last_visit

pub returns-clause-redirected : goal.returns-clause-redirected
returns-clause-redirected c = redirected
