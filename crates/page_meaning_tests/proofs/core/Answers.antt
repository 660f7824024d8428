use Rattle.page_meaning_tests.proofs.CoreCases.{out_escapes, null_in_application, remove_awaits, remove_in_all, null_removes, look_up_awaits, catch_keeps_output, out_default, set_body, set_entry, if_and_choose}
use Rattle.page_meaning_tests.proofs.core.Goals as goal

pub returns-clause-out_escapes : goal.returns-clause-out_escapes
returns-clause-out_escapes c = out_escapes

pub returns-clause-null_in_application : goal.returns-clause-null_in_application
returns-clause-null_in_application c = null_in_application

pub returns-clause-remove_awaits : goal.returns-clause-remove_awaits
returns-clause-remove_awaits c = remove_awaits

pub returns-clause-remove_in_all : goal.returns-clause-remove_in_all
returns-clause-remove_in_all c = remove_in_all

pub returns-clause-null_removes : goal.returns-clause-null_removes
returns-clause-null_removes c = null_removes

pub returns-clause-look_up_awaits : goal.returns-clause-look_up_awaits
returns-clause-look_up_awaits c = look_up_awaits

pub returns-clause-catch_keeps_output : goal.returns-clause-catch_keeps_output
returns-clause-catch_keeps_output c = catch_keeps_output

pub returns-clause-out_default : goal.returns-clause-out_default
returns-clause-out_default c = out_default

pub returns-clause-set_body : goal.returns-clause-set_body
returns-clause-set_body c = set_body

pub returns-clause-set_entry : goal.returns-clause-set_entry
returns-clause-set_entry c = set_entry

pub returns-clause-if_and_choose : goal.returns-clause-if_and_choose
returns-clause-if_and_choose c = if_and_choose
