use Rattle.page_meaning_tests.proofs.OperatorsCases.{joined_texts, remainder_sign, number_and_text, empty_text, order_as_numbers, order_as_texts, order_of_null, sum_wraps, no_number, decimal_text, faulty_page, list_text, record_text, right_side_waits}
use Rattle.page_meaning_tests.proofs.operators.Goals as goal

pub returns-clause-joined_texts : goal.returns-clause-joined_texts
returns-clause-joined_texts c = joined_texts

pub returns-clause-remainder_sign : goal.returns-clause-remainder_sign
returns-clause-remainder_sign c = remainder_sign

pub returns-clause-number_and_text : goal.returns-clause-number_and_text
returns-clause-number_and_text c = number_and_text

pub returns-clause-empty_text : goal.returns-clause-empty_text
returns-clause-empty_text c = empty_text

pub returns-clause-order_as_numbers : goal.returns-clause-order_as_numbers
returns-clause-order_as_numbers c = order_as_numbers

pub returns-clause-order_as_texts : goal.returns-clause-order_as_texts
returns-clause-order_as_texts c = order_as_texts

pub returns-clause-order_of_null : goal.returns-clause-order_of_null
returns-clause-order_of_null c = order_of_null

pub returns-clause-sum_wraps : goal.returns-clause-sum_wraps
returns-clause-sum_wraps c = sum_wraps

pub returns-clause-no_number : goal.returns-clause-no_number
returns-clause-no_number c = no_number

pub returns-clause-decimal_text : goal.returns-clause-decimal_text
returns-clause-decimal_text c = decimal_text

pub returns-clause-faulty_page : goal.returns-clause-faulty_page
returns-clause-faulty_page c = faulty_page

pub returns-clause-list_text : goal.returns-clause-list_text
returns-clause-list_text c = list_text

pub returns-clause-record_text : goal.returns-clause-record_text
returns-clause-record_text c = record_text

pub returns-clause-right_side_waits : goal.returns-clause-right_side_waits
returns-clause-right_side_waits c = right_side_waits
