use Rattle.page_meaning_tests.proofs.RequestsCases.{error_page, one_session, late_session, late_session_awaits, no_session_committed, fault_in_error_page, static_error_page, absent_error_page, error_page_forwards, hidden, absent_file, static_file}
use Rattle.page_meaning_tests.proofs.requests.Goals as goal

pub returns-clause-error_page : goal.returns-clause-error_page
returns-clause-error_page c = error_page

pub returns-clause-one_session : goal.returns-clause-one_session
returns-clause-one_session c = one_session

pub returns-clause-late_session : goal.returns-clause-late_session
returns-clause-late_session c = late_session

pub returns-clause-late_session_awaits : goal.returns-clause-late_session_awaits
returns-clause-late_session_awaits c = late_session_awaits

pub returns-clause-no_session_committed : goal.returns-clause-no_session_committed
returns-clause-no_session_committed c = no_session_committed

pub returns-clause-fault_in_error_page : goal.returns-clause-fault_in_error_page
returns-clause-fault_in_error_page c = fault_in_error_page

pub returns-clause-static_error_page : goal.returns-clause-static_error_page
returns-clause-static_error_page c = static_error_page

pub returns-clause-absent_error_page : goal.returns-clause-absent_error_page
returns-clause-absent_error_page c = absent_error_page

pub returns-clause-error_page_forwards : goal.returns-clause-error_page_forwards
returns-clause-error_page_forwards c = error_page_forwards

pub returns-clause-hidden : goal.returns-clause-hidden
returns-clause-hidden c = hidden

pub returns-clause-absent_file : goal.returns-clause-absent_file
returns-clause-absent_file c = absent_file

pub returns-clause-static_file : goal.returns-clause-static_file
returns-clause-static_file c = static_file
