use Rattle.page_meaning_tests.proofs.ObjectsCases.{session_starts, session_awaits, session_goes_on, implicit_objects, scope_objects, application_object, application_entries, application_awaits, not_found, no_session, session_attributes}
use Rattle.page_meaning_tests.proofs.objects.Goals as goal

pub returns-clause-session_starts : goal.returns-clause-session_starts
returns-clause-session_starts c = session_starts

pub returns-clause-session_awaits : goal.returns-clause-session_awaits
returns-clause-session_awaits c = session_awaits

pub returns-clause-session_goes_on : goal.returns-clause-session_goes_on
returns-clause-session_goes_on c = session_goes_on

pub returns-clause-implicit_objects : goal.returns-clause-implicit_objects
returns-clause-implicit_objects c = implicit_objects

pub returns-clause-scope_objects : goal.returns-clause-scope_objects
returns-clause-scope_objects c = scope_objects

pub returns-clause-application_object : goal.returns-clause-application_object
returns-clause-application_object c = application_object

pub returns-clause-application_entries : goal.returns-clause-application_entries
returns-clause-application_entries c = application_entries

pub returns-clause-application_awaits : goal.returns-clause-application_awaits
returns-clause-application_awaits c = application_awaits

pub returns-clause-not_found : goal.returns-clause-not_found
returns-clause-not_found c = not_found

pub returns-clause-no_session : goal.returns-clause-no_session
returns-clause-no_session c = no_session

pub returns-clause-session_attributes : goal.returns-clause-session_attributes
returns-clause-session_attributes c = session_attributes
