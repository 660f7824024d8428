use Rattle.page_meaning_tests.proofs.AddressesCases.{url_params, redirect, redirect_control, url_variable, import_remote}
use Rattle.page_meaning_tests.proofs.addresses.Goals as goal

pub returns-clause-url_params : goal.returns-clause-url_params
returns-clause-url_params c = url_params

pub returns-clause-redirect : goal.returns-clause-redirect
returns-clause-redirect c = redirect

pub returns-clause-redirect_control : goal.returns-clause-redirect_control
returns-clause-redirect_control c = redirect_control

pub returns-clause-url_variable : goal.returns-clause-url_variable
returns-clause-url_variable c = url_variable

pub returns-clause-import_remote : goal.returns-clause-import_remote
returns-clause-import_remote c = import_remote
