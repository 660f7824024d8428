use Rattle.page_meaning_tests.proofs.BeansCases.{all_properties, bean, application_bean, bean_faults}
use Rattle.page_meaning_tests.proofs.beans.Goals as goal

pub returns-clause-all_properties : goal.returns-clause-all_properties
returns-clause-all_properties c = all_properties

pub returns-clause-bean : goal.returns-clause-bean
returns-clause-bean c = bean

pub returns-clause-application_bean : goal.returns-clause-application_bean
returns-clause-application_bean c = application_bean

pub returns-clause-bean_faults : goal.returns-clause-bean_faults
returns-clause-bean_faults c = bean_faults
