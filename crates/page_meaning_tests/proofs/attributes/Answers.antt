use Rattle.page_meaning_tests.proofs.AttributesCases.{parts, given_attribute}
use Rattle.page_meaning_tests.proofs.attributes.Goals as goal

pub returns-clause-parts : goal.returns-clause-parts
returns-clause-parts c = parts

pub returns-clause-given_attribute : goal.returns-clause-given_attribute
returns-clause-given_attribute c = given_attribute
