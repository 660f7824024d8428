use Rattle.unit_meaning.proofs.BodyLemmas.{body_stands_in_action, content_is_of_body}
use Rattle.unit_meaning.proofs.laws.bodies.Goals as goal

pub returns-clause-content : goal.returns-clause-content
returns-clause-content c = content_is_of_body

pub returns-clause-same : goal.returns-clause-same
returns-clause-same c = body_stands_in_action
