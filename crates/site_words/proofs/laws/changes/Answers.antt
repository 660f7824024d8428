use Rattle.site_words.proofs.StoreLaw.{unchanged, agrees_after}
use Rattle.site_words.proofs.laws.changes.Goals as goal

pub returns-clause-names : goal.returns-clause-names
returns-clause-names c = unchanged

pub returns-clause-needs : goal.returns-clause-needs
returns-clause-needs c = agrees_after
