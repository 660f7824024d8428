use Rattle.unit_words.proofs.LeastNames.{names_of_reading}
use Rattle.unit_words.proofs.laws.unit_laws.Goals as goal

pub returns-clause-names : goal.returns-clause-names
returns-clause-names c = names_of_reading
