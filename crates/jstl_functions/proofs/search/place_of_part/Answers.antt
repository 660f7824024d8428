use Rattle.jstl_functions.proofs.Places.{place_found}
use Rattle.jstl_functions.proofs.search.place_of_part.Goals as goal

pub returns-clause-value : goal.returns-clause-value
returns-clause-value c = place_found c.args.part.now c.args.text.now c.find.result c.find.ensures.cases
