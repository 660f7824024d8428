use Rattle.page_meaning.proofs.Answering.{requests_go_on, pieces_are_committed, answers_are_unused}
use Rattle.page_meaning.proofs.laws.requests.Goals as goal

pub returns-clause-more : goal.returns-clause-more
returns-clause-more c = requests_go_on

pub returns-clause-pieces : goal.returns-clause-pieces
returns-clause-pieces c = pieces_are_committed

pub returns-clause-unused : goal.returns-clause-unused
returns-clause-unused c = answers_are_unused
