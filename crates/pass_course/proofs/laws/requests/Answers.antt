use Rattle.pass_course.proofs.UnderLemmas.{under_is_tested}
use Rattle.pass_course.proofs.laws.requests.Goals as goal

pub returns : goal.returns
returns c = record { tested = under_is_tested }
