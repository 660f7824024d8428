use Rattle.pass_course.proofs.CourseLemmas.{calls_are_courses, courses_join}
use Rattle.pass_course.proofs.laws.courses.Goals as goal

pub returns-clause-calls : goal.returns-clause-calls
returns-clause-calls c = calls_are_courses

pub returns-clause-join : goal.returns-clause-join
returns-clause-join c = courses_join
