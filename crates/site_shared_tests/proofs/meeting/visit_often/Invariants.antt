use Rattle.site_words.specs.Answers.{IsSamePort}
use Rattle.pass_course.specs.Course.{IsIdle}
use Rattle.site_shared_tests.proofs.meeting.visit_often.Given as goal

abbrev pub invariant-loop : goal.invariant-loop
invariant-loop g l = record {
  same : IsSamePort (g.Q.Port.pass l.fn.port) (g.Q.Port.pass l.port) (g.Q.Port.opening l.fn.port) (g.Q.Port.opening l.port) (g.Q.Port.home l.fn.port) (g.Q.Port.home l.port);
  idle : IsIdle (g.Q.Port.opening l.port) (g.Q.Port.pass l.port) (g.Q.Port.seen l.port);
}
