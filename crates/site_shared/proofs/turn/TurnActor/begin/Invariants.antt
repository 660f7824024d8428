use Rattle.site_words.specs.Answers.{IsSamePort}
use Rattle.site_words.specs.Calls.{Stays}
use Rattle.site_shared.proofs.turn.TurnActor.begin.Given as goal

abbrev pub invariant-loop-try : goal.invariant-loop-try
invariant-loop-try g l = record {
  same : IsSamePort l.fn.self.pass.number l.self.pass.number l.fn.self.site.now.opening l.self.site.now.opening l.fn.self.site.now l.self.site.now;
  stays : Stays g.P.Compiled.needs l.fn.self.site.now.opening l.fn.self.pass.number l.fn.self.pass.seen l.self.pass.seen;
}
