use Rattle.std.proofs.Common.{Some, sym, ap}
use Rattle.site_core.specs.Lived.{Lived}
use Rattle.talk_words.specs.Noted.{telling}
use Rattle.pages_load.proofs.running.converse.Goals as goal

pub returns-clause-spoken : goal.returns-clause-spoken
returns-clause-spoken g c = record {
  still = telling c.talk-ended.new.clock;
  later = Some c.talk-ended.new.source.rest;
  after = c.talk-ended.new.sink.faults;
  talked = record {
    draft = c.talk-ended.ensures.talk.0;
    history = c.talk-ended.new.port.actor.site.history;
    talk = rw (c.in_ok-port.ensures.opening, c.in_ok-port.ensures.history, c.new-source.ensures, c.in_ok-make.ensures, c.new-sink.ensures, c.new-clock.ensures, c.in_ok-vec.ensures.items) at c.talk-ended.ensures.talk.1;
    grown = rw (c.in_ok-port.ensures.opening, c.in_ok-port.ensures.history) at c.talk-ended.ensures.grown;
  };
  history_is = ap (λ (s : Lived). s.history) (sym c.into_site.ensures);
}
