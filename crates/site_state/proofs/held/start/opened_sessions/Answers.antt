use Rattle.std.proofs.Common.{sym, subst}
use Rattle.site_state.specs.Sources.{AreThere}
use Rattle.site_state.proofs.AttributeLemmas.{opened_apart, opened_more, there_push}
use Rattle.site_state.proofs.held.start.opened_sessions.Goals as goal

pub push-requires : goal.push-requires
push-requires c = opened_apart c.args.opened.now c.loop-index.sessions c.loop-index.index c.index-opened-index.result c.requires c.loop-index-test.true c.index-opened-index.is c.loop-index.invariant.sessions

pub loop-index-preserved : goal.loop-index-preserved
loop-index-preserved c = record {
  sessions = opened_more c.args.opened.now c.loop-index.sessions c.push.new.self c.loop-index.index c.index-opened-index.result c.loop-index-test.true c.index-opened-index.is c.loop-index.invariant.sessions c.in_ok-push.ensures.ok;
  there = subst (λ l. AreThere 0 l) (sym c.in_ok-push.ensures.ok) (there_push 0 c.loop-index.sessions _ c.loop-index.invariant.there tt);
}
