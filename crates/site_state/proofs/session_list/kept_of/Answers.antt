use Rattle.std.proofs.Common.{◌∙◌}
use Rattle.std.specs.Iterator.Adapters.{rev_source}
use Rattle.site_state.proofs.UseLemmas.{kept_more}
use Rattle.site_state.proofs.session_list.kept_of.Goals as goal

pub loop-number-preserved : goal.loop-number-preserved
loop-number-preserved c = record {
  next = tt;
  ends = tt;
  all = kept_more c.args.opened.now c.args.history.now.items c.loop-number.kept.items c.push.new.self.items (rev_source c.loop-number.number-iterator) (rev_source c.next.new.self) (c.in-Some.number.now, c.in-Some.last.now) c.in_ok-attributes.field-0
      c.in-Some.ensures.steps c.in_ok-push.ensures.items c.in_ok-attributes.ensures
      ∙ c.loop-number.invariant.all;
}
