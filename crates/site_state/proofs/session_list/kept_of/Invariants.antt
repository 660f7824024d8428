use Rattle.std.proofs.Common.{◌≡◌, ◌++◌}
use Rattle.std.specs.Iterator.Adapters.{rev_source}
use Rattle.site_state.specs.LastUses.{sessions_in}
use Rattle.site_state.specs.Sources.{sessions_of}
use Rattle.site_state.proofs.session_list.kept_of.Given as goal

-- the sessions so far, with their attributes, and those to come
abbrev pub invariant-loop-number : goal.invariant-loop-number
invariant-loop-number l = record {
  next : (goal.iterator-loop-number).can_next l.number-iterator;
  ends : (goal.iterator-loop-number).is_finite l.number-iterator;
  all : l.kept.items ++ sessions_of l.opened l.history.items (sessions_in (rev_source l.number-iterator)) ≡ sessions_of l.opened l.history.items (sessions_in l.uses.entries);
}
