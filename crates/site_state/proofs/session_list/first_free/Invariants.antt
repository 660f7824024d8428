use Rattle.std.proofs.Common.{◌≡◌, map}
use Rattle.std.specs.Iterator.Adapters.{rev_source}
use Rattle.site_state.specs.LastUses.{sessions_in}
use Rattle.site_state.specs.Parts.{under_in}
use Rattle.site_state.specs.ReadSessions.{first_unheld}
use Rattle.site_state.proofs.session_list.first_free.Given as goal

-- those that were passed over are held
abbrev pub invariant-loop-number : goal.invariant-loop-number
invariant-loop-number l = record {
  next : (goal.iterator-loop-number).can_next l.number-iterator;
  ends : (goal.iterator-loop-number).is_finite l.number-iterator;
  held : first_unheld (map under_in l.runs) (sessions_in (rev_source l.number-iterator)) ≡ first_unheld (map under_in l.runs) (sessions_in l.uses.entries);
}
