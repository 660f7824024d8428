use Rattle.std.proofs.Common.{◌≤◌}
use Rattle.compiled_pages.specs.Pages.{needs_at}
use Rattle.journal_audit.proofs.Audits.{SoFar}
use Rattle.journal_audit.proofs.auditing.audit.Given as goal

-- right journals came, and no count of faults fell
abbrev pub invariant-journals : goal.invariant-journals
invariant-journals g l = record {
  so_far : SoFar needs_at (g.S.Source.left l.fn.source) (g.S.Source.left l.source) l.room l.before l.journals l.entries;
  later : g.S.Source.faults l.fn.source ≤ g.S.Source.faults l.source;
}

abbrev pub decreases-journals : goal.decreases-journals
decreases-journals g l = l.room
