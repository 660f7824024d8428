use Rattle.std.proofs.Common.{arith, subst, sym}
use Rattle.std.specs.Prelude.{Err, Ok}
use Rattle.compiled_pages.specs.Pages.{needs_at}
use Rattle.journal_audit.proofs.Audits.{further, said_no, stops}
use Rattle.journal_audit.specs.Audit.{Audited}
use Rattle.journal_audit.specs.Judge.{IsJudged, seen}
use Rattle.journal_audit.proofs.auditing.audit.Goals as goal

pub returns-in-Err : goal.returns-in-Err
returns-in-Err g c =
    let left = g.S.Source.left c.args.source.now in
    let first = g.S.Source.faults c.args.source.now in
    let now = g.S.Source.faults c.next_journal.new.source in
    subst (λ f. Audited needs_at left first now (Err f)) (sym c.fault_of.ensures)
    (stops needs_at c.in-Err.failure left (g.S.Source.left c.journals.source) c.journals.room first (g.S.Source.faults c.journals.source) now c.journals.before c.journals.journals c.journals.entries c.journals.invariant.so_far
    c.journals.invariant.later c.in-Err.ensures.answered)

pub returns-in-Ok-Wrong : goal.returns-in-Ok-Wrong
returns-in-Ok-Wrong g c =
    let left = g.S.Source.left c.args.source.now in
    let first = g.S.Source.faults c.args.source.now in
    let now = g.S.Source.faults c.next_journal.new.source in
    let j = c.in-Ok-Some.journal in
    subst (λ v. Audited needs_at left first now (Ok v)) (sym c.wrong.ensures)
    (said_no needs_at left (g.S.Source.left c.journals.source) (g.S.Source.left c.next_journal.new.source) c.journals.room c.next_journal.new.room c.journals.before c.journals.journals c.journals.entries c.in-Ok-Wrong.why j
    c.journals.invariant.so_far (rw c.in-Ok-Some.field-0-is at c.in-Ok-Some.ensures.answered) (λ last goes. subst (IsJudged needs_at last (seen j)) c.in-Ok-Wrong.field-0-is (c.in-Ok-Wrong.ensures last goes)))

pub journals-preserved : goal.journals-preserved
journals-preserved g c =
    let j = c.in-Ok-Some.journal in
    record {
      so_far =
          further needs_at (g.S.Source.left c.args.source.now) (g.S.Source.left c.journals.source) (g.S.Source.left c.next_journal.new.source) c.journals.room c.next_journal.new.room c.journals.before c.in-Ok-Right.opening
          c.journals.journals c.journals.entries c.len-count.result j c.journals.invariant.so_far (rw c.in-Ok-Some.field-0-is at c.in-Ok-Some.ensures.answered) c.len-count.ensures
          (λ last goes. subst (IsJudged needs_at last (seen j)) c.in-Ok-Right.field-0-is (c.in-Ok-Right.ensures last goes));
      later = omega (arith, c.journals.invariant.later, c.next_journal.ensures.counted);
    }
