-- The line that tells an answer, and the status.
use Rattle.std.proofs.Common.{◌≡◌, ◌≢◌, ℕ, true, List, Option, Some, refl, sym, subst}
use Rattle.std.specs.Prelude.{Result, Ok, Err}
use Rattle.std.specs.Io.KnownBytes.{Appends}
use Rattle.http_out.specs.Sent.{Sent}
use Rattle.journal_audit.specs.Command.{IsShown, IsWritten}
use Rattle.journal_audit.specs.Lines.{line_of, status_of}
use Rattle.journal_audit.specs.declared.verdict.AuditFault.{AuditFault}
use Rattle.journal_audit.specs.declared.verdict.AuditFault.TheVariants.{NoMemory, NotJournal, ReadFault, TooLong}
use Rattle.journal_audit.specs.declared.verdict.Verdict.{Verdict}
use Rattle.journal_audit.specs.declared.verdict.Verdict.TheVariants.{No, Yes}

-- the statuses of answers that a line tells
pub record IsTold (status : ℕ) : Type 0 where
  pub words : status ≢ 1
  pub read : status ≢ 3
  pub write : status ≢ 4
  pub memory : status ≢ 5

zero_told : IsTold 0
zero_told = record { words = λ e. absurd (cc); read = λ e. absurd (cc); write = λ e. absurd (cc); memory = λ e. absurd (cc) }

six_told : IsTold 6
six_told = record { words = λ e. absurd (cc); read = λ e. absurd (cc); write = λ e. absurd (cc); memory = λ e. absurd (cc) }

pub told_status : (answer : Result Verdict AuditFault) (line : List ℕ) → line_of answer ≡ Some line → IsTold (status_of answer)
told_status (Ok (Yes journals entries)) line is = zero_told
told_status (Ok (No journal why)) line is = six_told
told_status (Err (NotJournal journal)) line is = six_told
told_status (Err (TooLong journal)) line is = six_told
told_status (Err ReadFault) line is = absurd (cc)
told_status (Err NoMemory) line is = absurd (cc)

pub shown_whole : (answer : Result Verdict AuditFault) (line : List ℕ) (old new : Option (List ℕ)) (status : ℕ) → line_of answer ≡ Some line → Appends old new line → status ≡ status_of answer → IsShown answer old new status
shown_whole answer line old new status is written same =
    let told : IsTold status = subst IsTold (sym same) (told_status answer line is) in
    record {
      whole = λ a b. (same, subst (λ l. IsWritten l old new) (sym is) written);
      broken = λ e. absurd (told.write e);
      wanting = λ e. absurd (told.memory e);
    }

pub shown_broken : (answer : Result Verdict AuditFault) (line : List ℕ) (old new : Option (List ℕ)) → line_of answer ≡ Some line → Sent old new line true → IsShown answer old new 4
shown_broken answer line old new is sent = record { whole = λ a b. absurd (a refl); broken = λ e. (line, is, sent); wanting = λ e. absurd (cc) }
