-- What the auditor answers.
use Rattle.std.specs.Prelude.{◌≡◌, ◌<◌, ◌+◌, ◌++◌, ℕ, List, length, flat_map, Option, Result, Ok, Err, IfSome, ⊤}
use Rattle.edges.specs.Faults.{Rose}
use Rattle.journal_audit.specs.Judge.{part_of}
use Rattle.journal_audit.specs.declared.verdict.AuditFault.{AuditFault}
use Rattle.journal_audit.specs.declared.verdict.AuditFault.TheVariants.{NoMemory, NotJournal, ReadFault, TooLong}
use Rattle.journal_audit.specs.declared.verdict.Verdict.{Verdict}
use Rattle.journal_audit.specs.declared.verdict.Verdict.TheVariants.{No, Yes}
use Rattle.journal_reader.specs.declared.unread.Unread.{Unread}
use Rattle.journal_reader.specs.declared.unread.Unread.TheVariants.{Failed, NotThere}
use Rattle.journal_reader.specs.declared.unread.Unread.TheVariants as unread
use Rattle.pg_text.specs.declared.failure.Failure.{Failure}
use Rattle.pg_text.specs.declared.failure.Failure.TheVariants.{Fault}
use Rattle.pg_text.specs.declared.failure.Failure.TheVariants as failure
use Rattle.right_journal.specs.Right.{Journal}
use Rattle.right_journal.specs.Verdict.{Begins, CanBe, Holds, no, no_journal, of_journal, yes}
use Rattle.right_journal.specs.Verdict as Said
use Rattle.site_words.specs.Trees.{Needs}

-- the most bytes that are read
abbrev pub most_bytes : ℕ
most_bytes = 4294967296

-- the verdict as it is defined of bytes
abbrev pub said : Verdict → Said.Verdict
said (Yes journals entries) = yes journals entries
said (No journal why) = no journal (part_of why)

-- right journals stand at the front of the bytes, there are more bytes than are read, and behind these journals none stands that ends within those
pub record IsTooLong (needs : Needs) (bytes : List ℕ) (count : ℕ) : Type 0 where
  pub journals : List Journal
  pub rest : List ℕ
  pub begins : Begins needs bytes journals rest
  pub counted : count ≡ length journals
  pub longer : most_bytes < length bytes
  pub beyond : (j : Journal) (more : List ℕ) → CanBe j → rest ≡ of_journal j ++ more → most_bytes < length (flat_map of_journal journals) + length (of_journal j)

-- why nothing more is said where no journal was read, behind so many right ones
abbrev pub fault_of : Failure Unread → ℕ → AuditFault
fault_of (Fault NotThere) count = NotJournal count
fault_of (Fault unread.TooLong) count = TooLong count
fault_of (Fault Failed) count = ReadFault
fault_of failure.NoMemory count = NoMemory

-- what the answer says of the bytes that came, where the source tells them; before and now are its counts of faults
abbrev pub Audited : Needs → (left : Option (List ℕ)) → (before now : ℕ) → Result Verdict AuditFault → Type 0
Audited needs left before now (Ok verdict) = IfSome left (λ bytes. Holds needs bytes (said verdict))
Audited needs left before now (Err (NotJournal count)) = IfSome left (λ bytes. Holds needs bytes (no_journal count))
Audited needs left before now (Err (TooLong count)) = IfSome left (λ bytes. IsTooLong needs bytes count)
Audited needs left before now (Err ReadFault) = Rose before now
Audited needs left before now (Err NoMemory) = ⊤
