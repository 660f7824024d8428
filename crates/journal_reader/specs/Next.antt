-- The journal that stands next in a source.
use Rattle.std.specs.Prelude.{◌≡◌, ◌≤◌, ℕ, List, [], drop, Option, Some, None, Result, Ok, Err, IfSome}
use Rattle.std.specs.Io.KnownBytes.{Consumes, IsAtEnd}
use Rattle.journal_reader.specs.Reads.{HasRead, Stopped}
use Rattle.journal_reader.specs.declared.journal.Journal.{Journal}
use Rattle.journal_reader.specs.declared.unread.Unread.{Unread}
use Rattle.journal_reader.specs.declared.unread.Unread.TheVariants.{NotThere}
use Rattle.pg_text.specs.declared.failure.Failure.{Failure}
use Rattle.pg_text.specs.declared.failure.Failure.TheVariants.{Fault}
use Rattle.site_journal.specs.Journal.{journal}
use Rattle.site_journal.specs.Reading.{IsJournal}

-- a journal as it is read: the conditions of the format, and the bytes
abbrev pub IsJournalOf : Journal → Type 0
IsJournalOf j = IsJournal j.opening j.history j.talk

abbrev pub of_journal : Journal → List ℕ
of_journal j = journal j.opening j.history j.talk

-- its bytes behind the first
abbrev pub of_tail : Journal → List ℕ
of_tail j = drop 1 (of_journal j)

-- None exactly where no byte is left; else the journal that the bytes begin with, or why none was read, as of any part
abbrev pub IsNext : (left later : Option (List ℕ)) → (room rest before now : ℕ) → Result (Option Journal) (Failure Unread) → Type 0
IsNext left later room rest before now (Ok None) = IsAtEnd left
IsNext left later room rest before now (Ok (Some j)) = HasRead IsJournalOf of_journal left later room rest j
IsNext left later room rest before now (Err failure) =
    Stopped IsJournalOf of_journal left room before now failure × (failure ≡ Fault NotThere → IfSome left (λ bytes. bytes ≡ [] → ⊥))

-- what a call does that reads the journal that stands next: left and later are what the source had and has left, room and rest how many bytes might
-- and may be read, before and now the source's counts of faults
pub record ReadsNext (left later : Option (List ℕ)) (room rest before now : ℕ) (result : Result (Option Journal) (Failure Unread)) : Type 0 where
  pub answered : IsNext left later room rest before now result
  pub took : (came : List ℕ) × Consumes left later came
  pub counted : before ≤ now
