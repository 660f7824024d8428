-- The lines that tell what the auditor answers.
use Rattle.std.specs.Prelude.{ℕ, List, ◌++◌, codes, decimal, Option, Some, None, Result, Ok, Err}
use Rattle.journal_audit.specs.declared.verdict.AuditFault.{AuditFault}
use Rattle.journal_audit.specs.declared.verdict.AuditFault.TheVariants.{NoMemory, NotJournal, ReadFault, TooLong}
use Rattle.journal_audit.specs.declared.verdict.Verdict.{Verdict}
use Rattle.journal_audit.specs.declared.verdict.Verdict.TheVariants.{No, Yes}
use Rattle.journal_audit.specs.declared.verdict.Why.{Why}
use Rattle.journal_audit.specs.declared.verdict.Why.TheVariants as why

-- a wrong journal, behind so many right ones
abbrev pub no_line : ℕ → Why → List ℕ
no_line count why.Opening = codes "no " ++ decimal count ++ codes " opening\n"
no_line count (why.Entry place) = codes "no " ++ decimal count ++ (codes " entry " ++ decimal place ++ codes "\n")
no_line count why.Talk = codes "no " ++ decimal count ++ codes " talk\n"

-- where the source failed or memory ran out there is no line
abbrev pub line_of : Result Verdict AuditFault → Option (List ℕ)
line_of (Ok (Yes journals entries)) = Some (codes "yes " ++ decimal journals ++ (codes " " ++ decimal entries ++ codes "\n"))
line_of (Ok (No journal why)) = Some (no_line journal why)
line_of (Err (NotJournal journal)) = Some (codes "notjournal " ++ decimal journal ++ codes "\n")
line_of (Err (TooLong journal)) = Some (codes "toolong " ++ decimal journal ++ codes "\n")
line_of (Err ReadFault) = None
line_of (Err NoMemory) = None

-- the status of the program
abbrev pub status_of : Result Verdict AuditFault → ℕ
status_of (Ok (Yes journals entries)) = 0
status_of (Ok (No journal why)) = 6
status_of (Err (NotJournal journal)) = 6
status_of (Err (TooLong journal)) = 6
status_of (Err ReadFault) = 3
status_of (Err NoMemory) = 5
