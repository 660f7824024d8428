-- What the program of the auditor does.
use Rattle.std.specs.Prelude.{◌≡◌, ◌≢◌, ℕ, List, [], Option, Some, None, Result, true}
use Rattle.std.specs.Io.KnownBytes.{Appends}
use Rattle.http_out.specs.Sent.{Sent}
use Rattle.journal_audit.specs.Audit.{Audited}
use Rattle.journal_audit.specs.Lines.{line_of, status_of}
use Rattle.journal_audit.specs.declared.verdict.AuditFault.{AuditFault}
use Rattle.journal_audit.specs.declared.verdict.Verdict.{Verdict}
use Rattle.site_words.specs.Trees.{Needs}

-- a line was written, or nothing where there is none
abbrev pub IsWritten : Option (List ℕ) → (old new : Option (List ℕ)) → Type 0
IsWritten None old new = Appends old new []
IsWritten (Some line) old new = Appends old new line

-- the answer's line was written and the status is the answer's; or the sink failed within the line,
-- with status 4; or memory ran out, with status 5, and nothing was written
pub record IsShown (answer : Result Verdict AuditFault) (old new : Option (List ℕ)) (status : ℕ) : Type 0 where
  pub whole : status ≢ 4 → status ≢ 5 → (status ≡ status_of answer) × IsWritten (line_of answer) old new
  pub broken : status ≡ 4 → (line : List ℕ) × (line_of answer ≡ Some line) × Sent old new line true
  pub wanting : status ≡ 5 → Appends old new []

-- what came is answered so, and shown with this status: left is what the source had, before and now its counts of faults, old and new what the sink
-- had and has taken
pub record Told (needs : Needs) (left : Option (List ℕ)) (before now : ℕ) (old new : Option (List ℕ)) (status : ℕ) : Type 0 where
  pub answer : Result Verdict AuditFault
  pub audited : Audited needs left before now answer
  pub shown : IsShown answer old new status
