-- What the command `check` reads, writes and answers.
use Rattle.std.specs.Prelude.{ℕ, ◌≡◌, ◌≤◌, ◌+◌, List, [], ◌++◌, length, codes, nat_lt, Option, Some, None, if◌then◌else◌}
use Rattle.std.specs.Io.KnownBytes.{Appends, Consumes}
use Rattle.std.specs.Str.{is_utf8}
use Rattle.pg_text.specs.declared.place.PageFault.{PageFault}
use Rattle.source_tree.specs.declared.limits.TheConstants.{MAX_FILE_BYTES}
use Rattle.fault_line.specs.FaultLine.{page_fault_line}
use Rattle.http_out.specs.Sent.{BreaksOff}
use Rattle.unit_source.specs.Files.{text_in}
use Rattle.unit_words.specs.Needs.{bytes_of}
use Rattle.unit_words.specs.Unit.{unit_of}
use Rattle.whole_input.specs.Come.{HasCome}
use Rattle.pages_check.specs.Page.{alone, page_fault}
use Rattle.pages_check.specs.declared.checked.Checked.{Checked}
use Rattle.pages_check.specs.declared.checked.Checked.TheVariants.{Good, Bad, ReadFault, WriteFault, NoMemory}

-- what is told of a page with this fault, or with none
abbrev pub report : Option PageFault → List ℕ
report None = codes "ok\n"
report (Some fault) = page_fault_line fault ++ codes "\n"

-- how the check of a page with this fault, or with none, ends
abbrev pub verdict : Option PageFault → Checked
verdict None = Good
verdict (Some fault) = Bad

-- how many bytes the unit of a page with this text reads
abbrev pub unit_steps : (path text : List ℕ) → ℕ
unit_steps path text = bytes_of (text_in (alone path text)) (unit_of (text_in (alone path text)) path text).deps

-- how many bytes the check of a page with these bytes reads: what is too large or no UTF-8 has no unit
unfoldable pub check_steps : (path bytes : List ℕ) → ℕ
check_steps path bytes = if nat_lt MAX_FILE_BYTES (length bytes) then 0 else if is_utf8 bytes then unit_steps path bytes else 0

-- the page that came was checked, and its report written
pub record IsReported (path : List ℕ) (left later old new : Option (List ℕ)) (before now : ℕ) (answer : Checked) : Type 0 where
  pub came : List ℕ
  pub come : HasCome MAX_FILE_BYTES left later came
  pub answered : answer ≡ verdict (page_fault path came)
  pub written : Appends old new (report (page_fault path came))
  pub steps : now ≡ before + check_steps path came

-- a part of the page came, and nothing was written
pub record StoppedReading (left later old new : Option (List ℕ)) (before now : ℕ) : Type 0 where
  pub came : List ℕ
  pub consumed : Consumes left later came
  pub written : Appends old new []
  pub steps : now ≡ before

-- the page that came was checked, and a part of its report written
pub record StoppedWriting (path : List ℕ) (left later old new : Option (List ℕ)) (before now : ℕ) : Type 0 where
  pub came : List ℕ
  pub come : HasCome MAX_FILE_BYTES left later came
  pub broke : BreaksOff old new [] (report (page_fault path came))
  pub steps : now ≡ before + check_steps path came

-- a part of the page came, or all, and nothing was written
pub record StoppedForMemory (left later old new : Option (List ℕ)) (before now : ℕ) : Type 0 where
  pub came : List ℕ
  pub consumed : Consumes left later came
  pub written : Appends old new []
  pub steps : before ≤ now

-- what an outcome says of the check of a page at a path: left and later are what the source had and has left, old and new what the sink had and has taken, before and now the steps
abbrev pub Tells : (path : List ℕ) → (left later old new : Option (List ℕ)) → (before now : ℕ) → Checked → Type 0
Tells path left later old new before now ReadFault = StoppedReading left later old new before now
Tells path left later old new before now WriteFault = StoppedWriting path left later old new before now
Tells path left later old new before now NoMemory = StoppedForMemory left later old new before now
Tells path left later old new before now answer = IsReported path left later old new before now answer

-- the status of the program
abbrev pub exit_status : Checked → ℕ
exit_status Good = 0
exit_status Bad = 6
exit_status ReadFault = 3
exit_status WriteFault = 4
exit_status NoMemory = 5
