-- What recording one connection comes to.
use Rattle.std.specs.Prelude.{◌≡◌, ℕ, List, [], Option, Result, Ok, Err, true}
use Rattle.std.specs.Io.KnownBytes.{Appends}
use Rattle.edges.specs.Faults.{Rose}
use Rattle.http_out.specs.Sent.{Sent}
use Rattle.pages_record.specs.Recorded.{IsRecorded}
use Rattle.pages_record.specs.declared.recorded.Recorded.{Recorded}
use Rattle.pages_record.specs.declared.recorded.Recorded.TheVariants.{Done, NotListed, ReadFault, WriteFault, NoMemory}
use Rattle.site_core.specs.Lived.{Lived}
use Rattle.site_words.specs.declared.words.Opening.{Opening}

-- the journal was written, and a site goes on, at its beginning
pub record GoesOn (x : Opening) (bytes : List ℕ) (old new : Option (List ℕ)) (steps now : ℕ) (next : Lived) : Type 0 where
  pub text : List ℕ
  pub recorded : IsRecorded x bytes steps now next.opening text
  pub written : Appends old new text
  pub one : next.opening.passes ≡ 1
  pub at_start : next.history ≡ []

-- a part of the journal was written, since the sink failed
pub record BreaksOffIn (x : Opening) (bytes : List ℕ) (old new : Option (List ℕ)) (before risen : ℕ) (steps now : ℕ) : Type 0 where
  pub text : List ℕ
  pub next : Opening
  pub recorded : IsRecorded x bytes steps now next text
  pub sent : Sent old new text true
  pub rose : Rose before risen

-- why recording ended at a connection: for a failed sink or for memory alone
abbrev pub Ends : (x : Opening) → (bytes : List ℕ) → (old new : Option (List ℕ)) → (before risen steps now : ℕ) → Recorded → Type 0
Ends x bytes old new before risen steps now Done = ⊥
Ends x bytes old new before risen steps now NotListed = ⊥
Ends x bytes old new before risen steps now ReadFault = ⊥
Ends x bytes old new before risen steps now WriteFault = BreaksOffIn x bytes old new before risen steps now
Ends x bytes old new before risen steps now NoMemory = Appends old new []

-- what recording a connection to a site with this opening comes to: before and risen are the sink's counts of faults
abbrev pub ComesOnce : (x : Opening) → (bytes : List ℕ) → (old new : Option (List ℕ)) → (before risen steps now : ℕ) → Result Lived Recorded → Type 0
ComesOnce x bytes old new before risen steps now (Ok next) = GoesOn x bytes old new steps now next
ComesOnce x bytes old new before risen steps now (Err why) = Ends x bytes old new before risen steps now why
