-- A text that goes to a sink through a buffer.
use Rattle.std.specs.Prelude.{◌≡◌, ◌≤◌, ℕ, ◌++◌, Bool, true, false, List, Option}
use Rattle.std.specs.Io.KnownBytes.{Appends}
use Rattle.edges.specs.Faults.{Rose}
use Rattle.http_out.specs.Sent.{Sent}

-- the bytes that are gathered, and whether the sink has failed in the text
pub record Buffer : Type 0 where
  pub bytes : List ℕ
  pub failed : Bool

-- the sink has taken the text but for these bytes at its end
pub record SentUpTo (old new : Option (List ℕ)) (text bytes : List ℕ) : Type 0 where
  pub front : List ℕ
  pub taken : Appends old new front
  pub whole : text ≡ front ++ bytes

-- by whether the sink has failed: it has taken a part of the text, or all but these bytes at its end
abbrev pub SentOr : Bool → Option (List ℕ) → Option (List ℕ) → List ℕ → List ℕ → Type 0
SentOr false old new text bytes = SentUpTo old new text bytes
SentOr true old new text bytes = Sent old new text true

-- the sink has taken the text but for what the buffer holds; or a part of it, where the sink has failed
abbrev pub SentBut : Option (List ℕ) → Option (List ℕ) → List ℕ → Buffer → Type 0
SentBut old new text buffer = SentOr buffer.failed old new text buffer.bytes

-- a text goes on by these bytes, through the buffer, and the sink's count of faults rises where it fails; taken and now are what it had and has
-- taken, count and later its counts of faults
pub record Writes (taken now : Option (List ℕ)) (count later : ℕ) (buffer after_it : Buffer) (bytes : List ℕ) : Type 0 where
  pub sent : (old : Option (List ℕ)) (front : List ℕ) → SentBut old taken front buffer → SentBut old now (front ++ bytes) after_it
  pub counted : count ≤ later
  pub rose : (before : ℕ) → before ≤ count → (buffer.failed ≡ true → Rose before count) → after_it.failed ≡ true → Rose before later
