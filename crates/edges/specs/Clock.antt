-- What a clock tells of its moments, and what it answers.
use Rattle.std.specs.Prelude.{◌≡◌, ⊤, ℕ, List, [], ◌∷◌, ◌++◌, drop, length, nat_lt, slice_index, Option, Some, None, if◌then◌else◌}

-- of a clock: the moments still ahead, and those that it has answered, each where the clock tells them
pub record Moments : Type 0 where
  pub ahead : Option (List ℕ)
  pub noted : Option (List ℕ)

-- the moments that are ahead once the first was answered: without it, unless it is the only one
abbrev pub ahead_after : List ℕ → List ℕ
ahead_after moments = if nat_lt 1 (length moments) then drop 1 moments else moments

-- a clock that tells what is ahead answers the first moment and goes on; one that doesn't tell may answer any
abbrev pub GoesAhead : Option (List ℕ) → Option (List ℕ) → ℕ → Type 0
GoesAhead None later now = later ≡ None
GoesAhead (Some moments) later now = (now ≡ slice_index moments 0) × (later ≡ Some (ahead_after moments))

-- what was noted has the moment behind it, or isn't told from here on
abbrev pub GoesNoted : Option (List ℕ) → Option (List ℕ) → ℕ → Type 0
GoesNoted None later now = later ≡ None
GoesNoted (Some noted) None now = ⊤
GoesNoted (Some noted) (Some later) now = later ≡ noted ++ now ∷ []

-- a clock answers a moment, by what it told before and tells behind it
pub record Answers (before later : Moments) (now : ℕ) : Type 0 where
  pub goes : GoesAhead before.ahead later.ahead now
  pub notes : GoesNoted before.noted later.noted now
