-- What is said of the bytes of journals.
use Rattle.std.specs.Prelude.{◌≡◌, ℕ, ◌+◌, List, [], ◌∷◌, ◌++◌, length, flat_map, Option, Some, None, ⊤}
use Rattle.right_journal.specs.Right.{FailsAt, HasRightTalk, IsRight, IsRightOpening, Journal}
use Rattle.site_journal.specs.Journal.{journal}
use Rattle.site_journal.specs.Reading.{IsJournal}
use Rattle.site_words.specs.Law.{Legal}
use Rattle.site_words.specs.Trees.{Needs}

-- the bytes of a journal
abbrev pub of_journal : Journal → List ℕ
of_journal j = journal j.opening j.history j.talk

abbrev pub CanBe : Journal → Type 0
CanBe j = IsJournal j.opening j.history j.talk

-- each journal is right behind the one before it
abbrev pub AllRight : Needs → Option Journal → List Journal → Type 0
AllRight needs before [] = ⊤
AllRight needs before (j ∷ journals) = CanBe j × IsRight needs before j × AllRight needs (Some j) journals

-- the last of them, or the one before them all
abbrev pub last_of : Option Journal → List Journal → Option Journal
last_of before [] = before
last_of before (j ∷ journals) = last_of (Some j) journals

-- the part of a journal that is wrong first
pub data Why : Type 0 where
  at_opening : Why
  at_entry : ℕ → Why
  at_talk : Why

abbrev pub IsWrong : Needs → Option Journal → Journal → Why → Type 0
IsWrong needs before j at_opening = IsRightOpening needs before j.opening → ⊥
IsWrong needs before j (at_entry place) = IsRightOpening needs before j.opening × FailsAt needs j.opening j.history place
IsWrong needs before j at_talk = IsRightOpening needs before j.opening × Legal needs j.opening j.history × (HasRightTalk needs j.opening j.history j.talk → ⊥)

-- what may be said
pub data Verdict : Type 0 where
  -- the bytes are so many right journals, with so many entries
  yes : (journals entries : ℕ) → Verdict
  -- so many right ones stand at the beginning, and then one that isn't
  no : (journals : ℕ) → Why → Verdict
  -- so many right ones stand at the beginning, and then something that doesn't begin with a journal
  no_journal : (journals : ℕ) → Verdict

abbrev pub entries_in : List Journal → ℕ
entries_in [] = 0
entries_in (j ∷ journals) = length j.history + entries_in journals

-- right journals stand at the front of the bytes, and this is what is behind them
pub record Begins (needs : Needs) (bytes : List ℕ) (journals : List Journal) (rest : List ℕ) : Type 0 where
  pub right : AllRight needs None journals
  pub is : bytes ≡ flat_map of_journal journals ++ rest

-- a journal stands at the front of the bytes, and is wrong
pub record BeginsWrong (needs : Needs) (before : Option Journal) (rest : List ℕ) (why : Why) : Type 0 where
  pub journal : Journal
  pub more : List ℕ
  pub can_be : CanBe journal
  pub is : rest ≡ of_journal journal ++ more
  pub wrong : IsWrong needs before journal why

-- something is there, and no journal
abbrev pub BeginsWithNone : List ℕ → Type 0
BeginsWithNone rest = (rest ≡ [] → ⊥) × ((j : Journal) (more : List ℕ) → CanBe j → rest ≡ of_journal j ++ more → ⊥)

-- the verdict on the bytes
abbrev pub Holds : Needs → List ℕ → Verdict → Type 0
Holds needs bytes (yes count entries) = (journals : List Journal) × Begins needs bytes journals [] × (count ≡ length journals) × (entries ≡ entries_in journals)
Holds needs bytes (no count why) = (journals : List Journal) × (rest : List ℕ) × Begins needs bytes journals rest × (count ≡ length journals) × BeginsWrong needs (last_of None journals) rest why
Holds needs bytes (no_journal count) = (journals : List Journal) × (rest : List ℕ) × Begins needs bytes journals rest × (count ≡ length journals) × BeginsWithNone rest

-- there is one verdict on the bytes
abbrev pub VerdictsAreOne : Type 0
VerdictsAreOne = (needs : Needs) (bytes : List ℕ) (v w : Verdict) → Holds needs bytes v → Holds needs bytes w → v ≡ w
