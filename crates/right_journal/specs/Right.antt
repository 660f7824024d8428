-- When a journal is right behind another, or at the beginning.
use Rattle.std.specs.Prelude.{◌≡◌, ℕ, ◌-◌, true, List, ◌∷◌, ◌++◌, length, take, Option, Some, None, ⊤}
use Rattle.conversation.specs.declared.ended.Ended.{Ended}
use Rattle.conversation.specs.declared.ended.Ended.TheVariants as ended
use Rattle.http_in.specs.FaultNumber.{fault_number}
use Rattle.site_journal.specs.declared.talk.Talk.{Talk}
use Rattle.site_words.specs.Law.{Follows, Legal}
use Rattle.site_words.specs.Opening.{is_sound, next_opening}
use Rattle.site_words.specs.State.{after}
use Rattle.site_words.specs.Trees.{Needs}
use Rattle.site_words.specs.declared.words.Entry.{Entry}
use Rattle.site_words.specs.declared.words.Opening.{Opening}
use Rattle.talk_law.specs.RightTalk.{IsRightTalk}

-- a journal's opening, its history with the Roll at its end, and its talk
pub record Journal : Type 0 where
  pub opening : Opening
  pub history : List Entry
  pub talk : Option Talk

-- the opening that goes on from a journal: the state after its Roll, with the same seed, limit, passes and idle time
abbrev pub goes_on_as : Needs → Journal → Opening
goes_on_as needs before = next_opening before.opening (after needs before.opening before.history)

-- behind a journal stands the opening that goes on from it; at the beginning any may stand
abbrev pub GoesOn : Needs → Option Journal → Opening → Type 0
GoesOn needs None x = ⊤
GoesOn needs (Some before) x = x ≡ goes_on_as needs before

pub record IsRightOpening (needs : Needs) (before : Option Journal) (x : Opening) : Type 0 where
  pub sound : is_sound x ≡ true
  pub goes_on : GoesOn needs before x

-- the number of an end: 0, or that of the fault
abbrev pub IsNumberOf : ℕ → Ended → Type 0
IsNumberOf number ended.Done = number ≡ 0
IsNumberOf number (ended.Refused fault) = number ≡ fault_number fault
IsNumberOf number ended.ReadFault = ⊥
IsNumberOf number ended.WriteFault = ⊥
IsNumberOf number ended.NoMemory = ⊥

-- a history up to its last entry, which is the Roll
abbrev pub unrolled : List Entry → List Entry
unrolled history = take (length history - 1) history

-- there is no talk, or one pass acts, the answers are those for the talk's bytes at its moments from the opening on, they use every entry but
-- the Roll and every moment, and the end is the talk's
abbrev pub HasRightTalk : Needs → Opening → List Entry → Option Talk → Type 0
HasRightTalk needs x history None = ⊤
HasRightTalk needs x history (Some talk) = (end : Ended) × IsNumberOf talk.ended end × IsRightTalk needs x (unrolled history) talk.bytes talk.moments talk.answers end

-- a journal is right: its opening, its entries, its talk
pub record IsRight (needs : Needs) (before : Option Journal) (j : Journal) : Type 0 where
  pub opening : IsRightOpening needs before j.opening
  pub entries : Legal needs j.opening j.history
  pub talk : HasRightTalk needs j.opening j.history j.talk

-- the entry at this place is the first that can't come after those before it, or hasn't the reply that it must have
pub record FailsAt (needs : Needs) (x : Opening) (history : List Entry) (place : ℕ) : Type 0 where
  pub front : List Entry
  pub entry : Entry
  pub back : List Entry
  pub is : history ≡ front ++ entry ∷ back
  pub at : length front ≡ place
  pub legal : Legal needs x front
  pub fails : Follows needs x (after needs x front) entry → ⊥
