-- Where one pass alone acts, what is said on its connection is determined.
use Rattle.std.specs.Prelude.{◌≡◌, ℕ, List, Option, Some, ⊤}
use Rattle.conversation.specs.Conversation.{Tells}
use Rattle.conversation.specs.declared.ended.Ended.{Ended}
use Rattle.conversation.specs.declared.ended.Ended.TheVariants as ended
use Rattle.edges.specs.Clock.{Moments}
use Rattle.site_words.specs.Law.{Legal}
use Rattle.talk_words.specs.Connection.{Connection, Stand}
use Rattle.talk_words.specs.Noted.{telling}
use Rattle.talk_words.specs.Said.{IsLeft, IsSaid}

-- the connection's pass is the site's only one
pub record IsAlone (w : Connection) : Type 0 where
  pub one : w.opening.passes ≡ 1
  pub first : w.pass ≡ 0

-- the clock tells what is ahead, and notes nothing
abbrev pub TellsMoments : Moments → Type 0
TellsMoments told = (moments : List ℕ) × (told ≡ telling moments)

-- the connection came to its end by its bytes: no fault of the outside ended it, and memory didn't
-- run out
abbrev pub IsByBytes : Ended → Type 0
IsByBytes ended.Done = ⊤
IsByBytes (ended.Refused fault) = ⊤
IsByBytes ended.ReadFault = ⊥
IsByBytes ended.WriteFault = ⊥
IsByBytes ended.NoMemory = ⊥

-- two ways that a connection went are one: the same entries, draft, moments and bytes read, the same end, and the same answers
pub record AreOneWay (now other : Stand) (answer last : Ended) (old new after : Option (List ℕ)) : Type 0 where
  pub stand : other ≡ now
  pub ended : last ≡ answer
  pub answers : (taken : List ℕ) → old ≡ Some taken → after ≡ new

-- where one pass alone acts, the history, the end and the answers are functions of the bytes, the site as it was, and the moments ahead
abbrev pub TalksAreOne : Type 0
TalksAreOne =
    (w : Connection) (start now other : Stand) (bytes : List ℕ) (later still : Option (List ℕ)) (before risen first last : ℕ) (old new after : Option (List ℕ)) (answer end : Ended)
    → IsAlone w → Legal w.needs w.opening start.at.seen → TellsMoments start.at.moments
    → IsByBytes answer → Tells (IsSaid w) (IsLeft w) start now (Some bytes) later before risen old new answer
    → IsByBytes end → Tells (IsSaid w) (IsLeft w) start other (Some bytes) still first last old after end
    → AreOneWay now other answer end old new after
