-- A connection whose clock noted its moments, and the same connection over a clock that tells them.
use Rattle.std.specs.Prelude.{◌≡◌, ℕ, List, ◌∷◌, ◌++◌, Bool, Option, Some, None}
use Rattle.conversation.specs.Conversation.{Tells, WalkedBy}
use Rattle.conversation.specs.Exchange.{Exchange}
use Rattle.conversation.specs.declared.ended.Ended.{Ended}
use Rattle.edges.specs.Clock.{Moments}
use Rattle.talk_words.specs.Connection.{Connection, Stand, stand_of}
use Rattle.talk_words.specs.Said.{IsLeft, IsSaid}
use Rattle.page_answers.specs.Standing.{standing_of}

-- of a clock that tells these moments, and notes none
abbrev pub telling : List ℕ → Moments
telling ahead = record { ahead = Some ahead; noted = None }

-- the stand, with a clock that tells this
abbrev pub with_moments : Stand → Moments → Stand
with_moments stand moments = stand_of stand.draft (standing_of stand.at.seen moments stand.at.steps)

-- between two stands the clock noted these moments
pub record HasNoted (old : Stand) (noted : List ℕ) (new : Stand) : Type 0 where
  pub before : List ℕ
  pub before_is : old.at.moments.noted ≡ Some before
  pub after_is : new.at.moments.noted ≡ Some (before ++ noted)

-- what was said while a clock noted is said again over a clock that tells the noted moments, one behind them, and perhaps more: that one and the more are left
pub record IsToldAgain : Type 0 where
  pub walked :
      (w : Connection) (old new : Stand) (exchanges : List (Bool × Exchange)) (noted : List ℕ) (behind : ℕ) (more : List ℕ) → HasNoted old noted new → WalkedBy (IsSaid w) old exchanges new
      → WalkedBy (IsSaid w) (with_moments old (telling (noted ++ behind ∷ more))) exchanges (with_moments new (telling (behind ∷ more)))
  pub talked :
      (w : Connection) (start now : Stand) (left later : Option (List ℕ)) (before after : ℕ) (old new : Option (List ℕ)) (ended : Ended) (noted : List ℕ) (behind : ℕ) (more : List ℕ)
      → HasNoted start noted now → Tells (IsSaid w) (IsLeft w) start now left later before after old new ended
      → Tells (IsSaid w) (IsLeft w) (with_moments start (telling (noted ++ behind ∷ more))) (with_moments now (telling (behind ∷ more))) left later before after old new ended
