-- The share of each context in what is said on a connection.
use Rattle.std.specs.Prelude.{◌≡◌, ◌+◌, ℕ, Bool, List}
use Rattle.context_desk.specs.Shares.{AllTaken, HasShares}
use Rattle.context_words.specs.Parts.{Lent, Part, stand_at}
use Rattle.context_words.specs.Said.{IsSaidIn}
use Rattle.conversation.specs.Conversation.{WalkedBy}
use Rattle.conversation.specs.Exchange.{Exchange}
use Rattle.edges.specs.Clock.{Answers, Moments}
use Rattle.talk_words.specs.Connection.{Connection}
use Rattle.talk_words.specs.Said.{IsSaid}

-- the moments that an exchange took, and the bytes that were read for it
pub record Taken : Type 0 where
  pub moments : List ℕ
  pub bytes : ℕ

-- a clock answers these moments, one after the other
abbrev pub Tells : Moments → List ℕ → Moments → Type 0
Tells before moments later = AllTaken (λ before moment later. Answers before later moment) before moments later

-- so much was taken of what is lent
abbrev pub Takes : Lent → Taken → Lent → Type 0
Takes old taken new = Tells old.moments taken.moments new.moments × (new.steps ≡ old.steps + taken.bytes)

-- each context walks over its share alone, with the moments that its own requests took
abbrev pub HasOwnShares : (H : Type 0) → Type 0
HasOwnShares H = HasShares Takes (IsSaidIn {H = H})

-- and such a walk is one of a connection to its site
abbrev pub AreOwnWalks : Type 0
AreOwnWalks =
    (w : Connection) (old new : Part × Lent) (share : List (Bool × Exchange))
    → WalkedBy {W = Part × Lent} (λ close old e new. IsSaid w close (stand_at old.0 old.1) e (stand_at new.0 new.1)) old share new
    → WalkedBy (IsSaid w) (stand_at old.0 old.1) share (stand_at new.0 new.1)
