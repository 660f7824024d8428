-- Where one pass alone acts on a context's site, what is said there is determined by what is asked of that context.
use Rattle.std.specs.Prelude.{◌≡◌, ◌++◌, ℕ, Bool, List, [], ◌∷◌, map, Some}
use Rattle.std.specs.List.{slice_get}
use Rattle.context_desk.specs.Several.{Several}
use Rattle.context_desk.specs.Shares.{AreSharedBy, HasWalked, share, taken_by}
use Rattle.context_words.specs.Parts.{Lent, Part}
use Rattle.context_words.specs.Said.{IsSaidIn}
use Rattle.context_words.specs.Shared.{Taken, Takes}
use Rattle.conversation.specs.Exchange.{Exchange}
use Rattle.http_in.specs.declared.request.Request.{Request}
use Rattle.site_words.specs.Law.{Legal}
use Rattle.talk_law.specs.OneTalk.{IsAlone}
use Rattle.talk_words.specs.Connection.{Connection}

-- what was asked in these exchanges: the requests, each with whether the connection closes after it
abbrev pub all_asked : List (Bool × Exchange) → List (Bool × Request)
all_asked said = map (λ (e : Bool × Exchange). (e.0, e.1.request)) said

-- the moments that were taken, one after the other
abbrev pub all_moments : List Taken → List ℕ
all_moments [] = []
all_moments (t ∷ taken) = t.moments ++ all_moments taken

-- two walks of a context over its share alone are one: where one pass alone acts on its site, the answers, the draft and the history are functions of what was asked, of the moments that this took, and of the draft and the history that were there
abbrev pub WalksAreOne : (H : Type 0) → Type 0
WalksAreOne H =
    (place : Connection × H) (old new new' : Part) (said said' : List (Bool × Exchange)) (taken taken' : List Taken)
    → IsAlone place.0 → Legal place.0.needs place.0.opening old.seen
    → HasWalked Takes (IsSaidIn place) said taken old new → HasWalked Takes (IsSaidIn place) said' taken' old new'
    → all_asked said ≡ all_asked said' → all_moments taken ≡ all_moments taken'
    → (said ≡ said') × (new ≡ new')

-- in two worlds whose requests for one context and the moments that these took are the same, and where the same stood there, its answers and what stands there then are the same, whatever is asked of the others
abbrev pub IsSameInTwoWorlds : (H : Type 0) → Type 0
IsSameInTwoWorlds H =
    (names : List (List ℕ)) (places places' : List (Connection × H)) (number number' : ℕ) (old new old' new' : Several Part Lent) (exchanges exchanges' : List Exchange)
    (shared : AreSharedBy places Takes IsSaidIn old (λ context. share names context number exchanges) new)
    (shared' : AreSharedBy places' Takes IsSaidIn old' (λ context. share names context number' exchanges') new')
    (context : ℕ) (place : Connection × H) (before : Part)
    → slice_get places context ≡ Some place → slice_get places' context ≡ Some place
    → slice_get old.parts context ≡ Some before → slice_get old'.parts context ≡ Some before
    → IsAlone place.0 → Legal place.0.needs place.0.opening before.seen
    → all_asked (share names context number exchanges) ≡ all_asked (share names context number' exchanges')
    → all_moments (taken_by context shared.taken) ≡ all_moments (taken_by context shared'.taken)
    → (share names context number exchanges ≡ share names context number' exchanges') × (slice_get new.parts context ≡ slice_get new'.parts context)
