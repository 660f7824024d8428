-- The share of each context in a conversation.
use Rattle.std.specs.Prelude.{◌≡◌, ℕ, ◌+◌, ◌==◌, Bool, List, [], ◌∷◌, ◌++◌, map, Option, Some, None, if◌then◌else◌}
use Rattle.std.specs.List.{slice_get}
use Rattle.context_names.specs.Targets.{context_of}
use Rattle.conversation.specs.Conversation.{Walked, WalkedBy, closes}
use Rattle.conversation.specs.Exchange.{Exchange}
use Rattle.context_desk.specs.Several.{Answers, Does, Several, exchange_inside}

-- what was lent before exchanges and behind them, by what each takes of it, one after the other
abbrev pub AllTaken : {B T : Type 0} → (takes : B → T → B → Type 0) → B → List T → B → Type 0
AllTaken takes old [] new = new ≡ old
AllTaken {B = B} takes old (t ∷ more) new = (mid : B) × takes old t mid × AllTaken takes mid more new

-- one exchange takes something of what is lent, and comes to the same wherever that is taken
pub record IsAlone {A B T : Type 0} (takes : B → T → B → Type 0) (does : Does A B) (close : Bool)
    (a : A) (b : B) (e : Exchange) (a' : A) (b' : B) : Type 0 where
  pub taken : T
  pub took : takes b taken b'
  pub anywhere : (before after : B) → takes before taken after → does close a before e a' after

-- each exchange of a context does
abbrev pub StandsAlone : {A B T : Type 0} → (takes : B → T → B → Type 0) → (does : Does A B) → Type 0
StandsAlone {A = A} {B = B} takes does =
    (close : Bool) (a a' : A) (b b' : B) (e : Exchange) → does close a b e a' b' → IsAlone takes does close a b e a' b'

-- an exchange among those of a context, where it is one of them
abbrev pub of_context : (context : ℕ) → (close : Bool) → Exchange → Option (ℕ × ℕ) → List (Bool × Exchange)
of_context context close e None = []
of_context context close e (Some found) = if found.0 == context then (close, exchange_inside found.1 e) ∷ [] else []

-- the exchanges of a context, in order, each with whether the connection closes after it; so many came before them
abbrev pub share : (names : List (List ℕ)) → (context : ℕ) → (number : ℕ) → List Exchange → List (Bool × Exchange)
share names context number [] = []
share names context number (e ∷ exchanges) =
    of_context context (closes number e.request) e (context_of names e.request.target)
    ++ share names context (number + 1) exchanges

-- what a context took, of all that was taken, each with its context
abbrev pub taken_by : {T : Type 0} → (context : ℕ) → List (ℕ × T) → List T
taken_by context [] = []
taken_by context (t ∷ more) = (if t.0 == context then t.1 ∷ [] else []) ++ taken_by context more

-- a context's walk over its share alone, from what it had of its own, with what its own exchanges took, whatever is lent
-- besides
pub record HasWalked {A B T : Type 0} (takes : B → T → B → Type 0) (does : Does A B)
    (exchanges : List (Bool × Exchange)) (taken : List T) (old new : A) : Type 0 where
  pub walked :
      (before after : B) → AllTaken takes before taken after
      → WalkedBy {W = A × B} (λ close old e new. does close old.0 old.1 e new.0 new.1) (old, before) exchanges (new, after)

-- what all exchanges took is what each context took, in order; and each context walked alone over its share of them, from
-- what it had of its own
pub record AreSharedBy {C A B T : Type 0} (places : List C) (takes : B → T → B → Type 0) (does : C → Does A B)
    (old : Several A B) (shares : ℕ → List (Bool × Exchange)) (new : Several A B) : Type 0 where
  pub taken : List (ℕ × T)
  pub took : AllTaken takes old.lent (map (λ (t : ℕ × T). t.1) taken) new.lent
  pub walked :
      (context : ℕ) (place : C) (before : A)
      → slice_get places context ≡ Some place → slice_get old.parts context ≡ Some before
      → (after : A) × (slice_get new.parts context ≡ Some after)
      × HasWalked takes (does place) (shares context) (taken_by context taken) before after

-- a conversation of several contexts is shared so
abbrev pub HasShares : {C A B T : Type 0} → (takes : B → T → B → Type 0) → (does : C → Does A B) → Type 0
HasShares {C = C} {A = A} {B = B} takes does =
    (names : List (List ℕ)) (places : List C) (number : ℕ) (old new : Several A B) (exchanges : List Exchange)
    → Walked (Answers names places does) number old exchanges new
    → AreSharedBy places takes does old (λ context. share names context number exchanges) new
