-- What a run adds to a request's state, and what it does under more answers.
use Rattle.std.specs.Prelude.{◌≡◌, ◌<◌, ◌≤◌, ℕ, Bool, true, false, List, [], ◌∷◌, ◌++◌, length, Option}
use Rattle.edges.specs.History.{IsFront}
use Rattle.out_buffer.specs.Writer.{has_committed}
use Rattle.site_words.specs.Law.{Answer}
use Rattle.site_words.specs.Trees.{Each}
use Rattle.page_meaning.specs.State.{State, with_asked}
use Rattle.site_words.specs.PageSteps.{Step, app, fresh, fetch}
use Rattle.page_meaning.specs.Went.{Went, Well, Raised, Ended, Awaits, Leaving, forwards, redirects}

-- the state in which a part went or waits
abbrev pub state_of : {A : Type 0} → Went A → State
state_of (Well a s) = s
state_of (Raised fault place s) = s
state_of (Ended leaving s) = s
state_of (Awaits step s) = s

-- with more answers behind those that are still to be used
abbrev pub with_more : List Answer → State → State
with_more more s = record s { answers = s.answers ++ more }

-- the id of the session, and whether this request made it
abbrev pub session_of : State → Option (List ℕ) × Bool
session_of s = (s.id, s.is_fresh)

-- more steps stand in the order, each of them behind at least so many pieces
abbrev pub OrderGrows : (committed : ℕ) → (old new : List ℕ) → Type 0
OrderGrows committed old new = (later : List ℕ) × (new ≡ old ++ later) × Each (λ count. committed ≤ count) later

-- the steps asked and the committed pieces of the first state stand at the front of those of the second, the other steps come behind all that was
-- committed, and behind a commit no session starts
pub record Grows (s t : State) : Type 0 where
  pub asked : IsFront s.asked t.asked
  pub order : OrderGrows (length s.writer.pieces) s.order t.order
  pub pieces : IsFront s.writer.pieces t.writer.pieces
  pub session : has_committed s.writer ≡ true → session_of t ≡ session_of s

-- each step asked has its place in the order, and none comes behind more pieces than are committed
abbrev pub IsOrdered : State → Type 0
IsOrdered s = (length s.order ≡ length s.asked) × Each (λ count. count ≤ length s.writer.pieces) s.order

-- whether a step has an answer
abbrev pub takes_answer : Step → Bool
takes_answer (app step) = true
takes_answer fresh = true
takes_answer (fetch path) = false

-- what waited for a step waits for it still, or, where there is an answer, has asked it and gone on
abbrev pub AsksOn : {A : Type 0} → Step → State → List Answer → Went A → Type 0
AsksOn step s [] w = w ≡ Awaits step (with_more [] s)
AsksOn step s (answer ∷ rest) w = Grows (with_asked step s) (state_of w)

-- under more answers a part goes as it went, and leaves these answers; where it waited for a step, none was left, it goes on from there, and the
-- step is one that has an answer
abbrev pub GoesOn : {A : Type 0} → List Answer → Went A → Went A → Type 0
GoesOn more (Well a s) w = w ≡ Well a (with_more more s)
GoesOn more (Raised fault place s) w = w ≡ Raised fault place (with_more more s)
GoesOn more (Ended leaving s) w = w ≡ Ended leaving (with_more more s)
GoesOn more (Awaits step s) w = (s.answers ≡ []) × AsksOn step s more w × (takes_answer step ≡ true)

-- a forward leaves fewer levels, and nothing was committed before a forward or a redirect
abbrev pub LeavesBy : (left : ℕ) → Leaving → State → Type 0
LeavesBy left (forwards path params l) s = (l < left) × (s.writer.pieces ≡ [])
LeavesBy left (redirects location) s = s.writer.pieces ≡ []

-- where a part ended the page, it left so
abbrev pub Leaves : {A : Type 0} → (left : ℕ) → Went A → Type 0
Leaves left (Well a s) = Unit {0}
Leaves left (Raised fault place s) = Unit {0}
Leaves left (Ended leaving s) = LeavesBy left leaving s
Leaves left (Awaits step s) = Unit {0}
