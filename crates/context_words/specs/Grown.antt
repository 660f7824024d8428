-- What the requests of a connection to several contexts add to the history of each.
use Rattle.std.specs.Prelude.{◌≡◌, ℕ, List, Option, Some}
use Rattle.std.specs.List.{slice_get}
use Rattle.context_desk.specs.Several.{Several}
use Rattle.context_words.specs.Parts.{Lent, Part}
use Rattle.context_words.specs.Said.{IsLeftAmong, IsSaidAmong}
use Rattle.conversation.specs.Conversation.{Tells}
use Rattle.conversation.specs.declared.ended.Ended.{Ended}
use Rattle.pass_course.specs.Course.{IsIdle}
use Rattle.site_words.specs.Law.{Legal}
use Rattle.talk_words.specs.Connection.{Connection}
use Rattle.talk_words.specs.Grown.{HasGrown}

-- what a context's pass has seen of one legal history then, and no request is under way
pub record HasGrownTo (w : Connection) (context : ℕ) (before : Part) (parts : List Part) : Type 0 where
  pub now : Part
  pub now_is : slice_get parts context ≡ Some now
  pub grown : HasGrown w.needs w.opening w.pass before.seen now.seen

-- so it is where this was so before
abbrev pub Grew : (w : Connection) → (context : ℕ) → (old new : List Part) → Type 0
Grew w context old new =
    (before : Part) → slice_get old context ≡ Some before → IsIdle w.opening w.pass before.seen
    → Legal w.needs w.opening before.seen → HasGrownTo w context before new

-- so it is with each context, whatever the requests of a connection come to
abbrev pub HasOwnHistories : (H : Type 0) → Type 0
HasOwnHistories H =
    (names : List (List ℕ)) (connections : List (Connection × H)) (context : ℕ) (place : Connection × H)
    (old new : Several Part Lent) (left later : Option (List ℕ)) (before after : ℕ) (taken has : Option (List ℕ)) (ended : Ended)
    → slice_get connections context ≡ Some place
    → Tells (IsSaidAmong names connections) (IsLeftAmong names connections) old new left later before after taken has ended
    → Grew place.0 context old.parts new.parts
