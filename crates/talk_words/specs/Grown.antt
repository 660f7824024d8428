-- The one history of a connection.
use Rattle.std.specs.Prelude.{ℕ, List, Option}
use Rattle.conversation.specs.Conversation.{Tells}
use Rattle.conversation.specs.declared.ended.Ended.{Ended}
use Rattle.edges.specs.History.{IsFront}
use Rattle.pass_course.specs.Course.{IsIdle}
use Rattle.site_words.specs.Law.{Legal}
use Rattle.site_words.specs.Trees.{Needs}
use Rattle.site_words.specs.declared.words.Entry.{Entry}
use Rattle.site_words.specs.declared.words.Opening.{Opening}
use Rattle.talk_words.specs.Connection.{Connection, Stand}
use Rattle.talk_words.specs.Said.{IsLeft, IsSaid}

-- what was seen is legal and goes on from what had been seen, and no request is under way
pub record HasGrown (needs : Needs) (x : Opening) (pass : ℕ) (old new : List Entry) : Type 0 where
  pub longer : IsFront old new
  pub is_legal : Legal needs x new
  pub idle : IsIdle x pass new

-- whatever a connection comes to, its history has grown so
abbrev pub HasOneHistory : Type 0
HasOneHistory =
    (w : Connection) (start now : Stand) (left later : Option (List ℕ)) (before after : ℕ) (old new : Option (List ℕ)) (ended : Ended)
    → IsIdle w.opening w.pass start.at.seen → Legal w.needs w.opening start.at.seen → Tells (IsSaid w) (IsLeft w) start now left later before after old new ended
    → HasGrown w.needs w.opening w.pass start.at.seen now.at.seen
