-- What was said on a connection, as what it did to a pass.
use Rattle.std.proofs.Common.{◌≡◌, ℕ, List, [], Option, map}
use Rattle.compiled_pages.specs.Pages.{needs_at}
use Rattle.context_talk.specs.Among.{TalkedAmong, connections_of}
use Rattle.context_words.specs.Parts.{Lent}
use Rattle.conversation.specs.Conversation.{Tells}
use Rattle.conversation.specs.declared.ended.Ended.{Ended}
use Rattle.edges.specs.Clock.{Moments}
use Rattle.page_answers.specs.Standing.{standing_of}
use Rattle.preview_words.specs.Previewed.{HasPreviewed}
use Rattle.site_words.specs.declared.words.Entry.{Entry}
use Rattle.site_words.specs.declared.words.Opening.{Opening}
use Rattle.source_tree.specs.declared.edit.Edit.{Edit}
use Rattle.talk_words.specs.Connection.{connection_of, stand_of}
use Rattle.talk_words.specs.Said.{IsLeft, IsSaid}
use Rattle.talk_words.specs.declared.role.Role.{Role}
use Rattle.pages_serve.specs.Talked.{IsConversed, IsConversedAmong, IsPreviewing}

-- a conversation in a role
pub conversed : (role : Role) (x : Opening) (pass : ℕ) (old new : List Entry) (moments still : Moments) (steps further : ℕ) (left later : Option (List ℕ)) (before after : ℕ) (taken has : Option (List ℕ)) (draft : List Edit) (ended : Ended)
    → Tells (IsSaid (connection_of needs_at x pass role)) (IsLeft (connection_of needs_at x pass role)) (stand_of [] (standing_of old moments steps)) (stand_of draft (standing_of new still further)) left later before after taken has ended
    → IsConversed role x pass old new
conversed role x pass old new moments still steps further left later before after taken has draft ended talk = record {
  moments = moments;
  still = still;
  steps = steps;
  further = further;
  left = left;
  later = later;
  before = before;
  after = after;
  taken = taken;
  has = has;
  draft = draft;
  ended = ended;
  talk = talk;
}

-- one on the port of drafts
pub previewed : (x : Opening) (pass : ℕ) (old new : List Entry) (steps further : ℕ) (left later : Option (List ℕ)) (before after : ℕ) (taken has : Option (List ℕ)) (ended : Ended)
    → HasPreviewed needs_at x pass old new steps further left later before after taken has ended → IsPreviewing x pass old new
previewed x pass old new steps further left later before after taken has ended talk = record {
  steps = steps;
  further = further;
  left = left;
  later = later;
  before = before;
  after = after;
  taken = taken;
  has = has;
  ended = ended;
  talk = talk;
}

-- one to several contexts
pub conversed_among : {P H : Type 0} (names : List (List ℕ)) (role : Role) (opening : P → Opening) (pass : P → ℕ) (home : P → H) (seen : P → List Entry) (old new : List P) (lent further : Lent) (left later : Option (List ℕ)) (before after : ℕ) (taken has : Option (List ℕ)) (ended : Ended)
    → connections_of opening pass home role new ≡ connections_of opening pass home role old
    → TalkedAmong names (connections_of opening pass home role old) (map seen old) (map seen new) lent further left later before after taken has ended
    → IsConversedAmong names role opening pass home seen old new
conversed_among names role opening pass home seen old new lent further left later before after taken has ended same talk = record {
  same = same;
  lent = lent;
  further = further;
  left = left;
  later = later;
  before = before;
  after = after;
  taken = taken;
  has = has;
  ended = ended;
  talk = talk;
}
