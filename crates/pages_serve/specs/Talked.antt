-- What a connection does to what a pass has seen of a site, by whom it is for.
use Rattle.std.specs.Prelude.{◌≡◌, ℕ, List, [], Option, map}
use Rattle.compiled_pages.specs.Pages.{needs_at}
use Rattle.context_talk.specs.Among.{TalkedAmong, connections_of}
use Rattle.context_words.specs.Parts.{Lent}
use Rattle.conversation.specs.Conversation.{Tells}
use Rattle.conversation.specs.declared.ended.Ended.{Ended}
use Rattle.edges.specs.Clock.{Moments}
use Rattle.page_answers.specs.Standing.{standing_of}
use Rattle.preview_words.specs.Previewed.{HasPreviewed}
use Rattle.site_rounds.specs.declared.rounds.Talks.{Talks}
use Rattle.site_words.specs.declared.words.Entry.{Entry}
use Rattle.site_words.specs.declared.words.Opening.{Opening}
use Rattle.source_tree.specs.declared.edit.Edit.{Edit}
use Rattle.talk_words.specs.Connection.{connection_of, stand_of}
use Rattle.talk_words.specs.Said.{IsLeft, IsSaid}
use Rattle.talk_words.specs.declared.role.Role.{Role}
use Rattle.talk_words.specs.declared.role.Role.TheVariants.{Both, Reader}
use Rattle.pages_serve.specs.declared.pages.Audience.{Audience}
use Rattle.pages_serve.specs.declared.pages.Audience.TheVariants.{Editors, Previews, Readers}

-- requests of a connection in this role were answered by the pages of the site, each from what the one before it left, and led from the one to the other
pub record IsConversed (role : Role) (x : Opening) (pass : ℕ) (old new : List Entry) : Type 0 where
  pub moments : Moments
  pub still : Moments
  pub steps : ℕ
  pub further : ℕ
  pub left : Option (List ℕ)
  pub later : Option (List ℕ)
  pub before : ℕ
  pub after : ℕ
  pub taken : Option (List ℕ)
  pub has : Option (List ℕ)
  pub draft : List Edit
  pub ended : Ended
  pub talk :
      Tells (IsSaid (connection_of needs_at x pass role)) (IsLeft (connection_of needs_at x pass role))
      (stand_of [] (standing_of old moments steps)) (stand_of draft (standing_of new still further)) left later before after taken has ended

-- requests of a preview connection were answered so
pub record IsPreviewing (x : Opening) (pass : ℕ) (old new : List Entry) : Type 0 where
  pub steps : ℕ
  pub further : ℕ
  pub left : Option (List ℕ)
  pub later : Option (List ℕ)
  pub before : ℕ
  pub after : ℕ
  pub taken : Option (List ℕ)
  pub has : Option (List ℕ)
  pub ended : Ended
  pub talk : HasPreviewed needs_at x pass old new steps further left later before after taken has ended

-- a connection did this
abbrev pub HasTalked : Audience → Opening → ℕ → List Entry → List Entry → Type 0
HasTalked Readers x pass old new = IsConversed Reader x pass old new
HasTalked Editors x pass old new = IsConversed Both x pass old new
HasTalked Previews x pass old new = IsPreviewing x pass old new

-- for whom the connections of each port are
abbrev pub audiences : Talks Audience
audiences = record { readers = Readers; editors = Editors; previews = Previews }

-- requests of a connection to several contexts were answered so, each over the port of its context, and each port is the same one still
pub record IsConversedAmong {P H : Type 0} (names : List (List ℕ)) (role : Role) (opening : P → Opening) (pass : P → ℕ) (home : P → H) (seen : P → List Entry) (old new : List P) : Type 0 where
  pub same : connections_of opening pass home role new ≡ connections_of opening pass home role old
  pub lent : Lent
  pub further : Lent
  pub left : Option (List ℕ)
  pub later : Option (List ℕ)
  pub before : ℕ
  pub after : ℕ
  pub taken : Option (List ℕ)
  pub has : Option (List ℕ)
  pub ended : Ended
  pub talk : TalkedAmong names (connections_of opening pass home role old) (map seen old) (map seen new) lent further left later before after taken has ended
