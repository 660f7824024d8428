-- What holds of pictures, and of the sites on which previews run.
use Rattle.std.specs.Prelude.{◌≡◌, ◌<◌, ◌+◌, ◌^◌, ℕ, true, List, ◌++◌, Option, None}
use Rattle.conversation.specs.Conversation.{Tells}
use Rattle.conversation.specs.declared.ended.Ended.{Ended}
use Rattle.edges.specs.History.{IsFront}
use Rattle.preview_words.specs.Own.{Picture, drafted_tree, own_opening, picture_of}
use Rattle.preview_words.specs.Previewed.{IsPreviewed, Leaves, PreviewStand}
use Rattle.site_words.specs.Calls.{Acts}
use Rattle.site_words.specs.Law.{Legal, own}
use Rattle.site_words.specs.Opening.{is_sound}
use Rattle.site_words.specs.State.{after}
use Rattle.site_words.specs.Trees.{Each, Needs}
use Rattle.site_words.specs.declared.words.Entry.{Entry}
use Rattle.site_words.specs.declared.words.Op.TheVariants as op
use Rattle.site_words.specs.declared.words.Opening.{Opening}
use Rattle.site_words.specs.declared.words.Reply.TheVariants as reply
use Rattle.source_tree.specs.Limits.{tree_fault}
use Rattle.source_tree.specs.declared.edit.Edit.{Edit}

-- where the tree with the draft keeps its limits and a version comes behind, a site may open with it
abbrev pub IsRunnable : List Edit → Picture → Type 0
IsRunnable edits picture =
    picture.version + 1 < 2 ^ 63 → tree_fault (drafted_tree edits picture) ≡ None
    → is_sound (own_opening (drafted_tree edits picture) picture) ≡ true

-- so it is with each picture of a site
abbrev pub AreRunnable : Type 0
AreRunnable =
    (needs : Needs) (x : Opening) (seen : List Entry) (edits : List Edit) (session : Option ℕ)
    → is_sound x ≡ true → Legal needs x seen
    → IsRunnable edits (picture_of (after needs x seen) (after needs x seen).version session)

-- a picture has the latest version
abbrev pub AreLatest : Type 0
AreLatest =
    (needs : Needs) (x : Opening) (pass : ℕ) (old new : List Entry) (cookie : List ℕ) (version : ℕ) (session : Option ℕ)
    → Acts needs x pass old new (op.Snapshot cookie) (reply.Snapped version session)
    → version ≡ (after needs x new).version

-- the entry takes a picture, and so it changes nothing but the weight of the journal
pub record IsPicture (e : ℕ × Entry) : Type 0 where
  pub cookie : List ℕ
  pub version : ℕ
  pub session : Option ℕ
  pub op_is : e.1.op ≡ op.Snapshot cookie
  pub reply_is : e.1.reply ≡ reply.Snapped version session

-- a history goes on from what had been seen of it, and the entries of a pass grew by pictures alone
pub record GrewByPictures (pass : ℕ) (old new : List Entry) : Type 0 where
  pub longer : IsFront old new
  pub entries : List (ℕ × Entry)
  pub grown : own pass new ≡ own pass old ++ entries
  pub pictures : Each IsPicture entries

-- whatever the requests of a preview connection come to, its pass has seen more of one history, and its new entries are
-- pictures alone
abbrev pub TakesPicturesAlone : Type 0
TakesPicturesAlone =
    (needs : Needs) (x : Opening) (pass : ℕ) (start now : PreviewStand) (left later : Option (List ℕ)) (faults risen : ℕ)
    (old new : Option (List ℕ)) (ended : Ended)
    → Tells (IsPreviewed needs x pass) (λ close at request text to. Leaves needs x pass request close at text to) start now left
    later faults risen old new ended
    → GrewByPictures pass start.seen now.seen
