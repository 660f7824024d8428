-- A picture of a site shows what stands at the front before its entry, and after it.
use Rattle.std.proofs.Common.{◌≡◌, ℕ, Bool, true, false, List, Option, Some, None, refl, sym, ap, subst, ◌∙◌, if◌then◌else◌}
use Rattle.edges.specs.declared.acted.Acted.TheVariants.{Did}
use Rattle.source_tree.specs.declared.file.File.{File}
use Rattle.site_words.specs.declared.port.Snapped.{Snapped}
use Rattle.site_words.specs.declared.words.Entry.{Entry}
use Rattle.site_words.specs.declared.words.KeptSession.{KeptSession}
use Rattle.site_words.specs.declared.words.Op.TheVariants as op
use Rattle.site_words.specs.declared.words.Opening.{Opening}
use Rattle.site_words.specs.declared.words.Reply.TheVariants as reply
use Rattle.site_words.specs.Answers.{Shows}
use Rattle.site_words.specs.Sessions.{attrs_of, holder, is_idle, number_of, session_at, session_attrs}
use Rattle.site_words.specs.State.{State, after, moved}
use Rattle.site_words.specs.Step.{shown, snapped_session}
use Rattle.site_words.specs.Trees.{Needs}
use Rattle.site_words.proofs.Gifts.{found_numbered}
use Rattle.site_words.proofs.Legal.{after_push}
use Rattle.site_state.specs.declared.gift.Gift.{Gift}
use Rattle.site_state.specs.declared.gift.Gift.TheVariants.{Nothing, Start, Made, Id, Picture, Old}
use Rattle.site_state.specs.declared.gift.Given.{Given}
use Rattle.site_state.specs.Gifts.{IsPicture}
use Rattle.site_core.specs.Answered.{Answered}
use Rattle.site_core.specs.ReadGiven.{CanShow, IsSnappedBy}

-- the attributes of the session that a picture names
shown_attrs : (seed cookie : List ℕ) (idle moment : ℕ) (ss : List KeptSession) (held : Option ℕ) (found : Option KeptSession) → session_at seed cookie ss ≡ found
    → attrs_of (shown held idle moment found) ≡ session_attrs (number_of (shown held idle moment found)) ss
shown_attrs seed cookie idle moment ss None None at = refl
shown_attrs seed cookie idle moment ss (Some request) None at = refl
shown_attrs seed cookie idle moment ss (Some request) (Some kept) at = sym (ap attrs_of (found_numbered seed cookie ss kept at))
shown_attrs seed cookie idle moment ss None (Some kept) at = go (is_idle idle moment kept)
  where
    go : (b : Bool) → attrs_of (if b then None else Some kept) ≡ session_attrs (number_of (if b then None else Some kept)) ss
    go true = refl
    go false = sym (ap attrs_of (found_numbered seed cookie ss kept at))

module _ {P : Type 0} (needs : Needs) (made : P → List File → List ℕ → Type 0) where
  pub can_show : (x : Opening) (pass : ℕ) (old new : List Entry) (cookie : List ℕ) (given : Given P) → Answered needs made x pass old new (op.Snapshot cookie) (Did given) → CanShow given.reply given.gift
  can_show x pass old new cookie given acts = subst (λ r. CanShow r given.gift) (sym acts.said.1.reply_is) (go given.gift acts.said.1.gift)
    where
      go : (g : Gift P) → IsPicture x (after needs x acts.front) cookie g → CanShow (reply.Snapped (after needs x acts.front).version (number_of (snapped_session x (after needs x acts.front) cookie))) g
      go (Picture tree app attrs) is = tt
      go Nothing is = absurd is
      go (Made v) is = absurd is
      go (Id i) is = absurd is
      go (Start t a) is = absurd is
      go (Old t values) is = absurd is

  pub shows : (x : Opening) (pass : ℕ) (old new : List Entry) (cookie : List ℕ) (given : Given P) (snapped : Snapped) → Answered needs made x pass old new (op.Snapshot cookie) (Did given) → IsSnappedBy given.reply given.gift snapped
      → Shows (after needs x new) (Did snapped)
  shows x pass old new cookie given snapped acts told =
      go given.gift acts.said.1.gift (subst (λ r. IsSnappedBy r given.gift snapped) acts.said.1.reply_is told)
    where
      state : after needs x new ≡ moved needs x (after needs x acts.front) (record { pass = pass; op = op.Snapshot cookie; reply = given.reply })
      state = ap (λ h. after needs x h) acts.seen ∙ (after_push needs x acts.front acts.entry ∙ ap (λ (e : Entry). moved needs x (after needs x acts.front) e) acts.said.0)

      go : (g : Gift P) → IsPicture x (after needs x acts.front) cookie g → IsSnappedBy (reply.Snapped (after needs x acts.front).version (number_of (snapped_session x (after needs x acts.front) cookie))) g snapped
          → Shows (after needs x new) (Did snapped)
      go (Picture tree app attrs) is told =
          subst (λ (s : State). Shows s (Did snapped)) (sym state)
          (subst (λ (b : Snapped). Shows (moved needs x (after needs x acts.front) (record { pass = pass; op = op.Snapshot cookie; reply = given.reply })) (Did b)) (sym told) (
            is.0,
            is.1,
            is.2 ∙ shown_attrs x.seed cookie x.idle (after needs x acts.front).moment (after needs x acts.front).sessions (holder (session_at x.seed cookie (after needs x acts.front).sessions) (after needs x acts.front).runs)
                (session_at x.seed cookie (after needs x acts.front).sessions) refl,
          ))
      go Nothing is told = absurd is
      go (Made v) is told = absurd is
      go (Id i) is told = absurd is
      go (Start t a) is told = absurd is
      go (Old t values) is told = absurd is
