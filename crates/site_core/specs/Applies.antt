-- What one operation does to a site.
use Rattle.std.specs.Prelude.{◌≡◌, ℕ, List}
use Rattle.source_tree.specs.declared.file.File.{File}
use Rattle.edges.specs.declared.acted.Acted.{Acted}
use Rattle.edges.specs.declared.acted.Acted.TheVariants.{Did, Refused, NoMemory}
use Rattle.site_words.specs.declared.words.Entry.{Entry}
use Rattle.site_words.specs.declared.words.Opening.{Opening}
use Rattle.site_words.specs.declared.words.Op.{Op}
use Rattle.site_words.specs.declared.words.Refusal.{Refusal}
use Rattle.site_words.specs.State.{after}
use Rattle.site_words.specs.Step.{reply_to, step}
use Rattle.site_words.specs.Trees.{Needs}
use Rattle.site_state.specs.declared.gift.Given.{Given}
use Rattle.site_state.specs.Gifts.{FitsGift}
use Rattle.site_core.specs.Lived.{Lived, with_entry}

module _ {P : Type 0} (needs : Needs) (made : P → List File → List ℕ → Type 0) where
  -- after this front the pass may be given this for the operation: the reply of the step, and what goes with it
  pub record Replies (x : Opening) (front : List Entry) (pass : ℕ) (o : Op) (given : Given P) : Type 0 where
    pub stepped : step needs x (after needs x front) pass o ≡ Did given.reply
    pub gift : FitsGift made x (after needs x front) pass o given.reply given.gift
    pub reply_is : given.reply ≡ reply_to needs x (after needs x front) pass o

  -- the answer is the step's, and what it leaves is the history with this entry; where it is
  -- refused or memory ran out the site is as it was
  abbrev pub Applies : Lived → Lived → ℕ → Op → Acted (Given P) Refusal → Type 0
  Applies old new pass o (Did given) = Replies old.opening old.history pass o given × (new ≡ with_entry old pass o given.reply)
  Applies old new pass o (Refused refusal) = (step needs old.opening (after needs old.opening old.history) pass o ≡ Refused refusal) × (new ≡ old)
  Applies old new pass o NoMemory = new ≡ old
