-- What an act of a pass comes to, and what a port answers by it.
use Rattle.std.specs.Prelude.{◌≡◌, ℕ, List}
use Rattle.edges.specs.Calls as Generic
use Rattle.edges.specs.declared.acted.Acted.{Acted}
use Rattle.edges.specs.declared.acted.Acted.TheVariants.{Did, Refused, NoMemory}
use Rattle.source_tree.specs.declared.file.File.{File}
use Rattle.site_words.specs.declared.words.Entry.{Entry}
use Rattle.site_words.specs.declared.words.Opening.{Opening}
use Rattle.site_words.specs.declared.words.Op.{Op}
use Rattle.site_words.specs.declared.words.Refusal.{Refusal}
use Rattle.site_words.specs.declared.words.Reply.{Reply}
use Rattle.site_words.specs.Calls.{Stands, Stays}
use Rattle.site_words.specs.Law.{pass_of, Legal}
use Rattle.site_words.specs.State.{after}
use Rattle.site_words.specs.Step.{step}
use Rattle.site_words.specs.Trees.{Needs}
use Rattle.site_state.specs.declared.gift.Given.{Given}
use Rattle.site_core.specs.Applies.{Replies}

module _ {P : Type 0} (needs : Needs) (made : P → List File → List ℕ → Type 0) where
  -- the entry after this front stands for what was given
  abbrev pub IsGiven : Opening → ℕ → Op → Given P → List Entry → Entry → Type 0
  IsGiven x pass o given front e = Stands e pass o given.reply × Replies needs made x front pass o given

  -- what an act came to
  abbrev pub Answered : Opening → ℕ → List Entry → List Entry → Op → Acted (Given P) Refusal → Type 0
  Answered x pass old new o (Did given) = Generic.Acts pass_of (Legal needs x) (IsGiven x pass o given) pass old new
  Answered x pass old new o (Refused refusal) = Stays needs x pass old new × (step needs x (after needs x new) pass o ≡ Refused refusal)
  Answered x pass old new o NoMemory = Stays needs x pass old new

-- the reply of what was given
abbrev pub reply_in : {P : Type 0} → Acted (Given P) Refusal → Acted Reply Refusal
reply_in (Did given) = Did given.reply
reply_in (Refused refusal) = Refused refusal
reply_in NoMemory = NoMemory
