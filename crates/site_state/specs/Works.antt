-- What an operation does to what is held.
use Rattle.std.specs.Prelude.{◌≡◌, ℕ, ◌+◌, List, slice_get, length, Some, None}
use Rattle.source_tree.specs.declared.file.File.{File}
use Rattle.edges.specs.declared.acted.Acted.{Acted}
use Rattle.edges.specs.declared.acted.Acted.TheVariants.{Did, Refused, NoMemory}
use Rattle.site_words.specs.declared.words.Entry.{Entry}
use Rattle.site_words.specs.declared.words.Op.{Op}
use Rattle.site_words.specs.declared.words.Opening.{Opening}
use Rattle.site_words.specs.declared.words.Refusal.{Refusal}
use Rattle.site_words.specs.declared.words.Reply.{Reply}
use Rattle.site_words.specs.State.{moved}
use Rattle.site_words.specs.Step.{refusal_of, reply_to}
use Rattle.site_words.specs.Trees.{Each, Needs}
use Rattle.site_state.specs.declared.gift.Done.{Done}
use Rattle.site_state.specs.Gifts.{FitsGift}
use Rattle.site_state.specs.Parts.{Parts, state_of}
use Rattle.site_state.specs.Sources.{AreThere}

-- the entry of a pass for an operation and its reply
abbrev pub entry_of : ℕ → Op → Reply → Entry
entry_of pass o r = record { pass = pass; op = o; reply = r }

module _ {P : Type 0} (made : P → List File → List ℕ → Type 0) where
  -- each value is made from this tree and its path
  abbrev pub AreKept : List File → List (List ℕ × P) → Type 0
  AreKept tree kept = Each (λ (k : List ℕ × P). made k.1 tree k.0) kept

module _ {P : Type 0} (needs : Needs) (made : P → List File → List ℕ → Type 0) where
  -- the parts moved by an entry that comes to this place of the history, so that the sessions' attributes are there and the values are those of the latest tree
  pub record Moves (x : Opening) (place : ℕ) (old new : Parts P) (e : Entry) : Type 0 where
    pub state : (history : List Entry) → slice_get history place ≡ Some e → state_of x history new ≡ moved needs x (state_of x history old) e
    pub there : AreThere place old.sessions → AreThere (place + 1) new.sessions
    pub kept : AreKept made old.tree old.kept → AreKept made new.tree new.kept

  -- it is done with the reply of the step
  pub record IsDone (x : Opening) (history : List Entry) (old new : Parts P) (pass : ℕ) (o : Op) (done : Done P) : Type 0 where
    pub allowed : refusal_of needs x (state_of x history old) pass o ≡ None
    pub reply_is : done.reply ≡ reply_to needs x (state_of x history old) pass o
    pub same : done.given.reply ≡ done.reply
    pub gift : FitsGift made x (state_of x history old) pass o done.given.reply done.given.gift
    pub moves : Moves x (length history) old new (entry_of pass o done.reply)

  -- what an operation comes to: it is done as the step says, or refused as it says, or memory ran
  -- out; where it isn't done all is as it was
  abbrev pub Works : Opening → List Entry → Parts P → Parts P → ℕ → Op → Acted (Done P) Refusal → Type 0
  Works x history old new pass o (Did done) = IsDone x history old new pass o done
  Works x history old new pass o (Refused refusal) = (refusal_of needs x (state_of x history old) pass o ≡ Some refusal) × (new ≡ old)
  Works x history old new pass o NoMemory = new ≡ old
