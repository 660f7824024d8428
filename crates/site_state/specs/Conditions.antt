-- What an operation may rely on.
use Rattle.std.specs.Prelude.{◌≡◌, ◌≢◌, ℕ, ◌+◌, ◌-◌, ◌^◌, ◌<◌, ◌≤◌, true, false, List, length, map, Option, Some, None}
use Rattle.pg_text.specs.Names.{AreInOrder}
use Rattle.program_store.specs.Store.{kept_path}
use Rattle.source_tree.specs.declared.edit.Edit.{Edit}
use Rattle.source_tree.specs.declared.file.File.{File}
use Rattle.source_tree.specs.Edits.{after_edits}
use Rattle.site_words.specs.declared.words.Entry.{Entry}
use Rattle.site_words.specs.declared.words.Op.{Op}
use Rattle.site_words.specs.declared.words.Op.TheVariants as op
use Rattle.site_words.specs.declared.words.Opening.{Opening}
use Rattle.site_words.specs.Fits.{asks, finds}
use Rattle.site_words.specs.Runs.{promised, run_at, session_in, tree_in, under_at}
use Rattle.site_words.specs.Step.{refusal_of, reply_to}
use Rattle.site_words.specs.Trees.{Needs, OneHistory}
use Rattle.site_words.specs.Weights.{weight_with}
use Rattle.site_state.specs.Gifts.{IsMadeHere}
use Rattle.site_state.specs.Parts.{Parts, state_of}
use Rattle.site_state.specs.ReadSessions.{has_named}
use Rattle.site_state.specs.Works.{AreKept}

-- a number that has one more
abbrev pub CanGrow : ℕ → Type 0
CanGrow n = n < 2 ^ 64 - 1

module _ {P : Type 0} (needs : Needs) (made : P → List File → List ℕ → Type 0) where
  -- what is held, as a site holds it before an operation of a pass that may ask for it
  pub record CanWork (x : Opening) (history : List Entry) (parts : Parts P) (pass : ℕ) (o : Op) (v : Option P) : Type 0 where
    pub within : pass < length parts.runs
    pub asks : asks (run_at parts.runs pass) o ≡ true
    pub finds : finds (under_at parts.runs pass) o ≡ true
    pub goes_on : o ≢ op.Roll
    pub value : IsMadeHere made (under_at parts.runs pass) o v
    pub total : parts.weight + promised parts.runs ≤ x.limit
    pub version : CanGrow parts.version
    pub begins : CanGrow parts.begins
    pub freshes : CanGrow parts.freshes
    pub room : refusal_of needs x (state_of x history parts) pass o ≡ None → parts.weight + weight_with o (reply_to needs x (state_of x history parts) pass o) < 2 ^ 64
    pub kept : AreKept made parts.tree parts.kept
    pub order : AreInOrder (map kept_path parts.kept)
    pub older : OneHistory parts.tree (tree_in (under_at parts.runs pass))
    pub later : OneHistory (tree_in (under_at parts.runs pass)) parts.tree
    pub next : (edits : List Edit) → OneHistory parts.tree (after_edits edits (parts.version + 1) parts.tree)
    pub held : (number : ℕ) → session_in (run_at parts.runs pass) ≡ Some number → has_named number parts.sessions ≡ true
    pub unused : has_named parts.freshes parts.sessions ≡ false
