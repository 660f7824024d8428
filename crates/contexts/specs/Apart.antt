-- What is done to one context is nothing to another.
use Rattle.std.specs.Prelude.{◌≡◌, ℕ, ◌==◌, List, [], ◌∷◌, ◌++◌, Some, if◌then◌else◌}
use Rattle.std.specs.List.{slice_get}
use Rattle.edges.specs.declared.acted.Acted.{Acted}
use Rattle.edges.specs.declared.acted.Acted.TheVariants.{NoMemory}
use Rattle.source_tree.specs.declared.file.File.{File}
use Rattle.site_words.specs.Trees.{Needs}
use Rattle.site_words.specs.declared.words.Op.{Op}
use Rattle.site_words.specs.declared.words.Refusal.{Refusal}
use Rattle.site_words.specs.declared.words.Reply.{Reply}
use Rattle.site_state.specs.declared.gift.Given.{Given}
use Rattle.site_core.specs.Answered.{reply_in}
use Rattle.site_core.specs.Applies.{Applies}
use Rattle.site_core.specs.Lived.{Lived}
use Rattle.contexts.specs.Sites.{AppliesAt}

-- an operation of a pass, and what was answered
pub record Done (P : Type 0) : Type 0 where
  pub pass : ℕ
  pub op : Op
  pub answer : Acted (Given P) Refusal

module _ {P : Type 0} where
  -- those of one context, in order
  abbrev pub share : (context : ℕ) → List (ℕ × Done P) → List (Done P)
  share context [] = []
  share context (d ∷ more) = (if d.0 == context then d.1 ∷ [] else []) ++ share context more

  -- an operation with its reply, where memory didn't run out
  abbrev pub told : ℕ → Op → Acted (Given P) Refusal → List ((ℕ × Op) × Acted Reply Refusal)
  told pass o NoMemory = []
  told pass o answer = ((pass, o), reply_in answer) ∷ []

  -- the operations for which memory didn't run out
  abbrev pub asked : ℕ → Op → Acted (Given P) Refusal → List (ℕ × Op)
  asked pass o NoMemory = []
  asked pass o answer = (pass, o) ∷ []

  abbrev pub all_told : List (Done P) → List ((ℕ × Op) × Acted Reply Refusal)
  all_told [] = []
  all_told (d ∷ more) = told d.pass d.op d.answer ++ all_told more

  abbrev pub all_asked : List (Done P) → List (ℕ × Op)
  all_asked [] = []
  all_asked (d ∷ more) = asked d.pass d.op d.answer ++ all_asked more

module _ {P : Type 0} (needs : Needs) (made : P → List File → List ℕ → Type 0) where
  -- these were done to the sites of several contexts, one after the other
  abbrev pub AreDone : List Lived → List (ℕ × Done P) → List Lived → Type 0
  AreDone old [] new = new ≡ old
  AreDone old (d ∷ more) new =
      (mid : List Lived) × AppliesAt needs made old mid d.0 d.1.pass d.1.op d.1.answer × AreDone mid more new

  -- these were done to one site
  abbrev pub AreApplied : Lived → List (Done P) → Lived → Type 0
  AreApplied old [] new = new ≡ old
  AreApplied old (d ∷ more) new = (mid : Lived) × Applies needs made old mid d.pass d.op d.answer × AreApplied mid more new

  -- a context's answers and state are those of a site to which its operations alone are done
  abbrev pub IsApart : Type 0
  IsApart =
      (old new : List Lived) (done : List (ℕ × Done P)) (context : ℕ) (before : Lived)
      → AreDone old done new → slice_get old context ≡ Some before
      → (after : Lived) × (slice_get new context ≡ Some after) × AreApplied before (share context done) after

  -- in two worlds whose operations for one context are the same, where memory didn't run out, its
  -- replies and its state are the same
  abbrev pub IsSameInTwoWorlds : Type 0
  IsSameInTwoWorlds =
      (old new old' new' : List Lived) (done done' : List (ℕ × Done P)) (context : ℕ) (before : Lived)
      → AreDone old done new → AreDone old' done' new'
      → slice_get old context ≡ Some before → slice_get old' context ≡ Some before
      → all_asked (share context done) ≡ all_asked (share context done')
      → (all_told (share context done) ≡ all_told (share context done')) × (slice_get new context ≡ slice_get new' context)
