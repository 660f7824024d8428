-- The sites of several contexts.
use Rattle.std.specs.Prelude.{◌≡◌, ℕ, zero, suc, ◌+◌, ◌%◌, List, [], ◌∷◌, ◌++◌, Some, set, slice_index}
use Rattle.std.specs.List.{slice_get}
use Rattle.contexts.specs.declared.limits.TheConstants.{CONTEXT_JOURNAL_LIMIT}
use Rattle.edges.specs.declared.acted.Acted.{Acted}
use Rattle.source_tree.specs.declared.file.File.{File}
use Rattle.site_words.specs.Invariants.{AllRest}
use Rattle.site_words.specs.Trees.{Needs}
use Rattle.site_words.specs.declared.limits.TheConstants.{IDLE_SECONDS}
use Rattle.site_words.specs.declared.words.Op.{Op}
use Rattle.site_words.specs.declared.words.Refusal.{Refusal}
use Rattle.site_state.specs.declared.gift.Given.{Given}
use Rattle.site_core.specs.Applies.{Applies}
use Rattle.site_core.specs.Lived.{Lived, first_opening}

-- the seed of a context: its place is added to the last byte
abbrev pub seed_at : List ℕ → (context : ℕ) → List ℕ
seed_at seed context = set seed 31 ((slice_index seed 31 + context) % 256)

-- the site of a context when it starts: without files, with a journal of 128 MiB, and sessions that end after half an hour
abbrev pub site_at : (seed : List ℕ) → (passes : ℕ) → (context : ℕ) → Lived
site_at seed passes context =
    record { opening = first_opening (seed_at seed context) [] [] CONTEXT_JOURNAL_LIMIT passes IDLE_SECONDS; history = [] }

-- the sites of so many contexts
abbrev pub sites_of : (seed : List ℕ) → (passes : ℕ) → (count : ℕ) → List Lived
sites_of seed passes zero = []
sites_of seed passes (suc count) = sites_of seed passes count ++ site_at seed passes count ∷ []

-- in this context the operation came to this, and every other site is as it was
pub record AppliesAt {P : Type 0} (needs : Needs) (made : P → List File → List ℕ → Type 0)
    (old new : List Lived) (context pass : ℕ) (o : Op) (answer : Acted (Given P) Refusal) : Type 0 where
  pub before : Lived
  pub before_is : slice_get old context ≡ Some before
  pub after : Lived
  pub applies : Applies needs made before after pass o answer
  pub sites_are : new ≡ set old context after

-- no request is under way on the site
abbrev pub Rests : Lived → Type 0
Rests site = AllRest site.opening site.history
