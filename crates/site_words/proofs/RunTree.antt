-- The tree of a pass's request, by its own entries and the operations, is the one that the state has.
use Rattle.std.proofs.Common.{◌≡◌, ℕ, zero, suc, ◌-◌, ◌<◌, List, [], ◌∷◌, Option, Some, None, sym, subst, ◌∙◌}
use Rattle.std.specs.Prelude.{slice_get, slice_index_or}
use Rattle.source_tree.specs.declared.file.File.{File}
use Rattle.site_words.specs.declared.words.Run.{Run}
use Rattle.site_words.specs.declared.words.Entry.{Entry}
use Rattle.site_words.specs.declared.words.Opening.{Opening}
use Rattle.site_words.specs.Answers.{ForRun}
use Rattle.site_words.specs.Law.{Legal, own, run_of, trees_of}
use Rattle.site_words.specs.Runs.{UnderWay, under_at, run_in, tree_in}
use Rattle.site_words.specs.State.{after}
use Rattle.site_words.specs.Trees.{Needs}
use Rattle.site_words.proofs.Items.{each_at}
use Rattle.site_words.proofs.Lasting.{run_is_own}
use Rattle.site_words.proofs.Trees.{trees_are}
use Rattle.site_words.specs.Invariants.{HasTree}

get_index : {A : Type 0} (xs : List A) (k : ℕ) (a d : A) → slice_get xs k ≡ Some a → slice_index_or xs k d ≡ a
get_index [] k a d h = absurd (cc)
get_index (x ∷ xs) zero a d h = cc
get_index (x ∷ xs) (suc k) a d h = get_index xs k a d h

from_under : (x : Opening) (front : List Entry) (under : Option UnderWay) (P : List File → Type 0) → HasTree x.version (trees_of x front) under → ForRun x front (run_in under) P → P (tree_in under)
from_under x front None P has h = absurd h
from_under x front (Some under) P has h = subst P (get_index (trees_of x front) (under.run.version - x.version) under.tree [] has.1) h

to_under : (x : Opening) (front : List Entry) (under : Option UnderWay) (run : Run) (P : List File → Type 0) → HasTree x.version (trees_of x front) under → run_in under ≡ Some run → P (tree_in under) → ForRun x front (run_in under) P
to_under x front None run P has is h = absurd (cc)
to_under x front (Some under) run P has is h = subst P (sym (get_index (trees_of x front) (under.run.version - x.version) under.tree [] has.1)) h

-- what a port says of the request's tree holds of the tree that the state has for it
pub of_run_tree : (needs : Needs) (x : Opening) (front : List Entry) (pass : ℕ) (P : List File → Type 0) → Legal needs x front → pass < x.passes
    → ForRun x front (run_of (own pass front)) P → P (tree_in (under_at (after needs x front).runs pass))
of_run_tree needs x front pass P legal below h =
    let has : HasTree x.version (trees_of x front) (under_at (after needs x front).runs pass) = each_at (HasTree x.version (trees_of x front)) (after needs x front).runs pass None tt (trees_are needs x front legal).bases in
    from_under x front (under_at (after needs x front).runs pass) P has (subst (λ run. ForRun x front run P) (sym (run_is_own needs x front pass below)) h)

pub to_run_tree : (needs : Needs) (x : Opening) (front : List Entry) (pass : ℕ) (run : Run) (P : List File → Type 0) → Legal needs x front → pass < x.passes → run_of (own pass front) ≡ Some run
    → P (tree_in (under_at (after needs x front).runs pass)) → ForRun x front (run_of (own pass front)) P
to_run_tree needs x front pass run P legal below is h =
    let has : HasTree x.version (trees_of x front) (under_at (after needs x front).runs pass) = each_at (HasTree x.version (trees_of x front)) (after needs x front).runs pass None tt (trees_are needs x front legal).bases in
    let own_is = run_is_own needs x front pass below in
    subst (λ run. ForRun x front run P) own_is (to_under x front (under_at (after needs x front).runs pass) run P has (own_is ∙ is) h)
