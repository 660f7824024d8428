-- A site on which no request is under way.
use Rattle.std.proofs.Common.{◌≡◌, ℕ, zero, suc, true, List, [], ◌∷◌, Option, Some, None, refl, sym, ◌∙◌}
use Rattle.site_words.specs.declared.words.Entry.{Entry}
use Rattle.site_words.specs.declared.words.Opening.{Opening}
use Rattle.site_words.specs.Fits.{at_rest}
use Rattle.site_words.specs.Invariants.{AllRest}
use Rattle.site_words.specs.Runs.{UnderWay, run_at}
use Rattle.site_words.specs.State.{after}
use Rattle.site_words.specs.Trees.{Needs}
use Rattle.site_words.proofs.Lasting.{run_is_own}

none_at : (runs : List (Option UnderWay)) (k : ℕ) → at_rest runs ≡ true → run_at runs k ≡ None
none_at [] k is = refl
none_at (None ∷ runs) zero is = refl
none_at (None ∷ runs) (suc k) is = none_at runs k is
none_at (Some under ∷ runs) k is = absurd (cc)

pub all_rest : (needs : Needs) (x : Opening) (history : List Entry) → at_rest (after needs x history).runs ≡ true → AllRest x history
all_rest needs x history is = λ k within. sym (run_is_own needs x history k within) ∙ none_at (after needs x history).runs k is
