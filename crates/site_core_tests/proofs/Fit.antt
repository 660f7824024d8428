-- An operation that meets its condition may be asked for, with a value that is made from every tree.
use Rattle.std.proofs.Common.{◌≡◌, ◌≢◌, ℕ, true, false, List, Option, Some, None, subst}
use Rattle.source_tree.specs.declared.file.File.{File}
use Rattle.site_words.specs.declared.words.Entry.{Entry}
use Rattle.site_words.specs.declared.words.Op.{Op}
use Rattle.site_words.specs.declared.words.Op.TheVariants as op
use Rattle.site_words.specs.declared.words.Opening.{Opening}
use Rattle.site_words.specs.declared.words.Run.{Run}
use Rattle.site_words.specs.Fits.{asks, fits}
use Rattle.site_words.specs.Law.{Legal, May, own}
use Rattle.site_words.specs.State.{after}
use Rattle.site_words.specs.Trees.{Needs}
use Rattle.site_words.proofs.Legal.{fits_may}
use Rattle.site_state.specs.Gifts.{IsMade}
use Rattle.site_core_tests.specs.Roll.{is_roll}

not_roll : (o : Op) → is_roll o ≡ false → o ≢ op.Roll
not_roll o is = λ roll. let no : true ≡ false = subst (λ q. is_roll q ≡ false) roll is in absurd (cc)

pub fit_may : (needs : Needs) (x : Opening) (front : List Entry) (pass : ℕ) (o : Op) → Legal needs x front → is_roll o ≡ false → fits x (after needs x front) pass o ≡ true → May x front pass (own pass front) o
fit_may needs x front pass o legal other fit = fits_may needs x front pass o legal (not_roll o other) fit

pub made_anywhere : {P : Type 0} (made : P → List File → List ℕ → Type 0) (x : Opening) (front : List Entry) (run : Option Run) (o : Op) (v : P) → ((tree : List File) (path : List ℕ) → made v tree path) → asks run o ≡ true → IsMade made x front run o (Some v)
made_anywhere made x front None (op.Offer request path) v all ask = absurd (cc)
made_anywhere made x front (Some run) (op.Offer request path) v all ask = all _ path
made_anywhere made x front run o v all ask = tt
