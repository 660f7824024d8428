-- Which command the words are those of.
use Rattle.std.proofs.Common.{◌≡◌, ℕ, false, List, [], ◌∷◌, None, codes, refl, ap, ◌∙◌}
use Rattle.std.specs.Str.{bytes_eq}
use Rattle.context_talk.specs.Contexts.{asked as contexts_asked}
use Rattle.pages_check.specs.Words.{path_asked}
use Rattle.pages_cli.specs.Words.{first_of}
use Rattle.pages_load.specs.Load.{number_asked}
use Rattle.pages_record.specs.Words.{record_asked}
use Rattle.pages_talk.specs.Play.{seed_asked}
use Rattle.preview.specs.Play.{seed_asked as preview_asked}
use Rattle.serve_words.specs.Words.{settings_asked}

pub no_seed : (words : List (List ℕ)) → bytes_eq (first_of words) (codes "play") ≡ false → seed_asked words ≡ None
no_seed [] is = refl
no_seed (word ∷ []) is = rw is refl
no_seed (word ∷ option ∷ []) is = refl
no_seed (word ∷ option ∷ digits ∷ []) is = rw is refl
no_seed (word ∷ option ∷ digits ∷ next ∷ words) is = refl

pub no_number : (words : List (List ℕ)) → bytes_eq (first_of words) (codes "load") ≡ false → number_asked words ≡ None
no_number [] is = refl
no_number (word ∷ []) is = refl
no_number (word ∷ digits ∷ []) is = rw is refl
no_number (word ∷ digits ∷ next ∷ words) is = refl

pub no_path : (words : List (List ℕ)) → bytes_eq (first_of words) (codes "check") ≡ false → path_asked words ≡ None
no_path [] is = refl
no_path (word ∷ []) is = refl
no_path (word ∷ path ∷ []) is = rw is refl
no_path (word ∷ path ∷ next ∷ words) is = refl

pub no_settings : (words : List (List ℕ)) → bytes_eq (first_of words) (codes "serve") ≡ false → settings_asked words ≡ None
no_settings [] is = refl
no_settings (word ∷ words) is = rw is refl

pub no_preview : (words : List (List ℕ)) → bytes_eq (first_of words) (codes "preview") ≡ false → preview_asked words ≡ None
no_preview [] is = refl
no_preview (word ∷ []) is = rw is refl
no_preview (word ∷ option ∷ []) is = refl
no_preview (word ∷ option ∷ digits ∷ []) is = rw is refl
no_preview (word ∷ option ∷ digits ∷ next ∷ words) is = refl

pub no_record : (words : List (List ℕ)) → bytes_eq (first_of words) (codes "record") ≡ false → record_asked words ≡ None
no_record [] is = refl
no_record (word ∷ []) is = rw is refl
no_record (word ∷ option ∷ []) is = refl
no_record (word ∷ option ∷ digits ∷ []) is = rw is refl
no_record (word ∷ option ∷ digits ∷ next ∷ words) is = refl

pub no_contexts : (words : List (List ℕ)) → bytes_eq (first_of words) (codes "contexts") ≡ false → contexts_asked words ≡ None
no_contexts [] is = refl
no_contexts (word ∷ []) is = refl
no_contexts (word ∷ names ∷ []) is = rw is refl
no_contexts (word ∷ names ∷ option ∷ []) is = refl
no_contexts (word ∷ names ∷ option ∷ digits ∷ []) is = rw is refl
no_contexts (word ∷ names ∷ option ∷ digits ∷ next ∷ words) is = refl

other_first : (name other : List ℕ) (words : List (List ℕ)) → first_of words ≡ name → bytes_eq name other ≡ false → bytes_eq (first_of words) other ≡ false
other_first name other words is apart = ap (λ w. bytes_eq w other) is ∙ apart

-- words that begin by this name ask for no command of another name
pub record AskNoOther (name : List ℕ) (words : List (List ℕ)) : Type 0 where
  pub play : bytes_eq name (codes "play") ≡ false → seed_asked words ≡ None
  pub check : bytes_eq name (codes "check") ≡ false → path_asked words ≡ None
  pub load : bytes_eq name (codes "load") ≡ false → number_asked words ≡ None
  pub serve : bytes_eq name (codes "serve") ≡ false → settings_asked words ≡ None
  pub preview : bytes_eq name (codes "preview") ≡ false → preview_asked words ≡ None
  pub recorded : bytes_eq name (codes "record") ≡ false → record_asked words ≡ None
  pub contexts : bytes_eq name (codes "contexts") ≡ false → contexts_asked words ≡ None

pub no_other : (name : List ℕ) (words : List (List ℕ)) → first_of words ≡ name → AskNoOther name words
no_other name words is = record {
  play = λ apart. no_seed words (other_first name (codes "play") words is apart);
  check = λ apart. no_path words (other_first name (codes "check") words is apart);
  load = λ apart. no_number words (other_first name (codes "load") words is apart);
  serve = λ apart. no_settings words (other_first name (codes "serve") words is apart);
  preview = λ apart. no_preview words (other_first name (codes "preview") words is apart);
  recorded = λ apart. no_record words (other_first name (codes "record") words is apart);
  contexts = λ apart. no_contexts words (other_first name (codes "contexts") words is apart);
}
