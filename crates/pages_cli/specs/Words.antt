-- The words of a command line.
use Rattle.std.specs.Prelude.{◌≡◌, ℕ, List, [], ◌∷◌, None}
use Rattle.context_talk.specs.Contexts.{asked as contexts_asked}
use Rattle.pages_check.specs.Words.{path_asked}
use Rattle.pages_load.specs.Load.{number_asked}
use Rattle.pages_record.specs.Words.{record_asked}
use Rattle.pages_talk.specs.Play.{seed_asked}
use Rattle.preview.specs.Play.{seed_asked as preview_asked}
use Rattle.serve_words.specs.Words.{settings_asked}

-- the first word, which chooses the command; the empty text where there is none
abbrev pub first_of : List (List ℕ) → List ℕ
first_of [] = []
first_of (word ∷ words) = word

-- they are the words of no command
pub record AsksNothing (words : List (List ℕ)) : Type 0 where
  pub play : seed_asked words ≡ None
  pub check : path_asked words ≡ None
  pub load : number_asked words ≡ None
  pub serve : settings_asked words ≡ None
  pub preview : preview_asked words ≡ None
  pub recorded : record_asked words ≡ None
  pub contexts : contexts_asked words ≡ None
