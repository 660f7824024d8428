-- The command `preview`: its words, and what it comes to.
use Rattle.std.specs.Prelude.{ℕ, ◌&&◌, List, [], ◌∷◌, codes, Option, Some, None, if◌then◌else◌}
use Rattle.std.specs.Str.{bytes_eq}
use Rattle.conversation.specs.declared.ended.Ended.{Ended}
use Rattle.compiled_pages.specs.Pages.{needs_at}
use Rattle.pages_talk.specs.Play.{first_seed, opening_of}
use Rattle.preview_words.specs.Laws.{GrewByPictures}
use Rattle.preview_words.specs.Previewed.{HasPreviewed}
use Rattle.site_words.specs.Seed.{seed_of}
use Rattle.site_words.specs.declared.words.Entry.{Entry}

-- the seed that the words ask for: they are `preview`, or `preview`, `--seed` and the digits of a seed
abbrev pub seed_asked : List (List ℕ) → Option (List ℕ)
seed_asked [] = None
seed_asked (word ∷ []) = if bytes_eq word (codes "preview") then Some first_seed else None
seed_asked (word ∷ option ∷ []) = None
seed_asked (word ∷ option ∷ digits ∷ []) =
    if bytes_eq word (codes "preview") && bytes_eq option (codes "--seed") then seed_of digits else None
seed_asked (word ∷ option ∷ digits ∷ next ∷ words) = None

-- the requests of a preview connection to a site without files were answered, by pictures of it alone
pub record HasPlayed (seed : List ℕ) (steps further : ℕ) (left later : Option (List ℕ)) (before after : ℕ)
    (taken has : Option (List ℕ)) (ended : Ended) : Type 0 where
  pub seen : List Entry
  pub talk :
      HasPreviewed needs_at (opening_of seed) 0 [] seen steps further left later before after taken has ended
  pub alone : GrewByPictures 0 [] seen
