-- The words of the command `record`.
use Rattle.std.specs.Prelude.{ℕ, ◌&&◌, List, [], ◌∷◌, codes, Option, Some, None, if◌then◌else◌}
use Rattle.std.specs.Str.{bytes_eq}
use Rattle.pages_talk.specs.Play.{first_seed}
use Rattle.site_words.specs.Seed.{seed_of}

-- the seed that the words ask for: they are `record`, or `record`, `--seed` and the digits of a seed
abbrev pub record_asked : List (List ℕ) → Option (List ℕ)
record_asked [] = None
record_asked (word ∷ []) = if bytes_eq word (codes "record") then Some first_seed else None
record_asked (word ∷ option ∷ []) = None
record_asked (word ∷ option ∷ digits ∷ []) = if bytes_eq word (codes "record") && bytes_eq option (codes "--seed") then seed_of digits else None
record_asked (word ∷ option ∷ digits ∷ next ∷ words) = None
