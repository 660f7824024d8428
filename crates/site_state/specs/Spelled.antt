-- The id of a session by its words.
use Rattle.std.specs.Prelude.{ℕ, ◌+◌, ◌*◌, List, [], ◌∷◌, ◌++◌}
use Rattle.std.specs.List.{fold}
use Rattle.site_words.specs.Ids.{hex_digits, word_of}

-- the words of a session's id
abbrev pub id_words : List ℕ → ℕ → List ℕ
id_words seed number = word_of seed (4 * number) ∷ word_of seed (4 * number + 1) ∷ word_of seed (4 * number + 2) ∷ word_of seed (4 * number + 3) ∷ []

-- the digits of a number and then those of words
abbrev pub spelled : ℕ → List ℕ → List ℕ
spelled number words = fold (λ text word. text ++ hex_digits 8 word) (hex_digits 16 number) words
