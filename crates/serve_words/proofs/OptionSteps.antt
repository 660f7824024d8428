-- What one option more says.
use Rattle.std.proofs.Common.{◌≡◌, ℕ, ◌<◌, ◌-◌, List, [], ◌∷◌, Some, None, length, map, take, drop, ap, refl, ◌∙◌, arith}
use Rattle.std.proofs.lemmas.List.{take_rest}
use Rattle.std.specs.Option.{option_and_then}
use Rattle.std.specs.Prelude.{slice_index_or}
use Rattle.serve_words.specs.Words.{Told, alone, onward, read, split_at_equals, with_word}

-- what is behind the first word
abbrev pub behind : {A : Type 0} → List A → List A
behind xs = take (length xs - 1) (drop 1 xs)

pub first_and_behind : {A : Type 0} (xs : List A) (x : A) → 0 < length xs → x ≡ slice_index_or xs 0 x → xs ≡ x ∷ behind xs
first_and_behind [] x some is = absurd (omega arith)
first_and_behind (y ∷ ys) x some is = rw (is, take_rest (y ∷ ys) 1) refl

read_one : (word name value : List ℕ) (words : List (List ℕ)) (told later : Told) → split_at_equals word ≡ Some (name, value) → with_word name value told ≡ Some later → read (word ∷ words) told ≡ read words later
read_one word name value [] told later is said = ap (λ split. alone split told) is ∙ said
read_one word name value (next ∷ words) told later is said =
    ap (λ split. onward split word next told (λ after. read (next ∷ words) after) (λ after. read words after)) is
    ∙ ap (option_and_then (λ after. read (next ∷ words) after)) said

read_two : (word value : List ℕ) (words : List (List ℕ)) (told later : Told) → split_at_equals word ≡ None → with_word word value told ≡ Some later → read (word ∷ value ∷ words) told ≡ read words later
read_two word value words told later is said =
    ap (λ split. onward split word value told (λ after. read (value ∷ words) after) (λ after. read words after)) is
    ∙ ap (option_and_then (λ after. read words after)) said

-- an option in one word, and then what the words behind it say
pub one_word : {A : Type 0} (bytes : A → List ℕ) (words : List A) (word : A) (name value : List ℕ) (told later : Told) → 0 < length words → word ≡ slice_index_or words 0 word → split_at_equals (bytes word) ≡ Some (name, value) → with_word name value told ≡ Some later → read (map bytes words) told ≡ read (map bytes (behind words)) later
one_word bytes words word name value told later some is split said =
    ap (λ l. read (map bytes l) told) (first_and_behind words word some is) ∙ read_one (bytes word) name value (map bytes (behind words)) told later split said

-- an option in two words, and then what the words behind them say
pub two_words : {A : Type 0} (bytes : A → List ℕ) (words : List A) (word value : A) (told later : Told) → 0 < length words → word ≡ slice_index_or words 0 word → 0 < length (behind words) → value ≡ slice_index_or (behind words) 0 value → split_at_equals (bytes word) ≡ None → with_word (bytes word) (bytes value) told ≡ Some later → read (map bytes words) told ≡ read (map bytes (behind (behind words))) later
two_words bytes words word value told later some is more next split said =
    ap (λ l. read (map bytes l) told) (first_and_behind words word some is ∙ ap (λ l. word ∷ l) (first_and_behind (behind words) value more next))
    ∙ read_two (bytes word) (bytes value) (map bytes (behind (behind words))) told later split said
