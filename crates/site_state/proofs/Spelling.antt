-- Texts that end in the digits of a word.
use Rattle.std.proofs.Common.{◌≡◌, ◌≢◌, ℕ, suc, ◌+◌, ◌-◌, ◌<◌, Bool, true, false, List, [], ◌∷◌, ◌++◌, length, take, drop, refl, sym, ap, ◌∙◌, arith}
use Rattle.std.specs.Prelude.{◌&&◌, nat_eq}
use Rattle.std.specs.Str.{bytes_eq}
use Rattle.std.proofs.lemmas.List.{length-append, take-append-drop}
use Rattle.std.proofs.lemmas.List.Sums.{fold_push}
use Rattle.site_words.specs.Ids.{hex_digits}
use Rattle.site_state.specs.Spelled.{spelled}
use Rattle.site_state.proofs.Digits.{hex_length}

-- lists of other lengths are other lists
uneven : (xs ys : List ℕ) → length xs ≢ length ys → bytes_eq xs ys ≡ false
uneven [] [] other = absurd (other refl)
uneven [] (y ∷ ys) other = refl
uneven (x ∷ xs) [] other = refl
uneven (x ∷ xs) (y ∷ ys) other = ap (λ r. nat_eq x y && r) (uneven xs ys (λ same. other (ap suc same))) ∙ neither (nat_eq x y)
  where
    neither : (b : Bool) → (b && false) ≡ false
    neither true = refl
    neither false = refl

-- two lists by their ends of one length
eq_parts : (a b x y : List ℕ) → length b ≡ length y → bytes_eq (a ++ b) (x ++ y) ≡ (bytes_eq a x && bytes_eq b y)
eq_parts [] b [] y same = refl
eq_parts [] b (c ∷ x) y same = uneven b (c ∷ x ++ y) (λ is. let more = length-append x y in omega arith)
eq_parts (d ∷ a) b [] y same = uneven (d ∷ a ++ b) y (λ is. let more = length-append a b in omega arith)
eq_parts (d ∷ a) b (c ∷ x) y same = ap (λ r. nat_eq d c && r) (eq_parts a b x y same) ∙ regroup (nat_eq d c) (bytes_eq a x) (bytes_eq b y)
  where
    regroup : (p q r : Bool) → (p && (q && r)) ≡ ((p && q) && r)
    regroup true q r = refl
    regroup false q r = refl

-- one word more
spelled_more : (number last : ℕ) (words front : List ℕ) → words ≡ front ++ last ∷ [] → spelled number words ≡ spelled number front ++ hex_digits 8 last
spelled_more number last words front is = ap (spelled number) is ∙ fold_push (λ text word. text ++ hex_digits 8 word) (hex_digits 16 number) front last

-- bytes that are shorter than a word don't end in one
pub too_short : (number last : ℕ) (words front bytes : List ℕ) → words ≡ front ++ last ∷ [] → length bytes < 8 → false ≡ bytes_eq (spelled number words) bytes
too_short number last words front bytes is short =
    let long = ap length (spelled_more number last words front is) ∙ length-append (spelled number front) (hex_digits 8 last) in
    let eight = hex_length 8 last in
    sym (uneven (spelled number words) bytes (λ same. omega arith))

-- bytes by their last eight
pub by_last : (number last : ℕ) (words rest bytes front digits : List ℕ) → words ≡ rest ++ last ∷ [] → front ≡ take (length bytes - 8) bytes → digits ≡ drop (length bytes - 8) bytes → length front + 8 ≡ length bytes
    → bytes_eq (spelled number words) bytes ≡ (bytes_eq (spelled number rest) front && bytes_eq (hex_digits 8 last) digits)
by_last number last words rest bytes front digits is front_is digits_is long =
    let whole : front ++ digits ≡ bytes = ap (λ f. f ++ digits) front_is ∙ (ap (λ d. take (length bytes - 8) bytes ++ d) digits_is ∙ take-append-drop (length bytes - 8) bytes) in
    let lengths : length front + length digits ≡ length bytes = sym (length-append front digits) ∙ ap length whole in
    let eight = hex_length 8 last in
    let even : length (hex_digits 8 last) ≡ length digits = omega arith in
    ap (λ s. bytes_eq s bytes) (spelled_more number last words rest is) ∙ (ap (λ b. bytes_eq (spelled number rest ++ hex_digits 8 last) b) (sym whole) ∙ eq_parts (spelled number rest) (hex_digits 8 last) front digits even)

and_last : (p q : Bool) → q ≡ true → (p && q) ≡ p
and_last true q is = is
and_last false q is = refl

and_not : (p q : Bool) → q ≡ false → (p && q) ≡ false
and_not true q is = is
and_not false q is = refl

pub spelled_here : (number last : ℕ) (words rest bytes front digits : List ℕ) (more : Bool) → words ≡ rest ++ last ∷ [] → front ≡ take (length bytes - 8) bytes → digits ≡ drop (length bytes - 8) bytes → length front + 8 ≡ length bytes
    → bytes_eq (hex_digits 8 last) digits ≡ true → more ≡ bytes_eq (spelled number rest) front → more ≡ bytes_eq (spelled number words) bytes
spelled_here number last words rest bytes front digits more is front_is digits_is long here more_is =
    more_is ∙ sym (by_last number last words rest bytes front digits is front_is digits_is long ∙ and_last (bytes_eq (spelled number rest) front) (bytes_eq (hex_digits 8 last) digits) here)

pub not_spelled : (number last : ℕ) (words rest bytes front digits : List ℕ) → words ≡ rest ++ last ∷ [] → front ≡ take (length bytes - 8) bytes → digits ≡ drop (length bytes - 8) bytes → length front + 8 ≡ length bytes
    → bytes_eq (hex_digits 8 last) digits ≡ false → false ≡ bytes_eq (spelled number words) bytes
not_spelled number last words rest bytes front digits is front_is digits_is long other =
    sym (by_last number last words rest bytes front digits is front_is digits_is long ∙ and_not (bytes_eq (spelled number rest) front) (bytes_eq (hex_digits 8 last) digits) other)
