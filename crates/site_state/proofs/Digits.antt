-- Digits of a number, from the last one.
use Rattle.std.proofs.Common.{◌≡◌, ◌≢◌, ℕ, ◌+◌, ◌-◌, ◌*◌, ◌/◌, ◌%◌, ◌^◌, ◌<◌, ◌≤◌, ◌⊎◌, inl, inr, leb, zero, suc, Bool, true, false, List, [], ◌∷◌, ◌++◌, length, take, codes, refl, sym, ap, subst, ◌∙◌, arith}
use Rattle.std.specs.Prelude.{◌&&◌, ◌||◌, ◌==◌, nat_eq, nat_lt, slice_index_or, slice_index}
use Rattle.std.specs.Str.{bytes_eq}
use Rattle.std.proofs.lemmas.Bool.Decides.{nat_tests}
use Rattle.std.proofs.lemmas.Bool.{agree_below_at, and_parts, eqb-true, leb-true, or_cases}
use Rattle.std.proofs.lemmas.List.{length-take, length_push}
use Rattle.std.proofs.lemmas.Slice.Eq.{bytes_eq-Decides}
use Rattle.std.proofs.Math.Nat.{pow-succ'}
use Rattle.site_words.specs.Ids.{hex_digits, is_id}
use Rattle.site_words.specs.Trees.{every}

below_128 : (x : ℕ) (xs : List ℕ) → every (λ c. nat_lt c 128) (x ∷ xs) ≡ true → (x < 128) × (every (λ c. nat_lt c 128) xs ≡ true)
below_128 x xs h = go (nat_lt x 128) refl h
  where
    go : (b : Bool) → nat_lt x 128 ≡ b → (b && every (λ c. nat_lt c 128) xs) ≡ true → (x < 128) × (every (λ c. nat_lt c 128) xs ≡ true)
    go true is h = (grind (arith, nat_tests), h)
    go false is h = absurd (cc)

small_at : (xs : List ℕ) (i : ℕ) → every (λ c. nat_lt c 128) xs ≡ true → slice_index_or xs i 0 < 128
small_at [] i h = omega arith
small_at (x ∷ xs) zero h = (below_128 x xs h).0
small_at (x ∷ xs) (suc i) h = small_at xs i (below_128 x xs h).1

pub digit_small : (i : ℕ) → slice_index (codes "0123456789abcdef") i < 128
digit_small i = small_at (codes "0123456789abcdef") i refl

-- two lists with their last items
pub last_eq : (xs ys : List ℕ) (x y : ℕ) → bytes_eq (xs ++ x ∷ []) (ys ++ y ∷ []) ≡ (nat_eq x y && bytes_eq xs ys)
last_eq [] [] x y = refl
last_eq [] (b ∷ ys) x y = longer (nat_eq x b) (nat_eq x y) ys
  where
    longer : (p q : Bool) (ys : List ℕ) → (p && bytes_eq [] (ys ++ y ∷ [])) ≡ (q && false)
    longer false false [] = refl
    longer false true [] = refl
    longer true false [] = refl
    longer true true [] = refl
    longer false false (z ∷ ys) = refl
    longer false true (z ∷ ys) = refl
    longer true false (z ∷ ys) = refl
    longer true true (z ∷ ys) = refl
last_eq (a ∷ xs) [] x y = shorter (nat_eq a y) (nat_eq x y) xs
  where
    shorter : (p q : Bool) (xs : List ℕ) → (p && bytes_eq (xs ++ x ∷ []) []) ≡ (q && false)
    shorter false false [] = refl
    shorter false true [] = refl
    shorter true false [] = refl
    shorter true true [] = refl
    shorter false false (z ∷ xs) = refl
    shorter false true (z ∷ xs) = refl
    shorter true false (z ∷ xs) = refl
    shorter true true (z ∷ xs) = refl
last_eq (a ∷ xs) (b ∷ ys) x y = ap (λ r. nat_eq a b && r) (last_eq xs ys x y) ∙ swap (nat_eq a b) (nat_eq x y) (bytes_eq xs ys)
  where
    swap : (p q r : Bool) → (p && (q && r)) ≡ (q && (p && r))
    swap true true r = refl
    swap true false r = refl
    swap false true r = refl
    swap false false r = refl

-- the digits of a number, against bytes with a last one
pub hex_more : (count number last : ℕ) (front bytes : List ℕ) → 0 < count → bytes ≡ front ++ last ∷ []
    → bytes_eq (hex_digits count number) bytes ≡ (nat_eq (slice_index (codes "0123456789abcdef") (number % 16)) last && bytes_eq (hex_digits (count - 1) (number / 16)) front)
hex_more zero number last front bytes some is = absurd (omega arith)
hex_more (suc count) number last front bytes some is =
    let same : count ≡ suc count - 1 = omega arith in
    ap (λ b. bytes_eq (hex_digits (suc count) number) b) is
    ∙ (last_eq (hex_digits count (number / 16)) front (slice_index (codes "0123456789abcdef") (number % 16)) last
    ∙ ap (λ n. nat_eq (slice_index (codes "0123456789abcdef") (number % 16)) last && bytes_eq (hex_digits n (number / 16)) front) same)

pub hex_ends : (count number last digit : ℕ) (front bytes : List ℕ) → 0 < count → bytes ≡ front ++ last ∷ [] → digit ≡ slice_index (codes "0123456789abcdef") (number % 16) → last ≢ digit → false ≡ bytes_eq (hex_digits count number) bytes
hex_ends count number last digit front bytes some is digit_is other =
    let no : nat_eq (slice_index (codes "0123456789abcdef") (number % 16)) last ≡ false = grind (arith, nat_tests) in
    sym (hex_more count number last front bytes some is ∙ ap (λ b. b && bytes_eq (hex_digits (count - 1) (number / 16)) front) no)

pub hex_goes : (count number last digit : ℕ) (front bytes : List ℕ) (more : Bool) → 0 < count → bytes ≡ front ++ last ∷ [] → digit ≡ slice_index (codes "0123456789abcdef") (number % 16) → last ≡ digit
    → more ≡ bytes_eq (hex_digits (count - 1) (number / 16)) front → more ≡ bytes_eq (hex_digits count number) bytes
hex_goes count number last digit front bytes more some is digit_is here more_is =
    let yes : nat_eq (slice_index (codes "0123456789abcdef") (number % 16)) last ≡ true = grind (arith, nat_tests) in
    more_is ∙ sym (hex_more count number last front bytes some is ∙ ap (λ b. b && bytes_eq (hex_digits (count - 1) (number / 16)) front) yes)

none_eq : (xs : List ℕ) (x : ℕ) → bytes_eq (xs ++ x ∷ []) [] ≡ false
none_eq [] x = refl
none_eq (y ∷ ys) x = refl

-- no bytes are the digits of a number
pub hex_none : (count number : ℕ) (bytes : List ℕ) → 0 < count → length bytes ≡ 0 → false ≡ bytes_eq (hex_digits count number) bytes
hex_none zero number bytes some none = absurd (omega arith)
hex_none (suc count) number [] some none = sym (none_eq (hex_digits count (number / 16)) (slice_index (codes "0123456789abcdef") (number % 16)))
hex_none (suc count) number (x ∷ xs) some none = absurd (omega arith)

-- reading digits

-- what a digit may be
abbrev is_digit : ℕ → ℕ → Bool
is_digit value c = ((leb 48 c && leb c 57) && (c == value + 48)) || ((leb 97 c && leb c 102) && (c == value + 87))

pub digit_is : (value c : ℕ) → value < 16 → slice_index (codes "0123456789abcdef") value ≡ c → ((48 ≤ c) × (c ≤ 57) × (c ≡ value + 48)) ⊎ ((97 ≤ c) × (c ≤ 102) × (c ≡ value + 87))
digit_is value c small is = elim (or_cases ((leb 48 c && leb c 57) && (c == value + 48)) ((leb 97 c && leb c 102) && (c == value + 87)) (subst (λ d. is_digit value d ≡ true) is (agree_below_at (λ v. is_digit v (slice_index (codes "0123456789abcdef") v)) (λ v. true) 16 value refl small))) [
  | inl low ↦ (let both = and_parts (leb 48 c && leb c 57) (c == value + 48) low in let range = and_parts (leb 48 c) (leb c 57) both.0 in inl (leb-true 48 c range.0, leb-true c 57 range.1, eqb-true c (value + 48) both.1))
  | inr high ↦ (let both = and_parts (leb 97 c && leb c 102) (c == value + 87) high in let range = and_parts (leb 97 c) (leb c 102) both.0 in inr (leb-true 97 c range.0, leb-true c 102 range.1, eqb-true c (value + 87) both.1))
]

pow_step : (n k : ℕ) → n < 16 ^ suc k → n / 16 < 16 ^ k
pow_step n k below = let e = pow-succ' 16 k in omega arith

-- a number without digits
pub no_digits : (n k : ℕ) → k ≡ 0 → n < 16 ^ k → 0 ≡ n
no_digits n k none below = let least : n < 16 ^ 0 = subst (λ j. n < 16 ^ j) none below in omega arith

-- a number by its last digit and the others
pub hex_read : (n last high low : ℕ) (front bytes : List ℕ) → n < 2 ^ 64 → n < 16 ^ length bytes → bytes_eq (hex_digits (length bytes) n) bytes ≡ true → bytes ≡ front ++ last ∷ []
    → ((m : ℕ) → m < 2 ^ 64 → m < 16 ^ length front → bytes_eq (hex_digits (length front) m) front ≡ true → high ≡ m) → ((value : ℕ) → value < 16 → slice_index (codes "0123456789abcdef") value ≡ last → low ≡ value)
    → ((high * 16) % 2 ^ 64 + low) % 2 ^ 64 ≡ n
hex_read n last high low front bytes small below digits is high_is low_is =
    let long : length bytes ≡ suc (length front) = ap length is ∙ (let more = length_push front last in omega arith) in
    let less : length bytes - 1 ≡ length front = omega arith in
    let both = and_parts (nat_eq (slice_index (codes "0123456789abcdef") (n % 16)) last) (bytes_eq (hex_digits (length bytes - 1) (n / 16)) front) (sym (hex_more (length bytes) n last front bytes (omega arith) is) ∙ digits) in
    let low_here = low_is (n % 16) (omega arith) (eqb-true (slice_index (codes "0123456789abcdef") (n % 16)) last both.0) in
    let high_here = high_is (n / 16) (omega arith) (pow_step n (length front) (subst (λ k. n < 16 ^ k) long below)) (subst (λ k. bytes_eq (hex_digits k (n / 16)) front ≡ true) less both.1) in
    omega arith

-- an id begins with the digits of its number

pub id_front : (seed : List ℕ) (n : ℕ) (cookie : List ℕ) → is_id seed n cookie ≡ true → bytes_eq (hex_digits 16 n) (take 16 cookie) ≡ true
id_front seed n cookie is = go (bytes_eq (hex_digits 16 n) (take 16 cookie)) refl
  where
    go : (b : Bool) → bytes_eq (hex_digits 16 n) (take 16 cookie) ≡ b → b ≡ true
    go true e = refl
    go false e = let h = rw e at is in absurd (cc)

-- there are as many digits as are asked for
pub hex_length : (count n : ℕ) → length (hex_digits count n) ≡ count
hex_length zero n = refl
hex_length (suc count) n = length_push (hex_digits count (n / 16)) (slice_index (codes "0123456789abcdef") (n % 16)) ∙ (let more = hex_length count (n / 16) in omega arith)

pub id_long : (seed : List ℕ) (n : ℕ) (cookie : List ℕ) → is_id seed n cookie ≡ true → 16 ≤ length cookie
id_long seed n cookie is =
    let same = ap length ((bytes_eq-Decides (hex_digits 16 n) (take 16 cookie)).0 (id_front seed n cookie is)) in
    let digits = hex_length 16 n in
    let long = length-take 16 cookie in
    omega arith
