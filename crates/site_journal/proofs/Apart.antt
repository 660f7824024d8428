-- Texts that stand apart: those of numbers, bytes and choices, and those that are made of others.
use Rattle.std.proofs.Common.{◌≡◌, ℕ, true, false, List, [], ◌∷◌, ◌++◌, length, refl, sym, ap, ◌∙◌, append_assoc, arith, Some, None}
use Rattle.std.proofs.lemmas.Nat.{from_be_bytes-to_be_bytes_8}
use Rattle.std.proofs.lemmas.Int.{to_z-of_z}
use Rattle.std.specs.Int.{w64, cast_signed, cast_unsigned, from_be_bytes}
use Rattle.std.specs.Prelude.{flat_map, ℤ, pos, negsuc, ⊤}
use Rattle.site_journal.specs.Codes.{AreBytes, IsInt, IsList, IsNumber, IsOption, IsText, of_bytes, of_int, of_list, of_number, of_option, of_truth}
use Rattle.site_journal.specs.Reading.{StandsApart}
use Rattle.site_words.specs.Trees.{Each}

-- equal lists have equal heads and tails
pub head_same : {A : Type 0} (a b : A) (s t : List A) → a ∷ s ≡ b ∷ t → a ≡ b
head_same a b s t e = cc

pub tail_same : {A : Type 0} (a b : A) (s t : List A) → a ∷ s ≡ b ∷ t → s ≡ t
tail_same a b s t e = cc

-- fronts of one length are one front
pub fronts_same : {A : Type 0} (x y s t : List A) → length x ≡ length y → x ++ s ≡ y ++ t → (x ≡ y) × (s ≡ t)
fronts_same [] [] s t same e = (refl, e)
fronts_same [] (b ∷ y) s t same e = absurd (omega (arith, same))
fronts_same (a ∷ x) [] s t same e = absurd (omega (arith, same))
fronts_same (a ∷ x) (b ∷ y) s t same e =
    let rest = fronts_same x y s t (omega (arith, same)) (tail_same a b (x ++ s) (y ++ t) e) in
    (ap (λ c. c ∷ x) (head_same a b (x ++ s) (y ++ t) e) ∙ ap (λ z. b ∷ z) rest.0, rest.1)

-- numbers

pub number_apart : StandsApart IsNumber of_number
number_apart a b s t is also e =
    let both = fronts_same (of_number a) (of_number b) s t refl e in
    (sym (from_be_bytes-to_be_bytes_8 a is) ∙ ap (from_be_bytes w64) both.0 ∙ from_be_bytes-to_be_bytes_8 b also, both.1)

int_below : (n : ℤ) → IsInt n → IsNumber (cast_unsigned w64 n)
int_below (pos n) is = omega (arith, is)
int_below (negsuc n) is = omega arith

pub int_apart : StandsApart IsInt of_int
int_apart a b s t is also e =
    let both = number_apart (cast_unsigned w64 a) (cast_unsigned w64 b) s t (int_below a is) (int_below b also) e in
    (sym (to_z-of_z w64 a is) ∙ ap (cast_signed w64) both.0 ∙ to_z-of_z w64 b also, both.1)

abbrev pub IsByte : ℕ → Type 0
IsByte n = ⊤

pub byte_apart : StandsApart IsByte (λ n. n ∷ [])
byte_apart a b s t is also e = (head_same a b s t e, tail_same a b s t e)

pub truth_apart : StandsApart (λ b. ⊤) of_truth
truth_apart false false s t is also e = (refl, tail_same 0 0 s t e)
truth_apart true true s t is also e = (refl, tail_same 1 1 s t e)
truth_apart false true s t is also e = absurd (omega (arith, head_same 0 1 s t e))
truth_apart true false s t is also e = absurd (omega (arith, head_same 1 0 s t e))

-- one behind the other

pub two_apart : {A B : Type 0} (P : A → Type 0) (Q : B → Type 0) (f : A → List ℕ) (g : B → List ℕ) → StandsApart P f → StandsApart Q g → StandsApart (λ (x : A × B). P x.0 × Q x.1) (λ x. f x.0 ++ g x.1)
two_apart P Q f g first second a b s t is also e =
    let one = first a.0 b.0 (g a.1 ++ s) (g b.1 ++ t) is.0 also.0 (sym (append_assoc (f a.0) (g a.1) s) ∙ e ∙ append_assoc (f b.0) (g b.1) t) in
    let other = second a.1 b.1 s t is.1 also.1 one.1 in
    (ap (λ x. (x, a.1)) one.0 ∙ ap (λ y. (b.0, y)) other.0, other.1)

-- of what is another thing seen otherwise
pub seen_apart : {A B : Type 0} (P : A → Type 0) (Q : B → Type 0) (f : A → List ℕ) (g : B → List ℕ) (to : A → B) (from : B → A) → ((a : A) → from (to a) ≡ a) → ((a : A) → P a → Q (to a)) → ((a : A) → f a ≡ g (to a))
    → StandsApart Q g → StandsApart P f
seen_apart P Q f g to from back holds text apart a b s t is also e =
    let both = apart (to a) (to b) s t (holds a is) (holds b also) (ap (λ x. x ++ s) (sym (text a)) ∙ e ∙ ap (λ x. x ++ t) (text b)) in
    (sym (back a) ∙ ap from both.0 ∙ back b, both.1)

-- bytes and texts

pub bytes_apart : StandsApart AreBytes of_bytes
bytes_apart a b s t is also e =
    let one = number_apart (length a) (length b) (a ++ s) (b ++ t) is also (sym (append_assoc (of_number (length a)) a s) ∙ e ∙ append_assoc (of_number (length b)) b t) in
    fronts_same a b s t one.0 one.1

pub text_apart : StandsApart IsText of_bytes
text_apart a b s t is also e = bytes_apart a b s t is.0 also.0 e

-- lists and options

module _ {A : Type 0} (P : A → Type 0) (f : A → List ℕ) (apart : StandsApart P f) where
  pub items_apart : (xs ys : List A) (s t : List ℕ) → length xs ≡ length ys → Each P xs → Each P ys → flat_map f xs ++ s ≡ flat_map f ys ++ t → (xs ≡ ys) × (s ≡ t)
  items_apart [] [] s t same is also e = (refl, e)
  items_apart [] (y ∷ ys) s t same is also e = absurd (omega (arith, same))
  items_apart (x ∷ xs) [] s t same is also e = absurd (omega (arith, same))
  items_apart (x ∷ xs) (y ∷ ys) s t same is also e =
      let one = apart x y (flat_map f xs ++ s) (flat_map f ys ++ t) is.0 also.0 (sym (append_assoc (f x) (flat_map f xs) s) ∙ e ∙ append_assoc (f y) (flat_map f ys) t) in
      let rest = items_apart xs ys s t (omega (arith, same)) is.1 also.1 one.1 in
      (ap (λ z. z ∷ xs) one.0 ∙ ap (λ zs. y ∷ zs) rest.0, rest.1)

  pub list_apart : StandsApart (IsList P) (of_list f)
  list_apart xs ys s t is also e =
      let one = number_apart (length xs) (length ys) (flat_map f xs ++ s) (flat_map f ys ++ t) is.0 also.0
      (sym (append_assoc (of_number (length xs)) (flat_map f xs) s) ∙ e ∙ append_assoc (of_number (length ys)) (flat_map f ys) t) in
      items_apart xs ys s t one.0 is.1 also.1 one.1

  pub option_apart : StandsApart (IsOption P) (of_option f)
  option_apart None None s t is also e = (refl, tail_same 0 0 s t e)
  option_apart None (Some y) s t is also e = absurd (omega (arith, head_same 0 1 s (f y ++ t) e))
  option_apart (Some x) None s t is also e = absurd (omega (arith, head_same 1 0 (f x ++ s) t e))
  option_apart (Some x) (Some y) s t is also e =
      let both = apart x y s t is also (tail_same 1 1 (f x ++ s) (f y ++ t) e) in
      (ap Some both.0, both.1)
