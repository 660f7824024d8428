-- Texts cut at bytes, and without blanks at their ends.
use Rattle.std.proofs.Common.{◌≡◌, ℕ, zero, suc, ◌+◌, ◌-◌, ◌<◌, ◌≤◌, true, false, not, List, [], ◌∷◌, ◌++◌, length, reverse, get_or, take, drop, Option, Some, None, refl, sym, ap, ◌∙◌, subst, inl, inr, arith, add-one, IsUtf8}
use Rattle.std.specs.List.{after_first, before_first, list_any, position_or_len, prefix_len, slice_split, suffix_len}
use Rattle.std.specs.Str.{IsCharBoundary}
use Rattle.std.proofs.lemmas.Bool.{cases_Bool, not-true}
use Rattle.std.proofs.lemmas.Bool.Decides.{nat_tests}
use Rattle.std.proofs.lemmas.List.{get_or-reverse, length-drop, length-reverse, reverse-append, reverse-reverse, take-append-drop, take_at}
use Rattle.std.proofs.lemmas.List.Splits.{slice_split_none, slice_split_first}
use Rattle.std.proofs.lemmas.List.Sums.{prefix_len-le-length, prefix_len_passes, suffix_len-le-length}
use Rattle.std.proofs.lemmas.Str.{IsCharBoundary-start, IsCharBoundary-end, IsCharBoundary-before_ascii, IsCharBoundary-after_ascii}
use Rattle.httparse.specs.Grammar.{is_ows, skip_ows}
use Rattle.page_meaning.specs.Request.{cookie_in, is_equals_sign, is_semicolon}

-- how much of a text is left
abbrev pub left_of : Option (List ℕ) → ℕ
left_of (Some text) = suc (length text)
left_of None = 0

-- a text is cut at its first semicolon
pub pieces_cut : (text before after : List ℕ) → position_or_len is_semicolon text < length text → before ≡ before_first is_semicolon text → after ≡ after_first is_semicolon text
    → slice_split is_semicolon text ≡ before ∷ slice_split is_semicolon after
pieces_cut text before after within is_before is_after = slice_split_first is_semicolon text 0 within ∙ rw (is_before, is_after) refl

-- a text without one is one piece
pub pieces_whole : (text : List ℕ) → position_or_len is_semicolon text ≡ length text → slice_split is_semicolon text ≡ text ∷ []
pieces_whole text none = slice_split_none is_semicolon text (λ k d within. not-true _ (prefix_len_passes (λ b. not (is_semicolon b)) text k d (omega arith)))

-- whether a text has an equals sign
pub has_sign : (text : List ℕ) → position_or_len is_equals_sign text < length text → list_any is_equals_sign text ≡ true
has_sign [] within = absurd (omega (arith, within))
has_sign (b ∷ text) within = elim (cases_Bool (is_equals_sign b)) [
  | inl is ↦ rw is refl
  | inr other ↦ rw other (has_sign text (let less : 1 + position_or_len is_equals_sign text < suc (length text) = rw other at within in omega arith))
]

pub has_no_sign : (text : List ℕ) → position_or_len is_equals_sign text ≡ length text → list_any is_equals_sign text ≡ false
has_no_sign [] none = refl
has_no_sign (b ∷ text) none = elim (cases_Bool (is_equals_sign b)) [
  | inl is ↦ absurd (let e : 0 ≡ suc (length text) = rw is at none in omega arith)
  | inr other ↦ rw other (has_no_sign text (let e : 1 + position_or_len is_equals_sign text ≡ suc (length text) = rw other at none in omega arith))
]

-- a text behind its blanks, and before them
pub skipped_is : (text : List ℕ) → drop (prefix_len is_ows text) text ≡ skip_ows text
skipped_is [] = refl
skipped_is (b ∷ text) = elim (cases_Bool (is_ows b)) [
  | inl is ↦ let e : 1 + prefix_len is_ows text ≡ suc (prefix_len is_ows text) = omega arith in rw is (ap (λ n. drop n (b ∷ text)) e ∙ skipped_is text)
  | inr other ↦ rw other refl
]

blank_ascii : (b : ℕ) → is_ows b ≡ true → b < 128
blank_ascii b is = grind (arith, nat_tests)

pub blank_cut : (text : List ℕ) → IsUtf8 text → IsCharBoundary text (prefix_len is_ows text)
blank_cut text utf8 = go (prefix_len is_ows text) refl
  where
    go : (n : ℕ) → prefix_len is_ows text ≡ n → IsCharBoundary text n
    go zero is = IsCharBoundary-start text utf8
    go (suc n) is =
        let within : n < length text = omega (arith, prefix_len-le-length is_ows text) in
        subst (IsCharBoundary text) (add-one n) (IsCharBoundary-after_ascii text n utf8 within (blank_ascii _ (prefix_len_passes is_ows text n 0 (omega arith))))

pub blank_end_cut : (text : List ℕ) → IsCharBoundary text (length text - suffix_len is_ows text)
blank_end_cut text = go (suffix_len is_ows text) refl
  where
    go : (n : ℕ) → suffix_len is_ows text ≡ n → IsCharBoundary text (length text - n)
    go zero is = subst (IsCharBoundary text) (omega arith) (IsCharBoundary-end text)
    go (suc n) is =
        let most : suc n ≤ length text = omega (arith, suffix_len-le-length is_ows text) in
        let passes : is_ows (get_or (reverse text) n 0) ≡ true = prefix_len_passes is_ows (reverse text) n 0 (omega arith) in
        let at : get_or (reverse text) n 0 ≡ get_or text (length text - 1 - n) 0 = get_or-reverse text n 0 (omega arith) in
        let place : length text - 1 - n ≡ length text - suc n = omega arith in
        IsCharBoundary-before_ascii text (length text - suc n) (omega arith) (subst (λ k. get_or text k 0 < 128) place (blank_ascii _ (subst (λ b. is_ows b ≡ true) at passes)))

-- a text before the blanks at its end
pub ended_is : (text : List ℕ) → take (length text - suffix_len is_ows text) text ≡ reverse (skip_ows (reverse text))
ended_is text = cut (suffix_len is_ows text) ∙ ap reverse (skipped_is (reverse text))
  where
    cut : (k : ℕ) → take (length text - k) text ≡ reverse (drop k (reverse text))
    cut k =
        let parts : text ≡ reverse (drop k (reverse text)) ++ reverse (take k (reverse text)) =
        sym (reverse-reverse text) ∙ ap reverse (sym (take-append-drop k (reverse text))) ∙ reverse-append (take k (reverse text)) (drop k (reverse text)) in
        let size : length (reverse (drop k (reverse text))) ≡ length text - k = simp (length-reverse, length-drop) in
        ap (take (length text - k)) parts ∙ take_at (reverse (drop k (reverse text))) (reverse (take k (reverse text))) (length text - k) size

-- no cookie without an equals sign
pub no_cookie : (piece : List ℕ) → position_or_len is_equals_sign piece ≡ length piece → [] ≡ cookie_in piece
no_cookie piece none = rw (has_no_sign piece none) refl
