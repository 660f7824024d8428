-- Characters up to U+0020 are one byte, so a text may be cut behind them.
use Rattle.std.proofs.Common.{◌≡◌, ℕ, zero, suc, ◌-◌, ◌<◌, ◌≤◌, true, List, length, reverse, get_or, refl, subst, arith, add-one, IsUtf8}
use Rattle.std.specs.List.{prefix_len, suffix_len}
use Rattle.std.specs.Str.{IsCharBoundary}
use Rattle.std.proofs.lemmas.Bool.Decides.{nat_tests}
use Rattle.std.proofs.lemmas.List.{get_or-reverse}
use Rattle.std.proofs.lemmas.List.Sums.{prefix_len-le-length, prefix_len_passes, suffix_len-le-length}
use Rattle.std.proofs.lemmas.Str.{IsCharBoundary-start, IsCharBoundary-end, IsCharBoundary-before_ascii, IsCharBoundary-after_ascii}
use Rattle.jstl_functions.specs.Texts.{is_low}

low_ascii : (b : ℕ) → is_low b ≡ true → b < 128
low_ascii b is = grind (arith, nat_tests)

-- behind those that stand first
pub low_cut : (text : List ℕ) → IsUtf8 text → IsCharBoundary text (prefix_len is_low text)
low_cut text utf8 = go (prefix_len is_low text) refl
  where
    go : (n : ℕ) → prefix_len is_low text ≡ n → IsCharBoundary text n
    go zero is = IsCharBoundary-start text utf8
    go (suc n) is =
        let within : n < length text = omega (arith, prefix_len-le-length is_low text) in
        subst (IsCharBoundary text) (add-one n) (IsCharBoundary-after_ascii text n utf8 within (low_ascii _ (prefix_len_passes is_low text n 0 (omega arith))))

-- before those that stand last
pub low_end_cut : (text : List ℕ) → IsCharBoundary text (length text - suffix_len is_low text)
low_end_cut text = go (suffix_len is_low text) refl
  where
    go : (n : ℕ) → suffix_len is_low text ≡ n → IsCharBoundary text (length text - n)
    go zero is = subst (IsCharBoundary text) (omega arith) (IsCharBoundary-end text)
    go (suc n) is =
        let most : suc n ≤ length text = omega (arith, suffix_len-le-length is_low text) in
        let passes : is_low (get_or (reverse text) n 0) ≡ true = prefix_len_passes is_low (reverse text) n 0 (omega arith) in
        let at : get_or (reverse text) n 0 ≡ get_or text (length text - 1 - n) 0 = get_or-reverse text n 0 (omega arith) in
        let place : length text - 1 - n ≡ length text - suc n = omega arith in
        IsCharBoundary-before_ascii text (length text - suc n) (omega arith) (subst (λ k. get_or text k 0 < 128) place (low_ascii _ (subst (λ b. is_low b ≡ true) at passes)))
