-- A text may be cut behind white space and behind a name, which are ASCII.
use Rattle.std.proofs.Common.{◌≡◌, ℕ, zero, suc, ◌+◌, ◌<◌, ◌≤◌, Bool, true, false, cond, List, [], ◌∷◌, length, get_or, refl, subst, arith, add-one, IsUtf8}
use Rattle.std.specs.List.{prefix_len}
use Rattle.std.specs.Str.{IsCharBoundary}
use Rattle.std.proofs.lemmas.Bool.Decides.{nat_tests}
use Rattle.std.proofs.lemmas.List.Sums.{prefix_len-le-length, prefix_len_passes}
use Rattle.std.proofs.lemmas.Str.{IsCharBoundary-start, IsCharBoundary-after_ascii}
use Rattle.page_pieces.specs.Names.{is_white, is_name_start, is_name_byte, white_len, name_len}

-- a text may be cut behind bytes at its front that are ASCII
pub ascii_cut : (text : List ℕ) (n : ℕ) → IsUtf8 text → n ≤ length text → ((i : ℕ) → i < n → get_or text i 0 < 128) → IsCharBoundary text n
ascii_cut text zero utf8 within each = IsCharBoundary-start text utf8
ascii_cut text (suc n) utf8 within each = subst (IsCharBoundary text) (add-one n) (IsCharBoundary-after_ascii text n utf8 (omega arith) (each n (omega arith)))

white_ascii : (b : ℕ) → is_white b ≡ true → b < 128
white_ascii b is = grind (arith, nat_tests)

name_ascii : (b : ℕ) → is_name_byte b ≡ true → b < 128
name_ascii b is = grind (arith, nat_tests)

start_ascii : (b : ℕ) → is_name_start b ≡ true → b < 128
start_ascii b is = grind (arith, nat_tests)

pub white_cut : (text : List ℕ) → IsUtf8 text → IsCharBoundary text (white_len text)
white_cut text utf8 = ascii_cut text (white_len text) utf8 (prefix_len-le-length is_white text) (λ i lt. white_ascii _ (prefix_len_passes is_white text i 0 lt))

pub name_len_within : (text : List ℕ) → name_len text ≤ length text
name_len_within [] = omega arith
name_len_within (b ∷ bytes) = go (is_name_start b)
  where
    go : (start : Bool) → cond start (1 + prefix_len is_name_byte bytes) 0 ≤ suc (length bytes)
    go true = omega (arith, prefix_len-le-length is_name_byte bytes)
    go false = omega arith

name_byte_ascii : (text : List ℕ) (i : ℕ) → i < name_len text → get_or text i 0 < 128
name_byte_ascii [] i lt = absurd (omega arith)
name_byte_ascii (b ∷ bytes) i lt = go (is_name_start b) refl i lt
  where
    go : (start : Bool) → is_name_start b ≡ start → (i : ℕ) → i < cond start (1 + prefix_len is_name_byte bytes) 0 → get_or (b ∷ bytes) i 0 < 128
    go true is zero lt = start_ascii b is
    go true is (suc i) lt = name_ascii _ (prefix_len_passes is_name_byte bytes i 0 (omega arith))
    go false is i lt = absurd (omega arith)

pub name_cut : (text : List ℕ) → IsUtf8 text → IsCharBoundary text (name_len text)
name_cut text utf8 = ascii_cut text (name_len text) utf8 (name_len_within text) (λ i lt. name_byte_ascii text i lt)
