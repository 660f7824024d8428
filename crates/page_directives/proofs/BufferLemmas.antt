-- The digits at the front of a text.
use Rattle.std.proofs.Common.{◌≡◌, ℕ, Bool, true, false, cond, List, [], ◌∷◌, refl, take, ◌&&◌, ◌+◌, one-add}
use Rattle.std.specs.Char.{is_ascii_digit}
use Rattle.std.specs.List.{prefix_len}
use Rattle.std.specs.Str.{all_ascii_digits}

both_true : (a b : Bool) → a ≡ true → b ≡ true → (a && b) ≡ true
both_true true b e g = g
both_true false b e g = e

pub digits_front : (text : List ℕ) → all_ascii_digits (take (prefix_len is_ascii_digit text) text) ≡ true
digits_front [] = refl
digits_front (b ∷ text) = go (is_ascii_digit b) refl (digits_front text)
  where
    go : (is : Bool) → is_ascii_digit b ≡ is → all_ascii_digits (take (prefix_len is_ascii_digit text) text) ≡ true → all_ascii_digits (take (cond is (1 + prefix_len is_ascii_digit text) 0) (b ∷ text)) ≡ true
    go false e more = refl
    go true e more = rw one-add (both_true (is_ascii_digit b) (all_ascii_digits (take (prefix_len is_ascii_digit text) text)) e more)
