-- Kept bodies, of which the last of a list is the innermost.
use Rattle.std.proofs.Common.{◌≡◌, ◌-◌, ℕ, List, ◌++◌, length, take, drop, reverse, sym, ap, ◌∙◌}
use Rattle.std.proofs.lemmas.List.{reverse-append, take-append-drop, drop_at, length-drop, length-reverse}
use Rattle.out_buffer.specs.Writer.{last_of}

-- the first of a list are the last of it turned round
pub reverse-take : {A : Type 0} (n : ℕ) (items : List A) → reverse (take n items) ≡ last_of n (reverse items)
reverse-take {A = A} n items =
    let parts : reverse items ≡ reverse (drop n items) ++ reverse (take n items) = ap reverse (sym (take-append-drop n items)) ∙ reverse-append (take n items) (drop n items) in
    let gone : length (reverse items) - n ≡ length (drop n items) = ap (λ k. k - n) (length-reverse items) ∙ sym (length-drop n items) in
    sym (ap (λ (all : List A). drop (length (reverse items) - n) all) parts
    ∙ drop_at (reverse (drop n items)) (reverse (take n items)) (length (reverse items) - n) (length-reverse (drop n items) ∙ sym gone))
