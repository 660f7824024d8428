-- Where a line ends.
use Rattle.std.proofs.Common.{◌≡◌, ◌≢◌, ℕ, ◌+◌, ◌<◌, List, [], ◌∷◌, ◌++◌, length, get_or, take, drop, Some, None, All, sym, refl, ap, ◌∙◌, subst, arith, take-append-drop}
use Rattle.std.proofs.lemmas.Bool.{cond-false, ne_eqb}
use Rattle.std.proofs.lemmas.List.{drop_more, get_or-take, length-take-le}
use Rattle.std.proofs.lemmas.List.Elements.{All-head, All-tail, All-from_get_or}
use Rattle.connection_list.specs.List.{longer_line, first_line}

-- the byte is no line feed
abbrev pub IsOther : ℕ → Type 0
IsOther b = b ≢ 10

pub line_none : (xs : List ℕ) → All IsOther xs → first_line xs ≡ None
line_none [] none = refl
line_none (x ∷ xs) none = cond-false _ _ _ (ne_eqb x 10 (All-head IsOther x xs none)) ∙ ap (longer_line x) (line_none xs (All-tail IsOther x xs none))

pub line_at : (xs ys : List ℕ) → All IsOther xs → first_line (xs ++ 10 ∷ ys) ≡ Some (xs, ys)
line_at [] ys none = refl
line_at (x ∷ xs) ys none = cond-false _ _ _ (ne_eqb x 10 (All-head IsOther x xs none)) ∙ ap (longer_line x) (line_at xs ys (All-tail IsOther x xs none))

pub line_at_first : (xs : List ℕ) (i : ℕ) → i < length xs → get_or xs i 0 ≡ 10 → ((k : ℕ) → k < i → get_or xs k 0 ≢ 10) → first_line xs ≡ Some (take i xs, drop (i + 1) xs)
line_at_first xs i inside here before =
    let around : xs ≡ take i xs ++ 10 ∷ drop (i + 1) xs = sym (take-append-drop i xs) ∙ ap (λ l. take i xs ++ l) (drop_more xs i 0 inside ∙ ap (λ b. b ∷ drop (i + 1) xs) here) in
    let others : All IsOther (take i xs) = All-from_get_or IsOther (take i xs) 0 (λ k low. let below : k < i = omega (arith, length-take-le i xs (omega arith)) in subst IsOther (sym (get_or-take i xs k 0 below)) (before k below)) in
    ap first_line around ∙ line_at (take i xs) (drop (i + 1) xs) others
