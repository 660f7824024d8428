-- Replacing from left to right, one part after another.
use Rattle.std.proofs.Common.{◌≡◌, ℕ, zero, suc, ◌+◌, ◌-◌, ◌<◌, ◌≤◌, nat_eq, List, [], ◌∷◌, ◌++◌, length, drop, take, None, refl, sym, ap, ◌∙◌, subst, arith, append_assoc, IsUtf8}
use Rattle.std.specs.List.{starts_with}
use Rattle.std.specs.Str.Pattern.{FindsText, LacksTextAt, SplitsAroundMatch}
use Rattle.std.proofs.Math.Seq.{drop-append_seam}
use Rattle.std.proofs.lemmas.Bool.{cond-true, cond-false}
use Rattle.std.proofs.lemmas.Str.{IsUtf8-drop}
use Rattle.jstl_functions.specs.Texts.{replaced_behind}
use Rattle.jstl_functions.proofs.Places.{begins, begins_not}

-- bytes that are passed over are left out
skipped : (old new : List ℕ) (skip : ℕ) (text : List ℕ) → replaced_behind old new skip text ≡ replaced_behind old new 0 (drop skip text)
skipped old new zero [] = refl
skipped old new zero (b ∷ text) = refl
skipped old new (suc skip) [] = refl
skipped old new (suc skip) (b ∷ text) = skipped old new skip text

-- up to the first part, and behind it
replaced_once : (old new : List ℕ) → 0 < length old → (i : ℕ) (text back : List ℕ) → ((j : ℕ) → j < i → LacksTextAt old text j) → drop i text ≡ old ++ back → replaced_behind old new 0 text ≡ take i text ++ (new ++ replaced_behind old new 0 back)
replaced_once [] new some i text back lacks at = absurd (omega arith)
replaced_once (o ∷ old) new some zero [] back lacks at = cc
replaced_once (o ∷ old) new some zero (b ∷ text) back lacks at =
    cond-true (starts_with nat_eq (b ∷ text) (o ∷ old)) _ _ (begins (o ∷ old) (b ∷ text) back at)
    ∙ ap (λ rest. new ++ rest) (skipped (o ∷ old) new (length (o ∷ old) - 1) text ∙ ap (replaced_behind (o ∷ old) new 0) (behind_it text at))
  where
    behind_it : (text : List ℕ) → b ∷ text ≡ (o ∷ old) ++ back → drop (length (o ∷ old) - 1) text ≡ back
    behind_it text at =
        let size : length (o ∷ old) - 1 ≡ length old = omega arith in
        let is : text ≡ old ++ back = cc in
        (λ k. drop (size k) (is k)) ∙ drop-append_seam old back
replaced_once (o ∷ old) new some (suc i) [] back lacks at = cc
replaced_once (o ∷ old) new some (suc i) (b ∷ text) back lacks at =
    cond-false (starts_with nat_eq (b ∷ text) (o ∷ old)) _ _ (begins_not (o ∷ old) (b ∷ text) (lacks 0 (omega arith)))
    ∙ ap (λ rest. b ∷ rest) (replaced_once (o ∷ old) new some i text back (λ j lt. lacks (suc j) (omega arith)) at)

-- where the part is absent
replaced_never : (old new text : List ℕ) → ((i : ℕ) → i ≤ length text → LacksTextAt old text i) → replaced_behind old new 0 text ≡ text
replaced_never old new [] lacks = refl
replaced_never old new (b ∷ text) lacks =
    cond-false (starts_with nat_eq (b ∷ text) old) _ _ (begins_not old (b ∷ text) (lacks 0 (omega arith)))
    ∙ ap (λ rest. b ∷ rest) (replaced_never old new text (λ i le. lacks (suc i) (omega arith)))

-- one part more
pub one_more : (old new whole made front_made all_made rest front back : List ℕ) → 0 < length old → SplitsAroundMatch (FindsText old) rest front back
    → whole ≡ made ++ replaced_behind old new 0 rest → front_made ≡ made ++ front → all_made ≡ front_made ++ new → whole ≡ all_made ++ replaced_behind old new 0 back
one_more old new whole made front_made all_made rest front back some (i, j, found, front_is, back_is, within, front_len, back_len) is front_made_is all_made_is =
    is
    ∙ ap (λ r. made ++ r) (replaced_once old new some i rest back found.0 (found.1.split ∙ ap (λ r. old ++ r) (sym back_is)) ∙ ap (λ f. f ++ (new ++ replaced_behind old new 0 back)) (sym front_is))
    ∙ sym (append_assoc made front (new ++ replaced_behind old new 0 back))
    ∙ sym (append_assoc (made ++ front) new (replaced_behind old new 0 back))
    ∙ ap (λ m. m ++ replaced_behind old new 0 back) (ap (λ f. f ++ new) (sym front_made_is) ∙ sym all_made_is)

-- what is left is shorter
pub shorter : (old rest front back : List ℕ) → 0 < length old → SplitsAroundMatch (FindsText old) rest front back → length back < length rest
shorter old rest front back some (i, j, found, front_is, back_is, within, front_len, back_len) = omega (arith, found.1.ends)

-- no part is left
pub no_more : (old new whole made all_made rest : List ℕ) → FindsText old rest None → whole ≡ made ++ replaced_behind old new 0 rest → all_made ≡ made ++ rest → all_made ≡ whole
no_more old new whole made all_made rest lacks is all_made_is = all_made_is ∙ ap (λ r. made ++ r) (sym (replaced_never old new rest lacks)) ∙ sym is

-- what is left is a text
pub behind_utf8 : (old rest front back : List ℕ) → IsUtf8 rest → SplitsAroundMatch (FindsText old) rest front back → IsUtf8 back
behind_utf8 old rest front back utf8 (i, j, found, front_is, back_is, within, front_len, back_len) =
    subst IsUtf8 (ap (λ k. drop k rest) (sym found.1.ends) ∙ sym back_is) (IsUtf8-drop rest (i + length old) utf8 found.1.after)
