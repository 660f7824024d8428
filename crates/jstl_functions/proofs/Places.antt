-- Where a part first stands in a text.
use Rattle.std.proofs.Common.{◌≡◌, ℕ, zero, suc, ◌<◌, ◌≤◌, Bool, true, false, nat_eq, List, [], ◌∷◌, ◌++◌, length, drop, take, Option, Some, None, refl, sym, ap, ◌∙◌, arith}
use Rattle.std.specs.Cmp.Lexicographic.{same_text, other_text}
use Rattle.std.specs.List.{starts_with}
use Rattle.std.specs.Option.{MatchOption, option_map}
use Rattle.std.specs.Str.Pattern.{FindsText, LacksTextAt, MatchBeginsAt}
use Rattle.std.proofs.Math.Seq.{take-append_seam}
use Rattle.std.proofs.lemmas.Bool.{cond-true, cond-false}
use Rattle.std.proofs.lemmas.Bool.Decides.{nat_tests}
use Rattle.std.proofs.lemmas.List.{take-append-drop}
use Rattle.jstl_functions.specs.Texts.{place_of_part}

drop_none : (s : List ℕ) → drop 0 s ≡ s
drop_none [] = refl
drop_none (b ∷ s) = refl

-- the part stands at the beginning, or doesn't
pub begins : (part s rest : List ℕ) → s ≡ part ++ rest → starts_with nat_eq s part ≡ true
begins part s rest is = go (starts_with nat_eq s part) refl
  where
    go : (b : Bool) → starts_with nat_eq s part ≡ b → starts_with nat_eq s part ≡ true
    go true test = test
    go false test = absurd (other_text part (take (length part) s) (sym test) (sym (ap (take (length part)) is ∙ take-append_seam part rest)))

pub begins_not : (part s : List ℕ) → LacksTextAt part s 0 → starts_with nat_eq s part ≡ false
begins_not part s lacks = go (starts_with nat_eq s part) refl
  where
    go : (b : Bool) → starts_with nat_eq s part ≡ b → starts_with nat_eq s part ≡ false
    go false test = test
    go true test =
        absurd (lacks (drop (length part) s) (drop_none s ∙ sym (take-append-drop (length part) s) ∙ ap (λ front. front ++ drop (length part) s) (sym (same_text part (take (length part) s) (sym test)))))

-- the first place
pub place_is : (part s : List ℕ) (i : ℕ) (rest : List ℕ) → ((j : ℕ) → j < i → LacksTextAt part s j) → drop i s ≡ part ++ rest → place_of_part part s ≡ Some i
place_is part [] zero rest lacks at = cond-true (nat_eq (length part) 0) _ _ (grind (arith, nat_tests, empty_front part rest at))
  where
    empty_front : (part rest : List ℕ) → [] ≡ part ++ rest → length part ≡ 0
    empty_front [] rest is = refl
    empty_front (p ∷ part) rest is = cc
place_is part [] (suc i) rest lacks at = absurd (lacks 0 (omega arith) rest at)
place_is part (b ∷ s) zero rest lacks at = cond-true (starts_with nat_eq (b ∷ s) part) _ _ (begins part (b ∷ s) rest at)
place_is part (b ∷ s) (suc i) rest lacks at =
    cond-false (starts_with nat_eq (b ∷ s) part) _ _ (begins_not part (b ∷ s) (lacks 0 (omega arith)))
    ∙ ap (option_map suc) (place_is part s i rest (λ j lt. lacks (suc j) (omega arith)) at)

-- none
pub place_none : (part s : List ℕ) → ((i : ℕ) → i ≤ length s → LacksTextAt part s i) → place_of_part part s ≡ None
place_none [] [] lacks = absurd (lacks 0 (omega arith) [] refl)
place_none (p ∷ part) [] lacks = cond-false (nat_eq (length (p ∷ part)) 0) _ _ (grind (arith, nat_tests))
place_none part (b ∷ s) lacks =
    cond-false (starts_with nat_eq (b ∷ s) part) _ _ (begins_not part (b ∷ s) (lacks 0 (omega arith)))
    ∙ ap (option_map suc) (place_none part s (λ i le. lacks (suc i) (omega arith)))

-- what a search answers
pub place_found : (part text : List ℕ) (r : Option ℕ) → MatchOption r (FindsText part text None) (MatchBeginsAt (FindsText part) text) → r ≡ place_of_part part text
place_found part text None lacks = sym (place_none part text lacks)
place_found part text (Some i) (j, found, within, before, behind) = sym (place_is part text i (drop j text) found.0 found.1.split)
