-- The faults of a list are those of its parts.
use Rattle.std.proofs.Common.{◌≡◌, ℕ, ◌+◌, ◌<◌, List, [], ◌∷◌, ◌++◌, sym, ap, ◌∙◌, length, take, get_or}
use Rattle.std.proofs.lemmas.List.{take_more}
use Rattle.pg_text.specs.declared.translation_fault.TranslationFault.{TranslationFault}

-- one item more
pub one_more : {A : Type 0} (h : List A → List TranslationFault) → ((xs ys : List A) → h (xs ++ ys) ≡ h xs ++ h ys) → (xs : List A) (i : ℕ) (x : A) → i < length xs → x ≡ get_or xs i x
    → h (take i xs) ++ h (x ∷ []) ≡ h (take (i + 1) xs)
one_more h split xs i x within is = sym (split (take i xs) (x ∷ [])) ∙ ap h (ap (λ y. take i xs ++ y ∷ []) is ∙ sym (take_more xs i x within))
