-- Lists that are compared item by item.
use Rattle.std.proofs.Common.{◌≡◌, ℕ, zero, suc, List, [], ◌∷◌, take, Some, ap, ◌∙◌}
use Rattle.std.specs.Prelude.{slice_get}

-- one more of the first items is the same
pub same_get : {A : Type 0} (xs ys : List A) (k : ℕ) (a b : A) → Some a ≡ slice_get xs k → Some b ≡ slice_get ys k → a ≡ b → take k xs ≡ take k ys → take (suc k) xs ≡ take (suc k) ys
same_get [] ys k a b here there same first = absurd (cc)
same_get (x ∷ xs) [] k a b here there same first = absurd (cc)
same_get (x ∷ xs) (y ∷ ys) zero a b here there same first = let head : x ≡ y = cc in ap (λ z. z ∷ []) head
same_get (x ∷ xs) (y ∷ ys) (suc k) a b here there same first =
    let head : x ≡ y = cc in
    let tail : take k xs ≡ take k ys = cc in
    ap (λ z. z ∷ take (suc k) xs) head ∙ ap (λ zs. y ∷ zs) (same_get xs ys k a b here there same tail)
