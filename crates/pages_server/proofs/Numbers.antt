-- What is the same of each item of two lists.
use Rattle.std.proofs.Common.{◌≡◌, ℕ, suc, ◌<◌, List, [], ◌∷◌, length, map, refl, arith}
use Rattle.std.specs.List.{AllZip}
use Rattle.std.specs.Prelude.{slice_index_or}

-- two lists of one length have the same numbers where the items at each place do
pub map_same : {A : Type 0} (f : A → ℕ) (xs ys : List A) → length xs ≡ length ys → ((k : ℕ) (d : A) → k < length xs → f (slice_index_or ys k d) ≡ f (slice_index_or xs k d)) → map f ys ≡ map f xs
map_same f [] [] len each = refl
map_same f [] (y ∷ ys) len each = absurd (omega arith)
map_same f (x ∷ xs) [] len each = absurd (omega arith)
map_same f (x ∷ xs) (y ∷ ys) len each =
    let first : f y ≡ f x = each 0 x (omega arith) in
    let rest : map f ys ≡ map f xs = map_same f xs ys (omega arith) (λ k d low. each (suc k) d (omega arith)) in
    rw (first, rest) refl

-- two lists of one length are related item by item where the items at each place are
pub zipped : {A : Type 0} (R : A → A → Type 0) (xs ys : List A) → length xs ≡ length ys → ((k : ℕ) (d : A) → k < length xs → R (slice_index_or xs k d) (slice_index_or ys k d)) → AllZip R xs ys
zipped R [] [] len each = tt
zipped R [] (y ∷ ys) len each = absurd (omega arith)
zipped R (x ∷ xs) [] len each = absurd (omega arith)
zipped R (x ∷ xs) (y ∷ ys) len each = (each 0 x (omega arith), zipped R xs ys (omega arith) (λ k d low. each (suc k) d (omega arith)))
