-- What is at a place of a list, behind a change of one of its items.
use Rattle.std.proofs.Common.{◌≡◌, ℕ, zero, suc, List, [], ◌∷◌, Some, refl, ap}
use Rattle.std.specs.Prelude.{set}
use Rattle.std.specs.List.{slice_get}

pub same_some : {X : Type 0} (x y : X) → Some x ≡ Some y → x ≡ y
same_some x y is = cc

pub get_set : {X : Type 0} (xs : List X) (i : ℕ) (x y : X) → slice_get xs i ≡ Some y → slice_get (set xs i x) i ≡ Some x
get_set [] i x y is = absurd (cc)
get_set (z ∷ xs) zero x y is = refl
get_set (z ∷ xs) (suc i) x y is = get_set xs i x y is

pub get_set_other : {X : Type 0} (xs : List X) (i j : ℕ) (x : X) → (i ≡ j → ⊥) → slice_get (set xs i x) j ≡ slice_get xs j
get_set_other [] i j x other = refl
get_set_other (z ∷ xs) zero zero x other = absurd (other refl)
get_set_other (z ∷ xs) zero (suc j) x other = refl
get_set_other (z ∷ xs) (suc i) zero x other = refl
get_set_other (z ∷ xs) (suc i) (suc j) x other = get_set_other xs i j x (λ same. other (ap suc same))
