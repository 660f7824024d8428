-- What each of several has, where one of them changes.
use Rattle.std.proofs.Common.{◌≡◌, ℕ, zero, suc, List, [], ◌∷◌, Some, refl, ap}
use Rattle.std.specs.Prelude.{set}
use Rattle.std.specs.List.{slice_get}
use Rattle.context_desk.specs.Each.{each}

module _ {X Y Z : Type 0} (f : X → Y → Z) where
  pub get_each : (xs : List X) (ys : List Y) (i : ℕ) (x : X) (y : Y) → slice_get xs i ≡ Some x → slice_get ys i ≡ Some y → slice_get (each f xs ys) i ≡ Some (f x y)
  get_each [] ys i x y at there = absurd (cc)
  get_each (z ∷ xs) [] i x y at there = absurd (cc)
  get_each (z ∷ xs) (w ∷ ys) zero x y at there = let e : z ≡ x = cc in let g : w ≡ y = cc in rw (e, g) refl
  get_each (z ∷ xs) (w ∷ ys) (suc i) x y at there = get_each xs ys i x y at there

  pub set_each : (xs : List X) (ys : List Y) (i : ℕ) (x : X) (y : Y) → each f (set xs i x) (set ys i y) ≡ set (each f xs ys) i (f x y)
  set_each [] ys i x y = refl
  set_each (z ∷ xs) [] zero x y = refl
  set_each (z ∷ xs) [] (suc i) x y = refl
  set_each (z ∷ xs) (w ∷ ys) zero x y = refl
  set_each (z ∷ xs) (w ∷ ys) (suc i) x y = ap (λ zs. f z w ∷ zs) (set_each xs ys i x y)

-- where the one that is put there is what stands there, all stay as they were
pub set_same : {Z : Type 0} (zs : List Z) (i : ℕ) (z : Z) → slice_get zs i ≡ Some z → set zs i z ≡ zs
set_same [] i z is = refl
set_same (w ∷ zs) zero z is = let e : w ≡ z = cc in rw e refl
set_same (w ∷ zs) (suc i) z is = ap (λ rest. w ∷ rest) (set_same zs i z is)
