-- Filters and searches of lists whose elements all pass a test or all fail it, and lists in which each element stands to all later ones.
use Rattle.std.proofs.Common.{◌≡◌, Bool, true, false, List, [], ◌∷◌, ◌++◌, Option, Some, None, suc, refl, inl, inr, arith}
use Rattle.std.specs.List.{All, AllPairs, filter, find}
use Rattle.std.specs.Option.{option_or}
use Rattle.std.proofs.lemmas.Bool.{cases_Bool}
use Rattle.std.proofs.lemmas.List.Elements.{All-head, All-tail, All-append}
use Rattle.std.proofs.lemmas.List.Kept.{AllPairs-cons}

pub option_or_none : {X : Type 0} (x : Option X) → option_or x None ≡ x
option_or_none None = refl
option_or_none (Some x) = refl

module _ {X : Type 0} (p : X → Bool) where
  pub filter_all : (xs : List X) → All (λ x. p x ≡ true) xs → filter p xs ≡ xs
  filter_all [] all = refl
  filter_all (x ∷ xs) all = rw (All-head (λ x. p x ≡ true) x xs all, filter_all xs (All-tail (λ x. p x ≡ true) x xs all)) refl

  pub filter_none : (xs : List X) → All (λ x. p x ≡ false) xs → filter p xs ≡ []
  filter_none [] all = refl
  filter_none (x ∷ xs) all = rw (All-head (λ x. p x ≡ false) x xs all) (filter_none xs (All-tail (λ x. p x ≡ false) x xs all))

  pub find_none : (xs : List X) → All (λ x. p x ≡ false) xs → find p xs ≡ None
  find_none [] all = refl
  find_none (x ∷ xs) all = rw (All-head (λ x. p x ≡ false) x xs all) (find_none xs (All-tail (λ x. p x ≡ false) x xs all))

module _ {X : Type 0} (R : X → X → Type 0) where
  -- lists in order, one all before the other
  pub AllPairs-append : (xs ys : List X) → AllPairs R xs → AllPairs R ys → All (λ x. All (R x) ys) xs → AllPairs R (xs ++ ys)
  AllPairs-append [] ys front back cross = back
  AllPairs-append (x ∷ xs) ys front back cross =
      AllPairs-cons R x (xs ++ ys)
      (All-append (R x) xs ys (λ k d within. front 0 (suc k) d (omega arith) (omega arith)) (All-head (λ x. All (R x) ys) x xs cross))
      (AllPairs-append xs ys (λ i j d before within. front (suc i) (suc j) d (omega arith) (omega arith)) back (All-tail (λ x. All (R x) ys) x xs cross))

module _ {X : Type 0} (p q : X → Bool) where
  -- a filter that keeps all that pass p keeps the first that does
  pub find_filter : ((x : X) → p x ≡ true → q x ≡ true) → (xs : List X) → find p (filter q xs) ≡ find p xs
  find_filter kept [] = refl
  find_filter kept (x ∷ xs) = elim (cases_Bool (p x)) [
    | inl passes ↦ rw (kept x passes, passes) refl
    | inr fails ↦ elim (cases_Bool (q x)) [
      | inl stays ↦ rw (stays, fails) (find_filter kept xs)
      | inr goes ↦ rw (goes, fails) (find_filter kept xs)
    ]
  ]

  -- one that keeps none of them leaves none to find
  pub find_filter_none : ((x : X) → p x ≡ true → q x ≡ false) → (xs : List X) → find p (filter q xs) ≡ None
  find_filter_none dropped [] = refl
  find_filter_none dropped (x ∷ xs) = elim (cases_Bool (p x)) [
    | inl passes ↦ rw (dropped x passes) (find_filter_none dropped xs)
    | inr fails ↦ elim (cases_Bool (q x)) [
      | inl stays ↦ rw (stays, fails) (find_filter_none dropped xs)
      | inr goes ↦ rw goes (find_filter_none dropped xs)
    ]
  ]
