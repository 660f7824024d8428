-- One site more, with its passes.
use Rattle.std.proofs.Common.{◌≡◌, ℕ, zero, suc, List, [], ◌∷◌, ◌++◌, All, Some, get_or, length, arith, refl, subst, ◌+◌}
use Rattle.std.proofs.lemmas.List.{length-append}
use Rattle.std.specs.List.{slice_get}
use Rattle.context_workers.specs.Seats.{AreSeated}

same_some : {X : Type 0} (x y : X) → Some x ≡ Some y → x ≡ y
same_some x y is = cc

seated_at : {S X : Type 0} (Fits : S → X → Type 0) (sites : List S) (passes : List (List X)) (site : S) (own : List X) → AreSeated Fits sites passes → All (Fits site) own → (k : ℕ) (x : S) → slice_get (sites ++ site ∷ []) k ≡ Some x → All (Fits x) (get_or (passes ++ own ∷ []) k [])
seated_at Fits [] [] site own seated all zero x is = subst (λ s. All (Fits s) own) (same_some site x is) all
seated_at Fits [] [] site own seated all (suc k) x is = absurd (cc)
seated_at Fits [] (p ∷ ps) site own seated all k x is = absurd (omega (arith, seated.as_many))
seated_at Fits (s ∷ ss) [] site own seated all k x is = absurd (omega (arith, seated.as_many))
seated_at Fits (s ∷ ss) (p ∷ ps) site own seated all zero x is = seated.fit zero x is
seated_at Fits (s ∷ ss) (p ∷ ps) site own seated all (suc k) x is =
    seated_at Fits ss ps site own (record { as_many = omega (arith, seated.as_many); fit = λ j. seated.fit (suc j) }) all k x is

pub none_seated : {S X : Type 0} (Fits : S → X → Type 0) → AreSeated Fits [] []
none_seated Fits = record { as_many = refl; fit = λ k site is. absurd (cc) }

pub seated_more : {S X : Type 0} (Fits : S → X → Type 0) (sites : List S) (passes : List (List X)) (site : S) (own : List X) → AreSeated Fits sites passes → All (Fits site) own → AreSeated Fits (sites ++ site ∷ []) (passes ++ own ∷ [])
seated_more Fits sites passes site own seated all = record {
  as_many =
      let sites_are : length (sites ++ site ∷ []) ≡ length sites + 1 = length-append sites (site ∷ []) in
      let passes_are : length (passes ++ own ∷ []) ≡ length passes + 1 = length-append passes (own ∷ []) in
      omega (arith, seated.as_many);
  fit = seated_at Fits sites passes site own seated all;
}
