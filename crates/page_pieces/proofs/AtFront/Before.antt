-- What stands before the first place at which something is found.
use Rattle.std.proofs.Common.{◌≡◌, ◌≤◌, ◌<◌, ◌+◌, ◌∙◌, suc, true, List, [], ◌∷◌, length, drop, refl, ap, sym, arith, Option, Some, None}
use Rattle.std.specs.Option.{is_some}
use Rattle.page_pieces.specs.Texts.{unless, len_before}

module _ {A M : Type 0} (find_at : List A → Option M) where
  -- nothing stands before what is found at the front
  pub found_here : (xs : List A) → is_some (find_at xs) ≡ true → len_before find_at xs ≡ 0
  found_here [] is = refl
  found_here (x ∷ xs) is = go (find_at (x ∷ xs)) is
    where
      go : (o : Option M) → is_some o ≡ true → unless o (len_before find_at xs) ≡ 0
      go None is = cc
      go (Some found) is = refl

  -- one more, where nothing is found at the front
  pub none_here : (xs more : List A) (x : A) → xs ≡ x ∷ more → find_at xs ≡ None → len_before find_at xs ≡ 1 + len_before find_at more
  none_here xs more x is none = ap (len_before find_at) is ∙ ap (λ o. unless o (len_before find_at more)) (ap find_at (sym is) ∙ none)

  pub some_before : (xs : List A) → find_at xs ≡ None → 0 < length xs → 0 < len_before find_at xs
  some_before [] none some = absurd (omega arith)
  some_before (x ∷ xs) none some = omega (arith, none_here (x ∷ xs) xs x refl none)

  pub before_within : (xs : List A) → len_before find_at xs ≤ length xs
  before_within [] = omega arith
  before_within (x ∷ xs) = go (find_at (x ∷ xs)) (before_within xs)
    where
      go : (o : Option M) → len_before find_at xs ≤ length xs → unless o (len_before find_at xs) ≤ suc (length xs)
      go None le = omega arith
      go (Some found) le = omega arith

  -- where nothing is found behind it, nothing is behind it
  pub none_behind : (xs : List A) → find_at (drop (len_before find_at xs) xs) ≡ None → drop (len_before find_at xs) xs ≡ []
  none_behind [] none = refl
  none_behind (x ∷ xs) none = go (find_at (x ∷ xs)) refl none (none_behind xs)
    where
      go : (o : Option M) → find_at (x ∷ xs) ≡ o → find_at (drop (unless o (len_before find_at xs)) (x ∷ xs)) ≡ None
          → (find_at (drop (len_before find_at xs) xs) ≡ None → drop (len_before find_at xs) xs ≡ []) → drop (unless o (len_before find_at xs)) (x ∷ xs) ≡ []
      go None is none rec =
          let one : 1 + len_before find_at xs ≡ suc (len_before find_at xs) = omega arith in
          ap (λ n. drop n (x ∷ xs)) one ∙ rec (ap (λ n. find_at (drop n (x ∷ xs))) (sym one) ∙ none)
      go (Some found) is none rec = absurd (cc)
