-- Items that are taken out path by path.
use Rattle.std.proofs.Common.{◌≡◌, ◌<◌, ◌≤◌, ℕ, zero, suc, ◌+◌, Bool, true, false, not, List, [], ◌∷◌, ◌++◌, length, get_or, filter, take, refl, sym, ap, ◌∙◌, if◌then◌else◌, arith}
use Rattle.std.specs.Prelude.{◌&&◌, ◌||◌}
use Rattle.std.specs.Str.{bytes_eq}
use Rattle.std.proofs.lemmas.List.{take_more}
use Rattle.std.proofs.lemmas.List.Folds.{list_any-append}
use Rattle.pg_text.specs.Names.{has_name}
use Rattle.pg_text.specs.Order.{without_item}

module _ {A : Type 0} where
  -- a filter behind another
  pub both : (p q r : A → Bool) → ((x : A) → (p x && q x) ≡ r x) → (xs : List A) → filter q (filter p xs) ≡ filter r xs
  both p q r each [] = refl
  both p q r each (x ∷ xs) = go (p x) (q x) refl (both p q r each xs) ∙ ap (λ b. if b then x ∷ filter r xs else filter r xs) (each x)
    where
      go : (a b : Bool) → q x ≡ b → filter q (filter p xs) ≡ filter r xs → filter q (if a then x ∷ filter p xs else filter p xs) ≡ (if (a && b) then x ∷ filter r xs else filter r xs)
      go true b is more = ap (λ c. if c then x ∷ filter q (filter p xs) else filter q (filter p xs)) is ∙ ap (λ l. if b then x ∷ l else l) more
      go false b is more = more

  -- past the end all were taken
  pub all_taken : (xs : List A) (i : ℕ) → length xs ≤ i → take i xs ≡ xs
  all_taken [] zero past = refl
  all_taken [] (suc i) past = refl
  all_taken (x ∷ xs) zero past = absurd (omega arith)
  all_taken (x ∷ xs) (suc i) past = ap (λ l. x ∷ l) (all_taken xs i (omega arith))

neither : (a b : Bool) → (not a && not b) ≡ not (a || (b || false))
neither true b = refl
neither false true = refl
neither false false = refl

module _ {A : Type 0} (path_of : A → List ℕ) where
  -- the items with other paths than these
  abbrev pub others : List (List ℕ) → List A → List A
  others paths items = filter (λ item. not (has_name (path_of item) paths)) items

  -- where no path is taken out all is left
  pub none_taken : (items : List A) → items ≡ others [] items
  none_taken [] = refl
  none_taken (item ∷ items) = ap (λ l. item ∷ l) (none_taken items)

  -- one path more
  pub taken_more : (paths : List (List ℕ)) (i : ℕ) (path : List ℕ) (items now next : List A) → i < length paths → path ≡ get_or paths i path
      → now ≡ others (take i paths) items → next ≡ without_item path_of path now → next ≡ others (take (i + 1) paths) items
  taken_more paths i path items now next within read sofar is =
      is ∙ ap (without_item path_of path) sofar
      ∙ both (λ item. not (has_name (path_of item) (take i paths))) (λ item. not (bytes_eq (path_of item) path)) (λ item. not (has_name (path_of item) (take i paths ++ path ∷ [])))
      (λ item. neither (has_name (path_of item) (take i paths)) (bytes_eq (path_of item) path) ∙ ap not (sym (list_any-append (bytes_eq (path_of item)) (take i paths) (path ∷ [])))) items
      ∙ sym (ap (λ l. others l items) (take_more paths i path within ∙ ap (λ p. take i paths ++ p ∷ []) (sym read)))
