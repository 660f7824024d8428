-- Whether a word tells names.
use Rattle.std.proofs.Common.{◌≡◌, ℕ, Bool, true, false, ◌&&◌, List, length, nat_le, Some, None, is_some, if◌then◌else◌, refl, ap, ◌∙◌, arith}
use Rattle.std.proofs.lemmas.Bool.{le-leb}
use Rattle.std.proofs.lemmas.List.Splits.{length-slice_split}
use Rattle.std.specs.List.{list_all, slice_split}
use Rattle.context_names.specs.Names.{are_distinct, is_comma, is_name, names_in}
use Rattle.context_names.specs.declared.limits.TheConstants.{MAX_CONTEXTS}

some_where : {A : Type 0} (b : Bool) (x : A) → is_some (if b then Some x else None) ≡ b
some_where true x = refl
some_where false x = refl

-- commas part one word at least
pub some_word : (word : List ℕ) → nat_le 1 (length (slice_split is_comma word)) ≡ true
some_word word = le-leb _ _ (omega (arith, length-slice_split is_comma word))

-- a word tells names where they are few, can be names, and differ
pub names_seen : (word : List ℕ) → is_some (names_in word) ≡ (nat_le (length (slice_split is_comma word)) MAX_CONTEXTS && (list_all is_name (slice_split is_comma word) && are_distinct (slice_split is_comma word)))
names_seen word = some_where _ (slice_split is_comma word) ∙ ap (λ some. some && (nat_le (length (slice_split is_comma word)) MAX_CONTEXTS && (list_all is_name (slice_split is_comma word) && are_distinct (slice_split is_comma word)))) (some_word word)
