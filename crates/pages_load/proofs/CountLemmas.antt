-- Such entries of a history, counted one place after the other.
use Rattle.std.proofs.Common.{◌≡◌, ◌+◌, ◌<◌, ℕ, zero, suc, Bool, true, false, List, [], ◌∷◌, drop, length, refl, sym, ap, ◌∙◌, arith, add-one, cond}
use Rattle.std.specs.List.{slice_get}
use Rattle.site_words.specs.declared.words.Entry.{Entry}
use Rattle.pages_load.specs.Load.{count, one_if}

-- from one place on, and from the next
from_here : (is : Entry → Bool) (history : List Entry) (place : ℕ) → place < length history
    → count is (drop place history) ≡ one_if is (slice_get history place) + count is (drop (suc place) history)
from_here is [] place within = absurd (omega (arith, within))
from_here is (e ∷ rest) zero within = by_case (is e) refl
  where
    by_case : (test : Bool) → is e ≡ test → count is (e ∷ rest) ≡ (cond test 1 0) + count is rest
    by_case true h = rw h (omega arith)
    by_case false h = rw h (omega arith)
from_here is (e ∷ rest) (suc place) within = from_here is rest place (omega (arith, within))

pub next_entry : (is : Entry → Bool) (history : List Entry) (place so_far here : ℕ) → place < length history → here ≡ one_if is (slice_get history place)
    → count is history ≡ so_far + count is (drop place history) → count is history ≡ (so_far + here) + count is (drop (place + 1) history)
next_entry is history place so_far here within found counted =
    let step : count is (drop place history) ≡ one_if is (slice_get history place) + count is (drop (place + 1) history) =
    from_here is history place within ∙ ap (λ n. one_if is (slice_get history place) + count is (drop n history)) (sym (add-one place)) in
    omega (arith, step, found, counted)
