-- The places of a mark in a text, one after the other.
use Rattle.std.proofs.Common.{◌≡◌, ◌<◌, ℕ, ◌+◌, List, ◌∷◌, length, drop, get_or, nat_eq, sym, ap, ◌∙◌, arith, drop-cons, add-one}
use Rattle.std.specs.List.{starts_with}
use Rattle.std.specs.Prelude.{if◌then◌else◌}
use Rattle.pages_load.specs.Load.{places}

-- one place further
pub next_place : (mark text : List ℕ) (at count here : ℕ) → at < length text → here ≡ (if starts_with nat_eq (drop at text) mark then 1 else 0) → places mark text ≡ count + places mark (drop at text)
    → places mark text ≡ (count + here) + places mark (drop (at + 1) text)
next_place mark text at count here within is so_far =
    let front : drop at text ≡ get_or text at 0 ∷ drop (at + 1) text = drop-cons text at 0 within ∙ ap (λ n. get_or text at 0 ∷ drop n text) (sym (add-one at)) in
    let step : places mark (drop at text) ≡ here + places mark (drop (at + 1) text) =
    ap (places mark) front ∙ (ap (λ t. (if starts_with nat_eq t mark then 1 else 0) + places mark (drop (at + 1) text)) (sym front) ∙ ap (λ n. n + places mark (drop (at + 1) text)) (sym is)) in
    omega (arith, so_far, step)
