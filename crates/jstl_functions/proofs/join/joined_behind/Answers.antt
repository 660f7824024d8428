use Rattle.std.proofs.Common.{◌≡◌, ◌++◌, ℕ, List, true, flat_map, take, drop, sym, ap, ◌∙◌, append_assoc, string_bytes}
use Rattle.std.proofs.lemmas.Grind.{flat_map-append}
use Rattle.std.proofs.lemmas.List.{take-append-drop}
use Rattle.pg_value.specs.Datum.{text}
use Rattle.pg_value.specs.Limits.{is_over}
use Rattle.jstl_functions.proofs.TooLong.{too_long_already}
use Rattle.jstl_functions.proofs.join.joined_behind.Goals as goal

-- those so far, and those that are left
parted : (f : List ℕ → List ℕ) (first : List ℕ) (others : List (List ℕ)) (i : ℕ) (so_far : List ℕ) → so_far ≡ first ++ flat_map f (take i others) → first ++ flat_map f others ≡ so_far ++ flat_map f (drop i others)
parted f first others i so_far is =
    ap (λ all. first ++ all) (ap (flat_map f) (sym (take-append-drop i others)) ∙ flat_map-append f (take i others) (drop i others))
    ∙ sym (append_assoc first (flat_map f (take i others)) (flat_map f (drop i others)))
    ∙ ap (λ front. front ++ flat_map f (drop i others)) (sym is)

-- the text that is being made is too long already
pub returns-then-is_too_long : goal.returns-then-is_too_long
returns-then-is_too_long c =
    let over : is_over (text (string_bytes c.loop-text.joined)) ≡ true = cc in
    too_long_already _ (string_bytes c.loop-text.joined) _ over (parted (λ t. c.args.between.now ++ t) c.args.first.now c.args.others.now c.loop-text.text-index (string_bytes c.loop-text.joined) c.loop-text.invariant)
