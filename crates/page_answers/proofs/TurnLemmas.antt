-- Turns one after the other.
use Rattle.std.proofs.Common.{◌≡◌, ℕ, ◌+◌, Bool, true, false, List, [], ◌∷◌, ◌++◌, refl, arith}
use Rattle.std.proofs.lemmas.Grind.{flat_map-append}
use Rattle.std.proofs.lemmas.List.{map-append}
use Rattle.std.specs.List.{list_all}
use Rattle.std.specs.Prelude.{◌&&◌}
use Rattle.page_answers.specs.Turns.{Turn, all_bytes, all_calls, answer_of, answers_of, are_whole_but_last, calls_of, is_whole, step_of, steps_of}
use Rattle.source_tree.specs.declared.file.File.{File}

pub calls_join : (request : ℕ) (turns more : List Turn) → all_calls request (turns ++ more) ≡ all_calls request turns ++ all_calls request more
calls_join request turns more = flat_map-append (calls_of request) turns more

pub answers_join : (seed : List ℕ) (turns more : List Turn) → answers_of seed (turns ++ more) ≡ answers_of seed turns ++ answers_of seed more
answers_join seed turns more = flat_map-append (answer_of seed) turns more

pub steps_join : (turns more : List Turn) → steps_of (turns ++ more) ≡ steps_of turns ++ steps_of more
steps_join turns more = map-append step_of turns more

pub bytes_join : (tree : List File) (turns more : List Turn) → all_bytes tree (turns ++ more) ≡ all_bytes tree turns + all_bytes tree more
bytes_join tree [] more = omega arith
bytes_join tree (turn ∷ turns) more = let rest = bytes_join tree turns more in omega (arith, rest)

both_whole : (b : Bool) (rest all : Bool) → (rest ≡ true → all ≡ true) → (b && rest) ≡ true → (b && all) ≡ true
both_whole true rest all goes h = goes h
both_whole false rest all goes h = absurd (cc)

-- where all were done whole, all but the last were
pub whole_but_last : (turns : List Turn) → list_all is_whole turns ≡ true → are_whole_but_last turns ≡ true
whole_but_last [] whole = refl
whole_but_last (turn ∷ []) whole = refl
whole_but_last (turn ∷ next ∷ turns) whole =
    both_whole (is_whole turn) (list_all is_whole (next ∷ turns)) (are_whole_but_last (next ∷ turns)) (λ h. whole_but_last (next ∷ turns) h) whole

-- behind turns that were done whole
pub but_last_join : (turns more : List Turn) → list_all is_whole turns ≡ true → are_whole_but_last more ≡ true → are_whole_but_last (turns ++ more) ≡ true
but_last_join [] more first second = second
but_last_join (turn ∷ []) [] first second = refl
but_last_join (turn ∷ []) (next ∷ more) first second = both_whole (is_whole turn) true (are_whole_but_last (next ∷ more)) (λ h. second) first
but_last_join (turn ∷ next ∷ turns) more first second =
    both_whole (is_whole turn) (list_all is_whole (next ∷ turns)) (are_whole_but_last ((next ∷ turns) ++ more)) (λ h. but_last_join (next ∷ turns) more h second) first

pub whole_join : (turns more : List Turn) → list_all is_whole turns ≡ true → list_all is_whole more ≡ true → list_all is_whole (turns ++ more) ≡ true
whole_join [] more first second = second
whole_join (turn ∷ turns) more first second = both_whole (is_whole turn) (list_all is_whole turns) (list_all is_whole (turns ++ more)) (λ h. whole_join turns more h second) first
