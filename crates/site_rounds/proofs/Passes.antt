-- The passes of a shared site at the beginning of a round and at its end.
use Rattle.std.proofs.Common.{◌≡◌, ℕ, ◌+◌, ◌<◌, List, [], ◌∷◌, ◌++◌, None, get_or, map, All, refl, sym, ap, subst, take, drop, take-append-drop, ◌∙◌, arith}
use Rattle.std.proofs.lemmas.List.{map-append}
use Rattle.std.specs.List.{range_with_len}
use Rattle.std.specs.Prelude.{Contains}
use Rattle.std.proofs.lemmas.List.FromFn.{length-range_with_len, get_or-range_with_len}
use Rattle.site_words.specs.declared.words.Entry.{Entry}
use Rattle.site_words.specs.declared.words.Opening.{Opening}
use Rattle.turn_table.specs.Passes.{AreAll, IsPassOf, Known, Origin, newcomer, newcomers}
use Rattle.pass_course.specs.Course.{IsIdle}
use Rattle.site_words.specs.Law.{own, run_of}
use Rattle.site_rounds.specs.Ready.{IsReady, numbers_of}

same_numbers : (turns : Origin Opening) (history : List Entry) (numbers : List ℕ) → numbers_of (map (newcomer turns history) numbers) ≡ numbers
same_numbers turns history [] = refl
same_numbers turns history (n ∷ numbers) = ap (λ l. n ∷ l) (same_numbers turns history numbers)

-- at the beginning there is a pass for each number
pub newcomer_numbers : (turns : Origin Opening) (history : List Entry) → numbers_of (newcomers turns history) ≡ range_with_len 0 turns.passes
newcomer_numbers turns history = same_numbers turns history (range_with_len 0 turns.passes)

-- each of them is ready
pub are_ready : (turns : Origin Opening) (x : Opening) (passes : List (Known Opening Entry)) → turns.opening ≡ x → All (IsPassOf turns) passes → All (λ (pass : Known Opening Entry). IsIdle x pass.number pass.seen) passes → All (IsReady turns) passes
are_ready turns x passes same from idle k d low = (from k d low, subst (λ (y : Opening). IsIdle y (get_or passes k d).number (get_or passes k d).seen) (sym same) (idle k d low))

number_there : (n number : ℕ) → number < n → Contains (range_with_len 0 n) number
number_there n number low =
    let at : get_or (range_with_len 0 n) number number ≡ 0 + number = get_or-range_with_len 0 n number number low in
    (number, subst (λ m. number < m) (sym (length-range_with_len 0 n)) low, omega (arith, at))

-- those that are ready, with a number for each, are all
pub are_all : (turns : Origin Opening) (passes : List (Known Opening Entry)) → All (IsReady turns) passes → numbers_of passes ≡ range_with_len 0 turns.passes → AreAll turns passes
are_all turns passes ready numbers = record {
  from = λ k d low. (ready k d low).0;
  each = λ number low. subst (λ l. Contains l number) (sym numbers) (number_there turns.passes number low);
}

-- none of them has a request under way
pub are_free : (turns : Origin Opening) (passes : List (Known Opening Entry)) → All (IsReady turns) passes → All (λ (pass : Known Opening Entry). run_of (own pass.number pass.seen) ≡ None) passes
are_free turns passes ready k d low = (ready k d low).1.1

-- a pass that is idle on one site is so on the same, however it is named
pub at_home : (turns home named : Origin Opening) (number : ℕ) (seen : List Entry) → named ≡ turns → home ≡ turns → IsIdle turns.opening number seen → (home ≡ named) × IsIdle home.opening number seen
at_home turns home named number seen naming same idle = (same ∙ sym naming, subst (λ (t : Origin Opening). IsIdle t.opening number seen) (sym same) idle)

pub from_home : (turns home named : Origin Opening) (number : ℕ) (seen : List Entry) → named ≡ turns → (home ≡ named) × IsIdle home.opening number seen → (home ≡ turns) × IsIdle turns.opening number seen
from_home turns home named number seen naming is =
    let same : home ≡ turns = is.0 ∙ naming in
    (same, subst (λ (t : Origin Opening). IsIdle t.opening number seen) same is.1)

numbers_through : {W : Type 0} (pass : W → Known Opening Entry) (workers : List W) → numbers_of (map pass workers) ≡ map (λ w. (pass w).number) workers
numbers_through pass [] = refl
numbers_through pass (w ∷ workers) = ap (λ l. (pass w).number ∷ l) (numbers_through pass workers)

-- workers that keep their numbers give passes of the same numbers
pub kept_numbers : {W : Type 0} (pass : W → Known Opening Entry) (before after : List W) (old new : List (Known Opening Entry)) → map pass before ≡ old → map (λ w. (pass w).number) after ≡ map (λ w. (pass w).number) before → new ≡ map pass after → numbers_of new ≡ numbers_of old
kept_numbers pass before after old new from kept made = ap numbers_of made ∙ numbers_through pass after ∙ kept ∙ sym (numbers_through pass before) ∙ ap numbers_of from

-- both parts keep their numbers, and so does the whole
pub joined : (a b front back all : List (Known Opening Entry)) → numbers_of a ≡ numbers_of front → numbers_of b ≡ numbers_of back → front ++ back ≡ all → numbers_of (a ++ b) ≡ numbers_of all
joined a b front back all first second whole =
    map-append (λ (pass : Known Opening Entry). pass.number) a b ∙ ap (λ l. l ++ numbers_of b) first ∙ ap (λ l. numbers_of front ++ l) second ∙ sym (map-append (λ (pass : Known Opening Entry). pass.number) front back) ∙ ap numbers_of whole

-- and so does a list that is gathered from three parts
pub gathered : (a b c front middle back all start one two three : List (Known Opening Entry)) → start ≡ [] → one ≡ start ++ a → two ≡ one ++ b → three ≡ two ++ c → numbers_of a ≡ numbers_of front → numbers_of b ≡ numbers_of middle → numbers_of c ≡ numbers_of back → (front ++ middle) ++ back ≡ all → numbers_of three ≡ numbers_of all
gathered a b c front middle back all start one two three none from_start from_one from_two first second third whole =
    let begun : numbers_of one ≡ numbers_of front = ap numbers_of (from_start ∙ ap (λ l. l ++ a) none) ∙ first in
    let gone_on : numbers_of two ≡ numbers_of (front ++ middle) = ap numbers_of from_one ∙ joined one b front middle (front ++ middle) begun second refl in
    ap numbers_of from_two ∙ joined two c (front ++ middle) back all gone_on third whole

-- a list that was cut twice
pub cut_twice : {X : Type 0} (front middle kept back all : List X) (n m : ℕ) → front ≡ take n kept → middle ≡ drop n kept → kept ≡ take m all → back ≡ drop m all → (front ++ middle) ++ back ≡ all
cut_twice front middle kept back all n m f r k b =
    let low : front ++ middle ≡ kept = rw (f, r) (take-append-drop n kept) in
    ap (λ l. l ++ back) low ∙ rw (k, b) (take-append-drop m all)
