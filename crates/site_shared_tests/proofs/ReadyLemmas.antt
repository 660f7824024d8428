-- Passes at the start, and when all are back.
use Rattle.std.proofs.Common.{◌≡◌, ◌<◌, List, [], None, length, sym, ap, subst, ◌∙◌, zero-add}
use Rattle.std.specs.Prelude.{All}
use Rattle.std.specs.List.{range_with_len}
use Rattle.std.proofs.lemmas.List.{get_or-map, length-map}
use Rattle.std.proofs.lemmas.List.FromFn.{length-range_with_len, get_or-range_with_len}
use Rattle.site_words.specs.declared.words.Entry.{Entry}
use Rattle.site_words.specs.declared.words.Opening.{Opening}
use Rattle.turn_table.specs.Passes.{AreAll, Known, Origin, newcomer, newcomers}
use Rattle.site_shared_tests.specs.Ready.{AreInPlace, IsReady}

-- passes at the start stand at the places of their numbers
pub newcomers_in_place : (turns : Origin Opening) (history : List Entry) (passes : List (Known Opening Entry)) → passes ≡ newcomers turns history → AreInPlace passes
newcomers_in_place turns history passes is =
    subst (λ l. AreInPlace l) (sym is) (λ k other within.
    let inside : k < length (range_with_len 0 turns.passes) = subst (λ n. k < n) (length-map (range_with_len 0 turns.passes) (newcomer turns history)) within in
    let low : k < turns.passes = subst (λ n. k < n) (length-range_with_len 0 turns.passes) inside in
    ap (λ (pass : Known Opening Entry). pass.number) (get_or-map (newcomer turns history) (range_with_len 0 turns.passes) k 0 other inside)
    ∙ (get_or-range_with_len 0 turns.passes k 0 low ∙ zero-add k))

pub newcomers_len : (turns : Origin Opening) (history : List Entry) (passes : List (Known Opening Entry)) → passes ≡ newcomers turns history → length passes ≡ turns.passes
newcomers_len turns history passes is = ap length is ∙ (length-map (range_with_len 0 turns.passes) (newcomer turns history) ∙ length-range_with_len 0 turns.passes)

-- passes at the places of their numbers are all passes
pub all_in_place : (turns : Origin Opening) (passes : List (Known Opening Entry)) → length passes ≡ turns.passes → All (IsReady turns) passes → AreInPlace passes → AreAll turns passes
all_in_place turns passes len ready places = record {
  from = λ k other within. (ready k other within).0;
  each = λ number low.
      let other : Known Opening Entry = record { table = turns.table; opening = None; number = 0; seen = [] } in
      let inside : number < length passes = subst (λ n. number < n) (sym len) low in (
        number,
        subst (λ n. number < n) (sym (length-map passes (λ (pass : Known Opening Entry). pass.number))) inside,
        get_or-map (λ (pass : Known Opening Entry). pass.number) passes number other number inside ∙ places number other inside,
      );
}
