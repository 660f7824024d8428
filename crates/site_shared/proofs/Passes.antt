-- The passes of a shared site at its start and at its end.
use Rattle.std.proofs.Common.{◌≡◌, ℕ, ◌+◌, ◌<◌, List, [], length, get_or, None, true, sym, subst, ◌∙◌, arith}
use Rattle.std.specs.Prelude.{All, ◌≤◌, nat_le}
use Rattle.std.specs.List.{range_with_len}
use Rattle.std.proofs.lemmas.List.{get_or-map, length-map}
use Rattle.std.proofs.lemmas.List.Elements.{All-map}
use Rattle.std.proofs.lemmas.List.FromFn.{length-range_with_len, get_or-range_with_len}
use Rattle.edges.specs.Calls as Generic
use Rattle.site_words.specs.declared.words.Entry.{Entry}
use Rattle.site_words.specs.declared.words.Opening.{Opening}
use Rattle.site_words.specs.Invariants.{AllRest}
use Rattle.site_words.specs.Law.{own, pass_of, run_of}
use Rattle.site_words.specs.Opening.{is_sound, sound_counts}
use Rattle.site_words.proofs.Gifts.{closed_rests}
use Rattle.site_words.proofs.Items.{and_left, and_right, le_of}
use Rattle.turn_table.specs.Passes.{AreAll, Known, Origin, newcomer, newcomers}
use Rattle.pass_course.specs.Course.{IsIdle}

-- a sound opening has 1 to 64 passes
pub passes_few : (x : Opening) → is_sound x ≡ true → (1 ≤ x.passes) × (x.passes ≤ 64)
passes_few x is =
    let counts : sound_counts x ≡ true = and_left (sound_counts x) _ is in (
      le_of 1 x.passes (and_left (nat_le 1 x.passes) _ counts),
      le_of x.passes 64 (and_left (nat_le x.passes 64) _ (and_right (nat_le 1 x.passes) _ counts)),
    )

-- where no request is under way each pass is idle at the start
pub newcomers_idle : (x : Opening) (turns : Origin Opening) (history : List Entry) → turns.passes ≡ x.passes → AllRest x history → All (λ (pass : Known Opening Entry). IsIdle x pass.number pass.seen) (newcomers turns history)
newcomers_idle x turns history same rest = All-map (λ (pass : Known Opening Entry). IsIdle x pass.number pass.seen) (newcomer turns history) (range_with_len 0 turns.passes) (λ k d within. idle k d within)
  where
    idle : (k d : ℕ) → k < length (range_with_len 0 turns.passes) → IsIdle x (get_or (range_with_len 0 turns.passes) k d) history
    idle k d within =
        let inside : k < turns.passes = subst (λ m. k < m) (length-range_with_len 0 turns.passes) within in
        let at : get_or (range_with_len 0 turns.passes) k d ≡ 0 + k = get_or-range_with_len 0 turns.passes k d inside in
        let low : get_or (range_with_len 0 turns.passes) k d < x.passes = omega arith in
        (low, rest (get_or (range_with_len 0 turns.passes) k d) low)

pub idle_at_start : (x : Opening) (turns : Origin Opening) (history : List Entry) (items : List (Known Opening Entry)) → turns.passes ≡ x.passes → AllRest x history → items ≡ newcomers turns history
    → All (λ (pass : Known Opening Entry). IsIdle x pass.number pass.seen) items
idle_at_start x turns history items same rest is = subst (λ l. All (λ (pass : Known Opening Entry). IsIdle x pass.number pass.seen) l) (sym is) (newcomers_idle x turns history same rest)

-- once all passes are back, each with no request under way, none is under way in the history
pub rest_at_end : (x : Opening) (turns : Origin Opening) (passes : List (Known Opening Entry)) (history : List Entry) (legal : List Entry → Type 0) → turns.passes ≡ x.passes → AreAll turns passes
    → All (λ (pass : Known Opening Entry). Generic.Stays pass_of legal pass.number pass.seen history) passes
    → All (λ (pass : Known Opening Entry). run_of (own pass.number pass.seen) ≡ None) passes → AllRest x history
rest_at_end x turns passes history legal same all stay none k within =
    let other : Known Opening Entry = record { table = turns.table; opening = None; number = k; seen = [] } in
    let there = all.each k (subst (λ n. k < n) (sym same) within) in
    let inside : there.0 < length passes = subst (λ n. there.0 < n) (length-map passes (λ (pass : Known Opening Entry). pass.number)) there.1 in
    let pass : Known Opening Entry = get_or passes there.0 other in
    let at : pass.number ≡ k = sym (get_or-map (λ (pass : Known Opening Entry). pass.number) passes there.0 other k inside) ∙ there.2 in
    subst (λ n. run_of (own n history) ≡ None) at
    (closed_rests x history pass.seen pass.number legal (stay there.0 other inside) (none there.0 other inside))
