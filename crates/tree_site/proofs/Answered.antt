-- What is asked of a site, and what it answers.
use Rattle.std.proofs.Common.{◌≡◌, ◌≤◌, ◌+◌, ◌-◌, ◌∙◌, ℕ, Bool, true, false, List, [], ◌∷◌, ◌++◌, Some, Ok, take, refl, sym, ap, subst, arith}
use Rattle.std.specs.Prelude.{◌||◌, nat_lt, slice_get}
use Rattle.std.specs.List.{sum_by}
use Rattle.std.proofs.lemmas.Bool.Decides.{nat_tests}
use Rattle.std.proofs.lemmas.List.{map-append, take_more}
use Rattle.std.proofs.lemmas.Option.{get_or_from_slice_get, slice_get_within}
use Rattle.std.proofs.lemmas.List.Sums.{sum_by-append}
use Rattle.tree_site.specs.Asked.{asking_by, step_claim, step_of}
use Rattle.tree_site.specs.Prepared.{ReplyAt, answer_claim, answer_of, session_of}
use Rattle.tree_site.specs.declared.asked.Asked.{Asked}
use Rattle.tree_site.specs.declared.asked.Asked.TheVariants as asked
use Rattle.tree_site.specs.declared.prepared.Prepared.{Prepared}
use Rattle.tree_site.specs.declared.prepared.Prepared.TheVariants as prepared
use Rattle.pg_value.specs.Datum.{Datum}
use Rattle.pg_value.specs.Limits.{is_over, is_too_deep, is_too_heavy}
use Rattle.pg_value.specs.Value.{datum_of}
use Rattle.pg_value.specs.Weight.{weight_of}
use Rattle.site_words.specs.Running.{IsGivenSession, IsTold, keeps_limits}
use Rattle.site_words.specs.Weights.{answer_weight, end_weight, promise, step_weight, value_limit}
use Rattle.site_words.specs.declared.port.Fresh.{Fresh}
use Rattle.site_words.specs.declared.words.AppReply.{AppReply}
use Rattle.site_words.specs.declared.words.AppReply.TheVariants as answer
use Rattle.site_words.specs.declared.words.AppStep.{AppStep}

-- one more is taken of a list where it stands
take_one : {X : Type 0} (xs : List X) (n : ℕ) (x : X) → slice_get xs n ≡ Some x → take (n + 1) xs ≡ take n xs ++ x ∷ []
take_one xs n x is = take_more xs n x (slice_get_within xs n x is) ∙ ap (λ y. take n xs ++ y ∷ []) (get_or_from_slice_get xs n x x is)

light : (d : Datum) → is_over d ≡ false → weight_of d ≤ 1048576
light d h = go (is_too_heavy d) (is_too_deep d) refl h
  where
    go : (a b : Bool) → nat_lt 1048576 (weight_of d) ≡ a → (a || b) ≡ false → weight_of d ≤ 1048576
    go true b is h = absurd (cc)
    go false b is h = grind (arith, nat_tests)

-- an answer isn't too large
answer_light : (reply : AppReply) → keeps_limits reply → answer_weight reply ≤ 1048576
answer_light (answer.Value value) h = light (datum_of value) h
answer_light answer.Done h = omega arith
answer_light answer.Created h = omega arith
answer_light (answer.Large weight) h = omega arith

-- the sum with one more at the end
sum_one : {X : Type 0} (f : X → ℕ) (xs : List X) (x : X) → sum_by f (xs ++ x ∷ []) ≡ sum_by f xs + f x
sum_one f xs x = let e = sum_by-append f xs (x ∷ []) in omega (arith, e)

-- a step was answered
pub told_so : (steps : List Asked) (answers : List Prepared) (used : ℕ) (has : Bool) (step : AppStep) (reply : AppReply) → ReplyAt answers used step reply
    → 64 + step_weight step + value_limit + end_weight ≤ (asking_by steps (take used answers) has).left
    → IsTold (asking_by steps (take used answers) has) (asking_by (steps ++ asked.App step ∷ []) (take (used + 1) answers) has) step {E = Unit {0}} (Ok reply)
told_so steps answers used has step reply at room =
    subst (λ more. IsTold (asking_by steps (take used answers) has) (asking_by (steps ++ asked.App step ∷ []) more has) step {E = Unit {0}} (Ok reply)) (sym (take_one answers used (prepared.Reply reply) at.0))
    (map-append step_of steps (asked.App step ∷ []), map-append answer_of (take used answers) (prepared.Reply reply ∷ []), refl, left, at.1.0, at.1.1)
  where
    left : promise - (sum_by step_claim (steps ++ asked.App step ∷ []) + sum_by answer_claim (take used answers ++ prepared.Reply reply ∷ [])) + (64 + step_weight step + answer_weight reply) ≡ promise - (sum_by step_claim steps + sum_by answer_claim (take used answers))
    left =
        let a = sum_one step_claim steps (asked.App step) in
        let b = sum_one answer_claim (take used answers) (prepared.Reply reply) in
        let l = answer_light reply at.1.1 in
        omega (arith, a, b, l, room)

-- a session was given
pub given_so : (steps : List Asked) (answers : List Prepared) (used : ℕ) (has : Bool) (fresh : Fresh) → slice_get answers used ≡ Some (session_of fresh) → 64 + end_weight ≤ (asking_by steps (take used answers) has).left
    → IsGivenSession (asking_by steps (take used answers) has) (asking_by (steps ++ asked.Fresh ∷ []) (take (used + 1) answers) true) {E = Unit {0}} (Ok fresh)
given_so steps answers used has fresh at room =
    subst (λ more. IsGivenSession (asking_by steps (take used answers) has) (asking_by (steps ++ asked.Fresh ∷ []) more true) {E = Unit {0}} (Ok fresh)) (sym (take_one answers used (prepared.Session fresh) at))
    (map-append step_of steps (asked.Fresh ∷ []), map-append answer_of (take used answers) (prepared.Session fresh ∷ []), refl, left)
  where
    left : promise - (sum_by step_claim (steps ++ asked.Fresh ∷ []) + sum_by answer_claim (take used answers ++ prepared.Session fresh ∷ [])) + 64 ≡ promise - (sum_by step_claim steps + sum_by answer_claim (take used answers))
    left =
        let a = sum_one step_claim steps asked.Fresh in
        let b = sum_one answer_claim (take used answers) (prepared.Session fresh) in
        omega (arith, a, b, room)
