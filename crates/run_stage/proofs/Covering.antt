-- What a request's promise covers, and what stays covered while a run asks.
use Rattle.std.proofs.Common.{◌≡◌, ◌⊎◌, inl, inr, ◌≤◌, ◌<◌, ◌+◌, ℕ, Bool, true, false, List, Option, refl, ap, ◌∙◌, arith}
use Rattle.std.specs.Prelude.{◌&&◌, ◌||◌, nat_le, nat_lt, not}
use Rattle.std.proofs.lemmas.Bool.Decides.{nat_tests}
use Rattle.page_meaning.specs.Work.{charge_limit}
use Rattle.pg_value.specs.Datum.{Datum}
use Rattle.pg_value.specs.Limits.{is_over, is_too_deep, is_too_heavy}
use Rattle.pg_value.specs.Value.{datum_of}
use Rattle.pg_value.specs.Weight.{weight_of}
use Rattle.run_stage.proofs.LookMoves.{look_claimed, plain_claimed}
use Rattle.run_stage.specs.Stage.{Covered}
use Rattle.run_world.specs.Asking.{IsAskable}
use Rattle.scopes.specs.Scopes.{Entries}
use Rattle.site_words.specs.Fits.{is_null}
use Rattle.site_words.specs.Running.{Asking, HasLooked, is_page, keeps_limits, page_claim}
use Rattle.site_words.specs.Weights.{answer_weight, capped, step_weight}
use Rattle.site_words.specs.declared.words.AppReply.{AppReply}
use Rattle.site_words.specs.declared.words.AppReply.TheVariants as answer
use Rattle.site_words.specs.declared.words.AppStep.{AppStep}
use Rattle.site_words.specs.declared.words.AppStep.TheVariants as step
use Rattle.source_tree.specs.declared.file.File.{File}

-- the limit of the charge

pub below_limit : (n : ℕ) → nat_le charge_limit n ≡ false → n < 1048576
unfolding charge_limit
below_limit n e = grind (arith, nat_tests)

-- weights

pub light : (d : Datum) → is_over d ≡ false → weight_of d ≤ 1048576
light d h = go (is_too_heavy d) (is_too_deep d) refl h
  where
    go : (a b : Bool) → nat_lt 1048576 (weight_of d) ≡ a → (a || b) ≡ false → weight_of d ≤ 1048576
    go true b is h = absurd (cc)
    go false b is h = grind (arith, nat_tests)

not_over : (d : Datum) → not (is_over d) ≡ true → weight_of d ≤ 1048576
not_over d h = go (is_over d) refl h
  where
    go : (b : Bool) → is_over d ≡ b → not b ≡ true → weight_of d ≤ 1048576
    go true is h = absurd (cc)
    go false is h = light d is

set_value : (a b : Bool) → (a && b) ≡ true → b ≡ true
set_value true b h = h
set_value false b h = absurd (cc)

-- a step that may be asked weighs its name and its value, neither of which is too large
pub step_light : (x : AppStep) → IsAskable x → step_weight x ≤ 2097168
step_light (step.Get name) h = omega (arith, h.1)
step_light (step.Set name value) h = omega (arith, h.1, not_over (datum_of value) (set_value (not (is_null value)) (not (is_over (datum_of value))) h.0))
step_light (step.Remove name) h = omega (arith, h.1)
step_light (step.Ensure name value) h = omega (arith, h.1, not_over (datum_of value) h.0)
step_light step.All h = omega arith

-- so does its answer
pub answer_light : (reply : AppReply) → keeps_limits reply → answer_weight reply ≤ 1048576
answer_light (answer.Value value) h = light (datum_of value) h
answer_light answer.Done h = omega arith
answer_light answer.Created h = omega arith
answer_light (answer.Large weight) h = omega arith

-- a look

refused_open : (a b : Bool) → (a && b) ≡ false → a ≡ true → b ≡ false
refused_open true b h e = h
refused_open false b h e = absurd (cc)

-- a look that isn't refused claims nothing, or is one for a page under a charge below the limit
pub look_claims : (path : List ℕ) (n : ℕ) → (is_page path && nat_le charge_limit n) ≡ false → page_claim path ≤ 2208 → (page_claim path ≡ 0) ⊎ ((n < 1048576) × (page_claim path ≤ 2208))
look_claims path n allowed short = go (is_page path) refl
  where
    go : (b : Bool) → is_page path ≡ b → (page_claim path ≡ 0) ⊎ ((n < 1048576) × (page_claim path ≤ 2208))
    go true e = inr (below_limit n (refused_open (is_page path) (nat_le charge_limit n) allowed e), short)
    go false e = inl (plain_claimed path e)

-- the promise covers it, and the charge stays below its limit
pub look_room : (claim n left : ℕ) → (claim ≡ 0) ⊎ ((n < 1048576) × (claim ≤ 2208)) → n ≤ 4200000 → 4319936 ≤ n + left → claim + 65600 ≤ left
look_room claim n left (inl e) low promise = omega (arith, e, low, promise)
look_room claim n left (inr h) low promise = omega (arith, h.0, h.1, promise)

pub look_rises : (claim n m : ℕ) → (claim ≡ 0) ⊎ ((n < 1048576) × (claim ≤ 2208)) → m ≡ n + claim → (m ≡ n) ⊎ (m ≤ 4197000)
look_rises claim n m (inl e) is = inl (omega (arith, e, is))
look_rises claim n m (inr h) is = inr (omega (arith, h.0, h.1, is))

pub look_low : (claim n : ℕ) → (claim ≡ 0) ⊎ ((n < 1048576) × (claim ≤ 2208)) → n ≤ 4200000 → n + claim ≤ 4200000
look_low claim n (inl e) low = omega (arith, e, low)
look_low claim n (inr h) low = omega (arith, h.0, h.1)

-- what is covered stays so where no more is taken of the promise than is charged
pub covered_asked : (attributes : Option Entries) (id : Option (List ℕ)) (visited n m : ℕ) (old new : Asking) → Covered attributes id visited n old → new.has_session ≡ old.has_session → m ≤ 4200000 → n + old.left ≤ m + new.left → Covered attributes id visited m new
covered_asked attributes id visited n m old new c same low pays = record {
  session = c.session;
  asked = same ∙ c.asked;
  weight = c.weight;
  visits = c.visits;
  charge = low;
  promise = omega (arith, c.promise, pays);
  before = λ none. omega (arith, c.before none, pays);
}

-- a look that was charged leaves it covered
pub covered_looked : (attributes : Option Entries) (id : Option (List ℕ)) (visited n m : ℕ) (old new : Asking) (path : List ℕ) (file : Option File) → Covered attributes id visited n old → HasLooked old new path file
    → (page_claim path ≡ 0) ⊎ ((n < 1048576) × (page_claim path ≤ 2208)) → m ≡ n + page_claim path → Covered attributes id visited m new
covered_looked attributes id visited n m old new path file c looked claims is =
    let low = look_low (page_claim path) n claims c.charge in
    covered_asked attributes id visited n m old new c looked.has_session (omega (arith, is, low)) (omega (arith, is, looked.left, look_claimed path file))

-- so does one for which memory ran out, whether it was looked for or not
pub covered_short : (attributes : Option Entries) (id : Option (List ℕ)) (visited n m : ℕ) (old new : Asking) (path : List ℕ) (file : Option File) → Covered attributes id visited n old → HasLooked old new path file ⊎ (new ≡ old)
    → (page_claim path ≡ 0) ⊎ ((n < 1048576) × (page_claim path ≤ 2208)) → m ≡ n + page_claim path → Covered attributes id visited m new
covered_short attributes id visited n m old new path file c (inl looked) claims is = covered_looked attributes id visited n m old new path file c looked claims is
covered_short attributes id visited n m old new path file c (inr e) claims is =
    let low = look_low (page_claim path) n claims c.charge in
    covered_asked attributes id visited n m old new c (ap (λ (a : Asking). a.has_session) e) (omega (arith, is, low)) (omega (arith, is, ap (λ (a : Asking). a.left) e))

-- so does one that claims nothing
pub covered_plain : (attributes : Option Entries) (id : Option (List ℕ)) (visited n : ℕ) (old new : Asking) (path : List ℕ) (file : Option File) → Covered attributes id visited n old → HasLooked old new path file → page_claim path ≡ 0
    → Covered attributes id visited n new
covered_plain attributes id visited n old new path file c looked none = covered_asked attributes id visited n n old new c looked.has_session c.charge (omega (arith, none, looked.left, look_claimed path file))

-- a step and its answer leave it covered
pub ask_pays : (n sum step answer old new : ℕ) → n < 1048576 → step ≤ 2097168 → answer ≤ 1048576 → sum ≡ capped (64 + step) + capped answer → new + (64 + step + answer) ≡ old
    → (sum ≡ 64 + step + answer) × (n + sum ≤ 4197000) × (n + old ≤ n + sum + new)
ask_pays n sum step answer old new low small light is left = (omega (arith, is, small, light), omega (arith, is, low, small, light), omega (arith, is, small, light, left))
