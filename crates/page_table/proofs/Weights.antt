-- The numbers of the measure.
use Rattle.std.proofs.Common.{◌≡◌, ℕ, zero, suc, ◌+◌, ◌-◌, ◌*◌, ◌<◌, ◌≤◌, List, [], ◌∷◌, length, Some, refl, ap, subst, arith}
use Rattle.std.specs.Prelude.{slice_get}
use Rattle.std.proofs.lemmas.Option.{slice_get_within}
use Rattle.page_code.specs.declared.code.Cell.{Cell}
use Rattle.page_code.specs.declared.shape.Level.{Level}
use Rattle.page_meaning.specs.Work.{visit_limit}
use Rattle.page_table.specs.Checked.{Catches, none, also, Stands}
use Rattle.page_table.specs.Measure.{three, weights, weight, opened, span}
use Rattle.page_table.specs.Open.{OpenCatch, Open}

pub three_pos : (k : ℕ) → 0 < three k
three_pos zero = omega arith
three_pos (suc k) = omega (arith, three_pos k)

three_less : (a k : ℕ) → three a ≤ three (a + k)
three_less a zero = let e : a ≡ a + 0 = omega arith in subst (λ n. three a ≤ three n) e (omega arith)
three_less a (suc k) = let e : suc (a + k) ≡ a + suc k = omega arith in subst (λ n. three a ≤ three n) e (omega (arith, three_less a k))

pub three_le : (a b : ℕ) → a ≤ b → three a ≤ three b
three_le a b h = let e : a + (b - a) ≡ b = omega arith in subst (λ n. three a ≤ three n) e (three_less a (b - a))

pub three_lt : (a b : ℕ) → a < b → 3 * three a ≤ three b
three_lt a b h = three_le (suc a) b (omega arith)

-- a visit was counted, or the end is nearer
pub data Less (v w v2 w2 : ℕ) : Type 0 where
  visited : v < v2 → v2 ≤ visit_limit → Less v w v2 w2
  nearer : v ≤ v2 → w2 < w → Less v w v2 w2

pub less_visits : (v w v2 w2 : ℕ) → Less v w v2 w2 → v ≤ v2
less_visits v w v2 w2 (visited h g) = omega (arith, h)
less_visits v w v2 w2 (nearer h g) = h

weights_le : (n : ℕ) (catches : List OpenCatch) → weights n catches ≤ three n * length catches
weights_le n [] = omega arith
weights_le n (c ∷ outer) =
    let k = length outer in
    let e : three n * suc k ≡ three n * k + three n = omega arith in
    omega (arith, weights_le n outer, three_le (n - c.to) n (omega arith), e)

opened_at : (code : List Cell) (pc : ℕ) (cell : Cell) → slice_get code pc ≡ Some cell → length cell.shape.catches ≤ opened code
opened_at [] pc cell e = absurd (omega (arith, slice_get_within [] pc cell e))
opened_at (c ∷ rest) zero cell e = let q : c ≡ cell = cc in omega (arith, ap (λ x. length x.shape.catches) q)
opened_at (c ∷ rest) (suc k) cell e = omega (arith, opened_at rest k cell e)

pub as_many : (code : List Cell) (base : ℕ) (catches : List OpenCatch) (levels : List Level) → Catches code base catches levels → length catches ≡ length levels
as_many code base _ _ none = refl
as_many code base _ _ (also {opened = opened} {outer = outer} carries rest) = ap suc (as_many code base opened outer rest)

pub weight_span : (code : List Cell) (base pc k : ℕ) (o : Open) → Stands code base pc k o → weight (length code) pc o.catches < span code
weight_span code base pc k o st =
    let n = length code in
    let a = opened_at code pc st.carries.cell st.carries.stands in
    let b = ap (λ x. length x.catches) st.carries.shape in
    let c = as_many code base o.catches st.shape.catches st.has.catches in
    let l : length o.catches ≤ opened code = omega (arith, a, b, c) in
    let d = opened code - length o.catches in
    let e : opened code ≡ length o.catches + d = omega (arith, l) in
    let f : three n * (1 + opened code) ≡ three n * (1 + (length o.catches + d)) = ap (λ x. three n * (1 + x)) e in
    omega (arith, f, weights_le n o.catches, three_le (n - pc) n (omega arith))

pub fewer : (v v2 b w w2 : ℕ) → Less v w v2 w2 → w2 < b → (visit_limit - v2) * b + w2 < (visit_limit - v) * b + w
fewer v v2 b w w2 (visited h g) lt =
    let k = visit_limit - v2 in
    let d = visit_limit - v - suc k in
    let e : visit_limit - v ≡ suc k + d = omega (arith, h, g) in
    let f : (visit_limit - v) * b ≡ (suc k + d) * b = ap (λ x. x * b) e in
    omega (arith, f, lt)
fewer v v2 b w w2 (nearer h g) lt =
    let k = visit_limit - v2 in
    let d = visit_limit - v - k in
    let e : visit_limit - v ≡ k + d = omega (arith, h) in
    let f : (visit_limit - v) * b ≡ (k + d) * b = ap (λ x. x * b) e in
    omega (arith, f, g)
