-- A value put in the place of another one, under the same key: how many entries there are, their order, and what they weigh where both weigh the same.
use Rattle.std.proofs.Common.{◌≡◌, ◌<◌, ◌+◌, ◌-◌, ◌^◌, ℕ, zero, suc, min, max, List, [], ◌∷◌, length, get_or, set, map, refl, ap, sym, subst, arith}
use Rattle.std.specs.Cmp.Lexicographic.{slice_cmp}
use Rattle.std.specs.List.Sorted.{IsStrictlySortedBy}
use Rattle.std.specs.Map.{keys_of}
use Rattle.std.specs.Ordering.{nat_cmp}
use Rattle.pg_value.specs.Attrs.{AreInOrder, with_value_at}
use Rattle.pg_value.specs.Datum.{Datum, rec, entries_of}
use Rattle.pg_value.specs.Depth.{depth_of, entries_depth}
use Rattle.pg_value.specs.Measured.{IsMeasured}
use Rattle.pg_value.specs.Value.{datum_of, entry_of}
use Rattle.pg_value.specs.Weight.{weight_of, entries_weight}
use Rattle.pg_value.specs.declared.value.Value.{Value}

-- a value at a place is seen as a datum there
pub seen_at : (es : List (List ℕ × Value)) (at : ℕ) (d : List ℕ × Value) (v : Value) → map entry_of (set es at ((get_or es at d).0, v)) ≡ with_value_at (map entry_of es) at (datum_of v)
seen_at [] at d v = refl
seen_at (e ∷ es) zero d v = refl
seen_at (e ∷ es) (suc at) d v = ap (λ more. entry_of e ∷ more) (seen_at es at d v)

pub seen_length : (es : List (List ℕ × Value)) → length (map entry_of es) ≡ length es
seen_length [] = refl
seen_length (e ∷ es) = ap suc (seen_length es)

pub length-with_value_at : (es : List (List ℕ × Datum)) (at : ℕ) (d : Datum) → length (with_value_at es at d) ≡ length es
length-with_value_at [] at d = refl
length-with_value_at (e ∷ es) zero d = refl
length-with_value_at (e ∷ es) (suc at) d = ap suc (length-with_value_at es at d)

keys_of-with_value_at : (es : List (List ℕ × Datum)) (at : ℕ) (d : Datum) → keys_of (with_value_at es at d) ≡ keys_of es
keys_of-with_value_at [] at d = refl
keys_of-with_value_at (e ∷ es) zero d = refl
keys_of-with_value_at (e ∷ es) (suc at) d = ap (λ keys. e.0 ∷ keys) (keys_of-with_value_at es at d)

pub AreInOrder-with_value_at : (es : List (List ℕ × Datum)) (at : ℕ) (d : Datum) → AreInOrder es → AreInOrder (with_value_at es at d)
AreInOrder-with_value_at es at d h = subst (IsStrictlySortedBy (slice_cmp nat_cmp)) (sym (keys_of-with_value_at es at d)) h

-- which is as heavy
heavy_at : (es : List (List ℕ × Value)) (at base : ℕ) (e : List ℕ × Value) (d : Datum) → at < length es → min (weight_of (datum_of (get_or es at e).1)) (2 ^ 64 - 1) ≡ min (weight_of d) (2 ^ 64 - 1)
    → min (base + entries_weight (entries_of (with_value_at (map entry_of es) at d))) (2 ^ 64 - 1) ≡ min (base + entries_weight (entries_of (map entry_of es))) (2 ^ 64 - 1)
heavy_at [] at base e d within same = absurd (omega (arith, within))
heavy_at (x ∷ es) zero base e d within same = omega (arith, same)
heavy_at (x ∷ es) (suc at) base e d within same =
    let more = heavy_at es at (base + (16 + length x.0 + weight_of (datum_of x.1))) e d (omega (arith, within)) same in
    omega (arith, more)

-- and as deep
deep_at : (es : List (List ℕ × Value)) (at base : ℕ) (e : List ℕ × Value) (d : Datum) → at < length es → min (depth_of (datum_of (get_or es at e).1)) (2 ^ 32 - 1) ≡ min (depth_of d) (2 ^ 32 - 1)
    → min (1 + max base (entries_depth (entries_of (with_value_at (map entry_of es) at d)))) (2 ^ 32 - 1) ≡ min (1 + max base (entries_depth (entries_of (map entry_of es)))) (2 ^ 32 - 1)
deep_at [] at base e d within same = absurd (omega (arith, within))
deep_at (x ∷ es) zero base e d within same = omega (arith, same)
deep_at (x ∷ es) (suc at) base e d within same =
    let more = deep_at es at (max base (depth_of (datum_of x.1))) e d (omega (arith, within)) same in
    omega (arith, more)

-- so that its measures stay
pub measured_again : (es : List (List ℕ × Value)) (at weight depth : ℕ) (e : List ℕ × Value) (d : Datum) → at < length es → min (weight_of (datum_of (get_or es at e).1)) (2 ^ 64 - 1) ≡ min (weight_of d) (2 ^ 64 - 1)
    → min (depth_of (datum_of (get_or es at e).1)) (2 ^ 32 - 1) ≡ min (depth_of d) (2 ^ 32 - 1)
    → IsMeasured (rec (entries_of (map entry_of es))) weight depth → IsMeasured (rec (entries_of (with_value_at (map entry_of es) at d))) weight depth
measured_again es at weight depth e d within heavy deep h =
    let as_heavy = heavy_at es at 16 e d within heavy in
    let as_deep = deep_at es at 0 e d within deep in
    record { weighs = omega (arith, as_heavy, h.weighs); reaches = omega (arith, as_deep, h.reaches) }
