-- Steps of loops over blocks, of which those before the step are done.
use Rattle.std.proofs.Common.{◌≡◌, ◌<◌, ◌≤◌, ◌+◌, ◌-◌, ◌^◌, ℕ, zero, suc, min, max, List, [], ◌∷◌, ◌++◌, length, get_or, take, drop, map, Bool, Some, None, Result, Ok, Err, IfOk, OnOk, Less, Equal, Greater, refl, sym, ap, ◌∙◌, subst, arith, append_assoc, append-nil, add-one, length-append, drop-cons}
use Rattle.std.proofs.lemmas.List.{drop-append-le, drop-map, drop_all, get_or_default, length-drop, length-map, length-take, map-append, take-append-le}
use Rattle.std.specs.declared.cmp.Ordering.{Ordering}
use Rattle.std.specs.Cmp.Lexicographic.{nat_list_cmp_total}
use Rattle.std.specs.Prelude.{slice_get}
use Rattle.std.specs.List.Sorted.{IsStrictlySortedBy}
use Rattle.std.specs.Ordering.{is_lt, ordering_reverse}
use Rattle.pg_value.specs.Attrs.{AreInOrder, with_entry, with_value_at}
use Rattle.pg_value.specs.Datum.{Datum, entries_of}
use Rattle.pg_value.specs.Depth.{entries_depth}
use Rattle.pg_value.specs.ReadEntries.{AreBlocks, AreFilled, is_behind, joined}
use Rattle.pg_value.specs.Value.{entry_of}
use Rattle.pg_value.specs.Weight.{entries_weight}
use Rattle.pg_value.specs.declared.value.Value.{Value}
use Rattle.pg_text.proofs.Halving.{order, turned}
use Rattle.pg_value.proofs.BlockPlaces.{AreAbove, Block, order_back}

abbrev Seen : Type 0
Seen = List (List ℕ × Value)

-- the block of a step stands before the others
pub next_joined : (bs : List Block) (i : ℕ) (b : Block) → i < length bs → b ≡ get_or bs i b → joined (drop i bs) ≡ b ++ joined (drop (i + 1) bs)
next_joined bs i b within at = ap joined (drop-cons bs i b within) ∙ ap (λ c. c ++ joined (drop (suc i) bs)) (sym at) ∙ ap (λ n. b ++ joined (drop n bs)) (sym (add-one i))

pub counted : (bs : List Block) (i n count : ℕ) (b : Block) → i < length bs → b ≡ get_or bs i b → count + length (joined (drop i bs)) ≡ n → (count + length b) + length (joined (drop (i + 1) bs)) ≡ n
counted bs i n count b within at before = omega (arith, before, ap length (next_joined bs i b within at), length-append b (joined (drop (i + 1) bs)))

-- weights add up, and the deepest counts

weight_joined : (b js : Block) → entries_weight (entries_of (b ++ js)) ≡ entries_weight (entries_of b) + entries_weight (entries_of js)
weight_joined [] js = omega arith
weight_joined (e ∷ b) js = omega (arith, weight_joined b js)

depth_joined : (b js : Block) → entries_depth (entries_of (b ++ js)) ≡ max (entries_depth (entries_of b)) (entries_depth (entries_of js))
depth_joined [] js = omega arith
depth_joined (e ∷ b) js = omega (arith, depth_joined b js)

pub weighed : (bs : List Block) (i sum total weight : ℕ) (b : Block) → i < length bs → b ≡ get_or bs i b → 16 ≤ sum → weight ≡ min (16 + entries_weight (entries_of b)) (2 ^ 64 - 1)
    → min (sum + entries_weight (entries_of (joined (drop i bs)))) (2 ^ 64 - 1) ≡ total
    → min (min (sum + (weight - 16)) (2 ^ 64 - 1) + entries_weight (entries_of (joined (drop (i + 1) bs)))) (2 ^ 64 - 1) ≡ total
weighed bs i sum total weight b within at least is before =
    omega (arith, least, is, before, ap (λ js. entries_weight (entries_of js)) (next_joined bs i b within at), weight_joined b (joined (drop (i + 1) bs)))

pub measured_deep : (bs : List Block) (i deepest total depth : ℕ) (b : Block) → i < length bs → b ≡ get_or bs i b → depth ≡ min (1 + entries_depth (entries_of b)) (2 ^ 32 - 1)
    → min (max deepest (1 + entries_depth (entries_of (joined (drop i bs))))) (2 ^ 32 - 1) ≡ total
    → min (max (max deepest depth) (1 + entries_depth (entries_of (joined (drop (i + 1) bs))))) (2 ^ 32 - 1) ≡ total
measured_deep bs i deepest total depth b within at is before =
    omega (arith, is, before, ap (λ js. entries_depth (entries_of js)) (next_joined bs i b within at), depth_joined b (joined (drop (i + 1) bs)))

-- entries listed so far
pub more_listed : (bs : List Block) (i : ℕ) (b all : Block) (listed more copies : Seen) → i < length bs → b ≡ get_or bs i b → map entry_of copies ≡ b → more ≡ listed ++ copies
    → map entry_of listed ++ joined (drop i bs) ≡ all → map entry_of more ++ joined (drop (i + 1) bs) ≡ all
more_listed bs i b all listed more copies within at copied is before =
    ap (λ es. map entry_of es ++ joined (drop (i + 1) bs)) is
    ∙ ap (λ es. es ++ joined (drop (i + 1) bs)) (map-append entry_of listed copies ∙ ap (λ es. map entry_of listed ++ es) copied)
    ∙ append_assoc (map entry_of listed) b (joined (drop (i + 1) bs))
    ∙ ap (λ es. map entry_of listed ++ es) (sym (next_joined bs i b within at))
    ∙ before

-- a place behind a block
drop_behind : (n : ℕ) (b js : Block) → length b ≤ n → drop n (b ++ js) ≡ drop (n - length b) js
drop_behind n [] js h = ap (λ m. drop m js) {x = n} {y = n - 0} (omega arith)
drop_behind zero (e ∷ b) js h = absurd (omega (arith, h))
drop_behind (suc n) (e ∷ b) js h = drop_behind n b js (omega (arith, h)) ∙ ap (λ m. drop m js) {x = n - length b} {y = suc n - suc (length b)} (omega arith)

pub behind : (bs : List Block) (i left n : ℕ) (b rest : Block) → i < length bs → b ≡ get_or bs i b → n ≡ length b → n ≤ left → drop left (joined (drop i bs)) ≡ rest
    → drop (left - n) (joined (drop (i + 1) bs)) ≡ rest
behind bs i left n b rest within at is past before =
    ap (λ m. drop (left - m) (joined (drop (i + 1) bs))) is
    ∙ sym (drop_behind left b (joined (drop (i + 1) bs)) (omega (arith, past, is)))
    ∙ ap (drop left) (sym (next_joined bs i b within at))
    ∙ before

pub behind_some : (bs : List Block) (i left n : ℕ) (b : Block) → i < length bs → b ≡ get_or bs i b → n ≡ length b → n ≤ left → left < length (joined (drop i bs)) → left - n < length (joined (drop (i + 1) bs))
behind_some bs i left n b within at is past before = omega (arith, is, past, before, ap length (next_joined bs i b within at), length-append b (joined (drop (i + 1) bs)))

-- a place in a block
pub seen_in_block : (bs : List Block) (i left : ℕ) (b rest : Block) (es seen : Seen) → i < length bs → b ≡ get_or bs i b → left < length b → map entry_of es ≡ b
    → map entry_of seen ≡ take (length seen) (drop left (map entry_of es)) → drop left (joined (drop i bs)) ≡ rest → map entry_of seen ≡ take (length seen) rest
seen_in_block bs i left b rest es seen within at there same is before =
    let js = joined (drop (i + 1) bs) in
    let here = is ∙ ap (λ c. take (length seen) (drop left c)) same in
    here
    ∙ sym (take-append-le (length seen) (drop left b) js (omega (arith, ap length here, length-map seen entry_of, length-take (length seen) (drop left b))))
    ∙ ap (take (length seen)) (sym (drop-append-le left b js (omega (arith, there))) ∙ ap (drop left) (sym (next_joined bs i b within at)) ∙ before)

-- entries cut into blocks

AreInOrder-front : (b js : Block) → AreInOrder (b ++ js) → AreInOrder b
unfolding IsStrictlySortedBy
AreInOrder-front [] js h = tt
AreInOrder-front (e ∷ b) js h = (front_above e.0 b js h.0, AreInOrder-front b js h.1)
  where
    front_above : (k : List ℕ) (b js : Block) → AreAbove k (b ++ js) → AreAbove k b
    front_above k [] js h = tt
    front_above k (e ∷ b) js h = (h.0, front_above k b js h.1)

pub in_order_front : (es front back : Seen) → front ++ back ≡ es → AreInOrder (map entry_of es) → AreInOrder (map entry_of front)
in_order_front es front back is h =
    AreInOrder-front (map entry_of front) (map entry_of back) (subst AreInOrder (sym (ap (map entry_of) is) ∙ map-append entry_of front back) h)

pub in_order_back : (es front back : Seen) → front ++ back ≡ es → AreInOrder (map entry_of es) → AreInOrder (map entry_of back)
in_order_back es front back is h =
    order_back (map entry_of front) (map entry_of back) (subst AreInOrder (sym (ap (map entry_of) is) ∙ map-append entry_of front back) h)

joined_pushed : (bs : List Block) (b js : Block) → joined (bs ++ b ∷ []) ++ js ≡ joined bs ++ (b ++ js)
joined_pushed [] b js = append_assoc b [] js
joined_pushed (c ∷ bs) b js = append_assoc c (joined (bs ++ b ∷ [])) js ∙ ap (λ es. c ++ es) (joined_pushed bs b js) ∙ sym (append_assoc c (joined bs) (b ++ js))

pub cut_more : (bs : List Block) (es front back : Seen) (b all : Block) → front ++ back ≡ es → b ≡ map entry_of front → joined bs ++ map entry_of es ≡ all → joined (bs ++ b ∷ []) ++ map entry_of back ≡ all
cut_more bs es front back b all is made before =
    joined_pushed bs b (map entry_of back)
    ∙ ap (λ c. joined bs ++ (c ++ map entry_of back)) made
    ∙ ap (λ more. joined bs ++ more) (sym (map-append entry_of front back) ∙ ap (map entry_of) is)
    ∙ before

-- a value put under the key that stands at a place

above_at : (k : List ℕ) (es : Block) (at : ℕ) (e : List ℕ × Datum) → AreAbove k es → at < length es → order k (get_or es at e).0 ≡ Less
above_at k [] at e above within = absurd (omega (arith, within))
above_at k (f ∷ es) zero e above within = above.0
above_at k (f ∷ es) (suc at) e above within = above_at k es at e above.1 (omega (arith, within))

itself_by : (o : Ordering) → o ≡ ordering_reverse o → o ≡ Equal
itself_by Less h = cc
itself_by Equal h = refl
itself_by Greater h = cc

itself : (k : List ℕ) → order k k ≡ Equal
itself k = itself_by (order k k) (nat_list_cmp_total.antisymm k k)

pub put_at_place : (es : Block) (at : ℕ) (e : List ℕ × Datum) (d : Datum) → AreInOrder es → at < length es → with_entry es (get_or es at e).0 d ≡ with_value_at es at d
unfolding IsStrictlySortedBy
put_at_place [] at e d sorted within = absurd (omega (arith, within))
put_at_place (f ∷ es) zero e d sorted within = rw (itself f.0) refl
put_at_place (f ∷ es) (suc at) e d sorted within =
    let above : order (get_or es at e).0 f.0 ≡ Greater = turned f.0 (get_or es at e).0 Less (above_at f.0 es at e sorted.0 (omega (arith, within))) in
    rw above (ap (λ more. f ∷ more) (put_at_place es at e d sorted.1 (omega (arith, within))))

-- the first of the entries from a place on

first_taken : (n : ℕ) (es : Block) (e : List ℕ × Datum) → get_or (take (suc n) es) 0 e ≡ get_or es 0 e
first_taken n [] e = refl
first_taken n (f ∷ es) e = refl

first_dropped : (es : Block) (at : ℕ) (e : List ℕ × Datum) → get_or (drop at es) 0 e ≡ get_or es at e
first_dropped [] zero e = refl
first_dropped [] (suc at) e = refl
first_dropped (f ∷ es) zero e = refl
first_dropped (f ∷ es) (suc at) e = first_dropped es at e

pub seen_first : (seen : Seen) (es : Block) (at : ℕ) (e : List ℕ × Value) → map entry_of seen ≡ take (length seen) (drop at es) → 0 < length seen → e ≡ get_or seen 0 e
    → entry_of e ≡ get_or es at (entry_of e)
seen_first [] es at e same some is = absurd (omega (arith, some))
seen_first (f ∷ seen) es at e same some is =
    let first : entry_of e ≡ get_or (map entry_of (f ∷ seen)) 0 (entry_of e) = ap entry_of is in
    first ∙ ap (λ fs. get_or fs 0 (entry_of e)) same ∙ first_taken (length seen) (drop at es) (entry_of e) ∙ first_dropped es at (entry_of e)

first_got : (es : Block) (at : ℕ) (e : List ℕ × Datum) (more : Block) (n : ℕ) → e ∷ more ≡ take (suc n) (drop at es) → Some e ≡ slice_get es at
first_got [] zero e more n h = cc
first_got [] (suc at) e more n h = cc
first_got (f ∷ es) zero e more n h = ap (λ fs. slice_get fs 0) h
first_got (f ∷ es) (suc at) e more n h = first_got es at e more n h

none_got : (es : Block) (at : ℕ) → length es ≤ at → None ≡ slice_get es at
none_got [] at h = refl
none_got (f ∷ es) zero h = absurd (omega (arith, h))
none_got (f ∷ es) (suc at) h = none_got es at (omega (arith, h))

pub seen_some : (seen : Seen) (es : Block) (at : ℕ) (e : List ℕ × Value) → map entry_of seen ≡ take (length seen) (drop at es) → 0 < length seen → e ≡ get_or seen 0 e → Some (entry_of e) ≡ slice_get es at
seen_some [] es at e same some is = absurd (omega (arith, some))
seen_some (f ∷ seen) es at e same some is = ap (λ g. Some (entry_of g)) is ∙ first_got es at (entry_of f) (map entry_of seen) (length seen) same

not_within : (n at : ℕ) → (at < n → ⊥) → n ≤ at
not_within zero at h = omega arith
not_within (suc n) zero h = absurd (h (omega arith))
not_within (suc n) (suc at) h = omega (arith, not_within n at (λ within. h (omega (arith, within))))

pub seen_none : (seen : Seen) (es : Block) (at : ℕ) → (at < length es → 0 < length seen) → length seen ≡ 0 → None ≡ slice_get es at
seen_none seen es at some none = none_got es at (not_within (length es) at (λ within. omega (arith, none, some within)))

-- the entries of a list from a place on

whole : (es : Seen) → map entry_of es ≡ take (length es) (map entry_of es)
whole [] = refl
whole (e ∷ es) = ap (λ more. entry_of e ∷ more) (whole es)

pub seen_from : (es seen : Seen) (place : ℕ) → seen ≡ drop place es → map entry_of seen ≡ take (length seen) (drop place (map entry_of es))
seen_from es seen place is = whole seen ∙ ap (take (length seen)) (ap (map entry_of) is ∙ sym (drop-map entry_of place es))

pub seen_more : (es seen : Seen) (left : ℕ) → left < length es → seen ≡ drop left es → 0 < length seen
seen_more es seen left there is = omega (arith, there, ap length is, length-drop left es)

-- how a block begins
pub begins_by : (k : List ℕ) (es : Seen) (b : Block) (e : List ℕ × Value) (r : Bool) → 0 < length es → e ≡ get_or es 0 e → map entry_of es ≡ b → r ≡ is_lt (order k e.0) → r ≡ is_behind k b
begins_by k [] b e r some at seen is = absurd (omega (arith, some))
begins_by k (f ∷ es) b e r some at seen is = is ∙ ap (λ g. is_lt (order k g.0)) at ∙ ap (is_behind k) seen

-- a value that was put under the key of its place
placed_by_key : (old new : Block) (at : ℕ) (key : List ℕ) (e : List ℕ × Datum) (d : Datum) → AreInOrder old → at < length old → key ≡ (get_or old at e).0 → new ≡ with_entry old key d → new ≡ with_value_at old at d
placed_by_key old new at key e d sorted within is made = made ∙ ap (λ k. with_entry old k d) is ∙ put_at_place old at e d sorted within

pub placed : {T E : Type 0} (r : Result T E) (old new : Block) (at : ℕ) (key : List ℕ) (e : List ℕ × Datum) (d : Datum) → AreInOrder old → at < length old → key ≡ (get_or old at e).0 → OnOk r (new ≡ with_entry old key d)
    → OnOk r (new ≡ with_value_at old at d)
placed (Ok x) old new at key e d sorted within is made = placed_by_key old new at key e d sorted within is made
placed (Err x) old new at key e d sorted within is made = tt

-- and the key of a place
key_seen : (seen : Seen) (es : Block) (at : ℕ) (e : List ℕ × Value) (key : List ℕ) (f : List ℕ × Datum) → map entry_of seen ≡ take (length seen) (drop at es) → 0 < length seen → e ≡ get_or seen 0 e → at < length es
    → key ≡ e.0 → key ≡ (get_or es at f).0
key_seen seen es at e key f same some is within copied =
    copied ∙ ap (λ g. g.0) (seen_first seen es at e same some is) ∙ ap (λ g. g.0) (get_or_default es at (entry_of e) f within)

pub key_copied : {E : Type 0} (r : Result (List ℕ) E) (seen : Seen) (es : Block) (at : ℕ) (e : List ℕ × Value) → map entry_of seen ≡ take (length seen) (drop at es) → 0 < length seen → e ≡ get_or seen 0 e → at < length es
    → IfOk r (λ key. key ≡ e.0) → IfOk r (λ key. (f : List ℕ × Datum) → key ≡ (get_or es at f).0)
key_copied (Ok key) seen es at e same some is within copied = λ f. key_seen seen es at e key f same some is within copied
key_copied (Err x) seen es at e same some is within copied = tt

-- all entries are cut
pub cut_kept : (bs : List Block) (es : Seen) → joined bs ≡ map entry_of es → AreFilled bs → AreInOrder (map entry_of es) → length es < 2 ^ 63 → AreBlocks bs
cut_kept bs es same filled sorted few = record { order = subst AreInOrder (sym same) sorted; filled = filled; few = omega (arith, few, ap length same, length-map es entry_of) }

pub cut_all : (bs : List Block) (rest : Seen) (all : Block) → length rest ≡ 0 → joined bs ++ map entry_of rest ≡ all → joined bs ≡ all
cut_all bs [] all none before = sym (append-nil (joined bs)) ∙ before
cut_all bs (e ∷ rest) all none before = absurd (omega (arith, none))

-- behind all blocks
pub gone : (bs : List Block) (i left : ℕ) → length bs ≤ i → left < length (joined (drop i bs)) → ⊥
gone bs i left past there = omega (arith, there, ap (λ cs. length (joined cs)) (drop_all i bs past))
