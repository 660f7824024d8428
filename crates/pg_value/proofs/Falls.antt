-- The sizes by which the dropping of a value ends.
use Rattle.std.proofs.Common.{◌≡◌, ◌<◌, ◌≤◌, ℕ, zero, suc, ◌+◌, ◌-◌, ◌*◌, max, List, [], ◌∷◌, length, take, get_or, set, map, arith, ap}
use Rattle.std.specs.List.{swap_remove}
use denote.Param.Weighed.{at_most, most}
use Rattle.pg_value.proofs.Sizes.{entry_size, item_size}
use Rattle.pg_value.specs.declared.value.Value.{Value}
use Rattle.pg_value.specs.declared.value.Value.TheVariants as variant
use Rattle.pg_value.specs.declared.block.Block.TheDeep.{deep-Value, size-Block, size-Entries, size-Value}
use Rattle.pg_value.specs.declared.entries.Entries.{Entries}
use Rattle.pg_value.specs.Datum.{Datum}
use Rattle.pg_value.specs.ReadEntries.{in_entries, joined}
use Rattle.pg_value.specs.Size.{size_of, data_size, entries_size}
use Rattle.pg_value.specs.SizeFalls.{deep_le, entries_below as kept_deep, joined_size}
use Rattle.pg_value.specs.Value.{datum_of, entry_of}

pub size_most : (v : Value) → size-Value v ≤ 6 * size_of (datum_of v) + 1
size_most v = omega (arith, deep_le v)

pub items_most : (vs : List Value) → most size-Value vs ≤ 6 * data_size (map datum_of vs) + 1
items_most [] = omega arith
items_most (v ∷ vs) = omega (arith, size_most v, items_most vs)

-- of an entry, by its value
abbrev pub size_of_entry : List ℕ × Value → ℕ
size_of_entry e = max 0 (max (size-Value e.1) 0)

pub entries_most : (es : List (List ℕ × Value)) → most size_of_entry es ≤ 6 * entries_size (map entry_of es) + 1
entries_most [] = omega arith
entries_most (e ∷ es) = omega (arith, size_most e.1, entries_most es)

or_none : (n : ℕ) → max n 0 ≡ n
or_none n = omega arith

list_deep : (ds : List Datum) → deep-Value (variant.List ds) ≡ 2 * data_size ds + 1
list_deep ds = or_none (2 * data_size ds + 1)

rec_deep : (es : List (List ℕ × Datum)) → deep-Value (variant.Rec es) ≡ 2 * entries_size es + 2
rec_deep es = omega (arith, or_none (2 * entries_size es + 1 + 1))

block_size_is : (b : List (List ℕ × Datum)) → size-Block b ≡ 6 * entries_size b + 3
block_size_is b = omega (arith, the_same (2 * entries_size b))
  where
    the_same : (n : ℕ) → 3 * (n + 1) + 0 ≡ 3 * n + 3
    the_same n = omega arith

pub list_size : (v : Value) (ds : List Datum) → v ≡ variant.List ds → size-Value v ≡ 6 * data_size ds + 4
list_size v ds is = omega (arith, ap deep-Value is, list_deep ds)

pub rec_size : (v : Value) (es : List (List ℕ × Datum)) → v ≡ variant.Rec es → size-Value v ≡ 6 * entries_size es + 7
rec_size v es is = omega (arith, ap deep-Value is, rec_deep es)

-- what is left of a list is no larger

most_take : {X : Type 0} (μ : X → ℕ) (k : ℕ) (xs : List X) → most μ (take k xs) ≤ most μ xs
most_take μ zero [] = omega arith
most_take μ zero (x ∷ xs) = omega arith
most_take μ (suc k) [] = omega arith
most_take μ (suc k) (x ∷ xs) = omega (arith, most_take μ k xs)

most_set : {X : Type 0} (μ : X → ℕ) (b : ℕ) (xs : List X) (i : ℕ) (y : X) → most μ xs ≤ b → μ y ≤ b → most μ (set xs i y) ≤ b
most_set μ b [] i y all one = omega (arith, all)
most_set μ b (x ∷ xs) zero y all one = omega (arith, all, one)
most_set μ b (x ∷ xs) (suc i) y all one = omega (arith, all, most_set μ b xs i y (omega (arith, all)) one)

pub most_rest : {X : Type 0} (μ : X → ℕ) (xs : List X) (i : ℕ) (x : X) → i < length xs → most μ (swap_remove xs i x) ≤ most μ xs
most_rest μ xs i x within =
    let last : μ (get_or xs (length xs - 1) x) ≤ most μ xs = at_most μ xs (length xs - 1) x (omega (arith, within)) in
    let all = most_set μ (most μ xs) xs i (get_or xs (length xs - 1) x) (omega arith) last in
    let fewer = most_take μ (length xs - 1) (set xs i (get_or xs (length xs - 1) x)) in
    omega (arith, all, fewer)

-- what there is in a list or a record is below this, where the whole is

pub items_below : (vs : List Value) (ds : List Datum) (t : ℕ) → map datum_of vs ≡ ds → 6 * data_size ds + 4 ≤ t → most size-Value vs < t
items_below vs ds t seen below = omega (arith, items_most vs, ap data_size seen, below)

pub rest_below : (vs rest : List Value) (ds : List Datum) (i t : ℕ) (x : Value) → i < length vs → rest ≡ swap_remove vs i x → map datum_of vs ≡ ds → 6 * data_size ds + 4 ≤ t → most size-Value rest < t
rest_below vs rest ds i t x within is seen below =
    let left : most size-Value rest ≡ most size-Value (swap_remove vs i x) = ap (most size-Value) is in
    omega (arith, most_rest size-Value vs i x within, items_below vs ds t seen below, left)

pub entries_below : (es : List (List ℕ × Value)) (fs : List (List ℕ × Datum)) (t : ℕ) → map entry_of es ≡ fs → 6 * entries_size fs + 7 ≤ t → most size_of_entry es < t
entries_below es fs t seen below = omega (arith, entries_most es, ap entries_size seen, below)

pub rest_of_record_below : (es rest : List (List ℕ × Value)) (fs : List (List ℕ × Datum)) (i t : ℕ) (x : List ℕ × Value) → i < length es → rest ≡ swap_remove es i x → map entry_of es ≡ fs → 6 * entries_size fs + 7 ≤ t → most size_of_entry rest < t
rest_of_record_below es rest fs i t x within is seen below =
    let left : most size_of_entry rest ≡ most size_of_entry (swap_remove es i x) = ap (most size_of_entry) is in
    omega (arith, most_rest size_of_entry es i x within, entries_below es fs t seen below, left)

-- the same of entries in blocks

blocks_most : (bs : List (List (List ℕ × Datum))) → most size-Block bs ≤ 6 * entries_size (joined bs) + 3
blocks_most [] = omega arith
blocks_most (b ∷ bs) = omega (arith, block_size_is b, joined_size b (joined bs), blocks_most bs)

pub blocks_below : (bs : List (List (List ℕ × Datum))) (fs : List (List ℕ × Datum)) (t : ℕ) → joined bs ≡ fs → 6 * entries_size fs + 7 ≤ t → most size-Block bs < t
blocks_below bs fs t seen below = omega (arith, blocks_most bs, ap entries_size seen, below)

-- and of entries as a record keeps them
pub kept_below : (es : Entries) (fs : List (List ℕ × Datum)) (t : ℕ) → in_entries es ≡ fs → 6 * entries_size fs + 7 ≤ t → size-Entries es < t
kept_below es fs t seen below = omega (arith, kept_deep es, ap entries_size seen, below)

-- and so is one of its items or values

pub item_less : (vs : List Value) (ds : List Datum) (i n : ℕ) (x : Value) → x ≡ get_or vs i x → i < length vs → map datum_of vs ≡ ds → n ≡ 6 * data_size ds + 4 → size-Value x < n
item_less vs ds i n x at within seen is = omega (arith, size_most x, item_size vs i x at within, ap data_size seen, is)

pub value_less : (es : List (List ℕ × Value)) (fs : List (List ℕ × Datum)) (i n : ℕ) (e : List ℕ × Value) → e ≡ get_or es i e → i < length es → map entry_of es ≡ fs → n ≡ 6 * entries_size fs + 7 → size-Value e.1 < n
value_less es fs i n e at within seen is = omega (arith, size_most e.1, entry_size es i e at within, ap entries_size seen, is)
