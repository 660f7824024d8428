-- Each item of a list, and the value of each entry of a record, is smaller than the list or the record, and so is each block of its entries.
use Rattle.std.specs.Prelude.{◌≤◌, ◌+◌, ◌*◌, max, ℕ, List, [], ◌∷◌, ◌++◌, map}
use Rattle.std.proofs.Common.{◌≡◌, arith}
use denote.Param.Weighed.{most}
use Rattle.pg_value.specs.Datum.{Datum}
use Rattle.pg_value.specs.ReadEntries.{in_entries, joined}
use Rattle.pg_value.specs.declared.entries.Entries.{Entries}
use Rattle.pg_value.specs.declared.entries.Entries.TheVariants as entries
use Rattle.pg_value.specs.declared.value.Value.{Value}
use Rattle.pg_value.specs.declared.value.Value.TheVariants as variant
use Rattle.pg_value.specs.declared.block.Block.TheDeep.{deep-Value, deep-Entries}
use Rattle.pg_value.specs.Value.{datum_of, entry_of}
use Rattle.pg_value.specs.Size.{size_of, entries_size, list_size, record_size, block_size}

pub deep_le : (v : Value) → deep-Value v ≤ 2 * size_of (datum_of v)
deep_le variant.Null = omega arith
deep_le (variant.Bool b) = omega arith
deep_le (variant.Int n) = omega arith
deep_le (variant.Text s) = omega arith
deep_le (variant.List ds) = omega arith
deep_le (variant.Rec es) = omega arith

pub items_below : (vs : List Value) → max (most deep-Value vs) 0 ≤ list_size (map datum_of vs)
items_below [] = omega arith
items_below (v ∷ vs) = omega (arith, deep_le v, items_below vs)

pub block_below : (es : List (List ℕ × Value)) → max (most (λ e. max 0 (max (deep-Value e.1) 0)) es) 0 ≤ block_size (map entry_of es)
block_below [] = omega arith
block_below (e ∷ es) = omega (arith, deep_le e.1, block_below es)

pub joined_size : (b bs : List (List ℕ × Datum)) → entries_size (b ++ bs) ≡ entries_size b + entries_size bs
joined_size [] bs = omega arith
joined_size (e ∷ b) bs = omega (arith, joined_size b bs)

blocks_below : (bs : List (List (List ℕ × Datum))) → most (λ b. block_size b + 1) bs ≤ record_size (joined bs)
blocks_below [] = omega arith
blocks_below (b ∷ bs) = omega (arith, joined_size b (joined bs), blocks_below bs)

pub entries_below : (es : Entries) → max (deep-Entries es) 0 ≤ record_size (in_entries es)
entries_below (entries.Few es) = omega (arith, block_below es.items)
entries_below (entries.Many bs) = omega (arith, blocks_below bs.items)
