-- A list in blocks, and its room.
use Rattle.std.specs.Prelude.{◌≡◌, ℕ, ◌+◌, ◌-◌, ◌*◌, ◌<◌, ◌≤◌, ◌^◌, List, [], length, flat_map, All, refl}
use Rattle.std.specs.Coded.{Coded, code_by, coded×, coded_list, coded_ℕ}
use Rattle.std.specs.Vec.{vec_capacity}
use Rattle.std.specs.declared.vec.Vec.{Vec}

-- the items, and how many more the memory that is there would hold
pub record Roomy (X : Type 0) : Type 0 where
  pub items : List X
  pub room : ℕ

-- how many items a block holds
abbrev pub block : ℕ
block = 4096

module _ {X : Type 0} where
  abbrev pub roomy : List X → ℕ → Roomy X
  roomy xs n = record { items = xs; room = n }

  abbrev pub roomy_code : Coded X → Coded (Roomy X)
  roomy_code c = code_by (List X × ℕ) (coded× (coded_list c) coded_ℕ) (λ l. (l.items, l.room)) (λ p. roomy p.0 p.1) (λ _. refl)

module _ {X Z : Type 0} where
  -- the items of blocks, one block after the other
  abbrev pub joined : List (Vec X Z) → List X
  joined = flat_map (λ (b : Vec X Z). b.items)

  -- a block that has all of its items
  abbrev pub IsFull : Vec X Z → Type 0
  IsFull b = length b.items ≡ block

  -- a block that has none yet, and memory for all
  abbrev pub IsFree : Vec X Z → Type 0
  IsFree b = (b.items ≡ []) × (block ≤ vec_capacity b)

  -- for how many items more there is memory in the block that is being filled and in free ones
  abbrev pub room_of : {W : Type 0} → Vec X Z → Vec (Vec X Z) W → ℕ
  room_of last free = block - length last.items + block * length free.items

  -- blocks that are full, then the one that is being filled, and free ones, each of which has a place among the full ones
  pub record AreBlocks {Y W : Type 0} (full : Vec (Vec X Z) Y) (last : Vec X Z) (free : Vec (Vec X Z) W) : Type 0 where
    pub filled : All IsFull full.items
    pub some : length last.items ≤ block
    pub memory : block ≤ vec_capacity last
    pub fresh : All IsFree free.items
    pub places : length full.items + length free.items ≤ vec_capacity full
    pub few : block * (length full.items + length free.items + 1) < 2 ^ 64
