-- The forms of which the code of every kind of node is made. A form takes so many values from the stack, and leaves so many in their place.
use Rattle.std.specs.Prelude.{◌≡◌, ℕ, zero, suc, ◌*◌, Bool, List, length}
use Rattle.std.proofs.Common.{arith}
use Rattle.pg_text.specs.declared.place.Place.{Place}
use Rattle.pg_value.specs.declared.value.Value.{Value}
use Rattle.page_code.specs.Ops.{takes, leaves, address_with}
use Rattle.page_code.specs.declared.op.Op.{Op}
use Rattle.page_code.specs.declared.operands.LoopKind.{LoopKind}
use Rattle.page_code.specs.declared.operands.ScopedName.{ScopedName}

-- what a code runs that it hands nothing down to: the body or a fragment that it was given, a page with so many params, or an import
pub data Callee : Type 0 where
  own_body : Callee
  own_fragment : (name : List ℕ) → Callee
  included_page : (flush : Bool) → (params : ℕ) → Callee
  imported_page : Callee

-- the values that it takes
abbrev pub callee_takes : Callee → ℕ
callee_takes own_body = 0
callee_takes (own_fragment name) = 0
callee_takes (included_page flush params) = address_with params
callee_takes imported_page = 1

-- so many more, computed from the front
abbrev pub more : ℕ → ℕ → ℕ
more zero n = n
more (suc k) n = suc (more k n)

mutual
  pub data Form : (takes leaves : ℕ) → Type 0 where
    nothing : {n : ℕ} → Form n n
    -- one behind the other
    both : {n m k : ℕ} → Form n m → Form m k → Form n k
    -- above so many values that it leaves alone
    above : {n m : ℕ} → (k : ℕ) → Form n m → Form (more k n) (more k m)
    -- the same number said otherwise
    counted : {n m k : ℕ} → m ≡ k → Form n m → Form n k
    -- an operation
    does : (op : Op) → Place → Form (takes op) (leaves op)
    -- of the values of these names those that are wanted, in this order, and null for one that isn't there
    arranged : (wanted names : List (List ℕ)) → Place → Form (length names) (length wanted)
    -- the two topmost values the other way round
    swapped : Place → Form 2 2
    -- the text that is written
    kept : {n : ℕ} → Form n 0 → Place → Form n 1
    -- one of two, by the truth value on top
    chosen : {n m : ℕ} → (first second : Form n m) → Place → Form (suc n) m
    -- one where null is on top, which goes, and another where something else is
    where_null : {n m : ℕ} → (absent : Form n m) → (present : Form (suc n) m) → Place → Form (suc n) m
    -- a bean, and a part where it was made
    ensured : ScopedName → (bean : Value) → Form 0 0 → Place → Form 0 0
    looped : (kind : LoopKind) → Form 0 0 → Place → Form (length kind.names) 0
    -- a part, and what takes the record of its fault, or null where it went well
    caught : (tried : Form 0 0) → (handler : Form 1 0) → Place → Form 0 0
    calls : (callee : Callee) → Place → Form (callee_takes callee) 0
    -- the call of a tag file with the values of these names
    calls_tag : (path : List ℕ) → (names : List (List ℕ)) → Handed → Fragments → Place → Form (length names) 0
    -- the ends of a page for another address
    forwards_to : (params : ℕ) → Place → Form (address_with params) 0
    redirects_to : Place → Form 1 0

  -- the body that a call hands down
  pub data Handed : Type 0 where
    nothing_handed : Handed
    source_handed : List ℕ → Handed
    code_handed : Form 0 0 → Place → Handed

  -- the fragments that a call hands down
  pub data Fragments : Type 0 where
    no_fragments : Fragments
    fragment : (name : List ℕ) → Form 0 0 → Place → Fragments → Fragments

-- so many pairs of values
abbrev pub twice : ℕ → ℕ
twice zero = 0
twice (suc n) = suc (suc (twice n))

pub twice_is : (n : ℕ) → twice n ≡ 2 * n
twice_is zero = omega arith
twice_is (suc n) = let e = twice_is n in omega (arith, e)

pub address_is : (n : ℕ) → suc (twice n) ≡ address_with n
address_is n = let e = twice_is n in omega (arith, e)
