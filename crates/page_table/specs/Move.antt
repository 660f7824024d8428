-- What a run does next: it goes on, goes into a run one level deeper, or is stuck.
use Rattle.std.specs.Prelude.{ℕ, zero, suc, List, [], ◌∷◌}
use Rattle.pg_text.specs.declared.place.Place.{Place}
use Rattle.pg_value.specs.Datum.{Datum}
use Rattle.pg_value.specs.declared.fault.RunFault.TheVariants as fault
use Rattle.page_meaning.specs.State.{State}
use Rattle.page_meaning.specs.Went.{Did, Went, Well, Raised, Ended, Awaits}
use Rattle.page_table.specs.Landing.{Config, Over, thrown}
use Rattle.page_table.specs.Open.{Open}
use Rattle.page_table.specs.Seat.{Seat}

-- on to another configuration; into a run of its own, and on as that ends; or no further
pub data Move : Type 0 where
  On : Config → Move
  Into : Seat → (first : Config) → (back : Did → Config) → Move
  Stuck : Move

-- behind a part that went well
abbrev pub then_move : {A : Type 0} → Open → Went A → (A → State → Move) → Move
then_move o (Well a s) go = go a s
then_move o (Raised fault place s) go = On (thrown fault place s o)
then_move o (Ended leaving s) go = On (Over (Ended leaving s))
then_move o (Awaits step s) go = On (Over (Awaits step s))

-- with the topmost value, and what stands open without it
abbrev pub popped : Open → List Datum → (Datum → Open → Move) → Move
popped o [] go = Stuck
popped o (d ∷ rest) go = go d (record o { stack = rest })

-- with so many of the topmost values, in the order in which they were pushed, before these, and what stands open without them
abbrev pub popped_onto : (n : ℕ) → Open → List Datum → List Datum → (List Datum → Open → Move) → Move
popped_onto zero o stack ds go = go ds (record o { stack = stack })
popped_onto (suc n) o [] ds go = Stuck
popped_onto (suc n) o (d ∷ stack) ds go = popped_onto n o stack (d ∷ ds) go

-- with so many of the topmost values
abbrev pub popped_all : (n : ℕ) → Open → (List Datum → Open → Move) → Move
popped_all n o go = popped_onto n o o.stack [] go

-- what goes one level deeper: X17 where no level is left
abbrev pub one_deeper : Place → State → Open → (levels : ℕ) → ((left : ℕ) → Move) → Move
one_deeper place s o zero go = On (thrown fault.TooDeep place s o)
one_deeper place s o (suc left) go = go left
