-- Where a run stands after a part that went well, raised a fault, ended the page, or waits for a step.
use Rattle.std.specs.Prelude.{ℕ, ◌-◌, Bool, true, false, List, [], ◌∷◌, length, take}
use Rattle.out_buffer.specs.Writer.{last_of, with_bodies}
use Rattle.pg_text.specs.declared.place.Place.{Place}
use Rattle.pg_value.specs.Datum.{Datum}
use Rattle.pg_value.specs.declared.fault.RunFault.{RunFault}
use Rattle.page_meaning.specs.Core.{is_caught}
use Rattle.page_meaning.specs.Faults.{fault_record}
use Rattle.page_meaning.specs.Loops.{without_named}
use Rattle.page_meaning.specs.State.{State, in_writer}
use Rattle.page_meaning.specs.Went.{Did, Went, Well, Raised, Ended, Awaits}
use Rattle.page_table.specs.Open.{Loop, OpenCatch, Open}

-- a run at a place of its code, or over
pub data Config : Type 0 where
  Running : (pc : ℕ) → State → Open → Config
  Over : Did → Config

-- without the variables of these loops, the innermost first
abbrev pub unwound : List Loop → State → State
unwound [] s = s
unwound (l ∷ outer) s = unwound outer (without_named l.status (without_named l.variable s))

-- a fault that no catch takes ends the run
abbrev pub uncaught : RunFault → Place → State → Open → Config
uncaught fault place s o = Over (Raised fault place (unwound o.loops s))

-- with so many kept bodies alone
abbrev pub cut_bodies : ℕ → State → State
cut_bodies n s = in_writer (with_bodies n s.writer) s

-- the innermost catch takes a fault: it closes, what was opened behind its start goes, and the fault's record is pushed
abbrev pub caught_by : RunFault → Place → State → Open → List OpenCatch → Config
caught_by fault place s o [] = uncaught fault place s o
caught_by fault place s o (c ∷ outer) =
    Running c.to (cut_bodies c.bodies (unwound (take (length o.loops - c.loops) o.loops) s))
    (record { left = o.left; stack = fault_record (record { fault = fault; place = place }) ∷ last_of c.values o.stack; loops = last_of c.loops o.loops; catches = outer })

-- where one of two ways leads
abbrev pub one_of : Bool → Config → Config → Config
one_of true c other = c
one_of false c other = other

-- where a fault leads
abbrev pub thrown : RunFault → Place → State → Open → Config
thrown fault place s o = one_of (is_caught fault) (caught_by fault place s o o.catches) (uncaught fault place s o)

-- on behind a part that went well
abbrev pub then_at : {A : Type 0} → Open → Went A → (A → State → Config) → Config
then_at o (Well a s) go = go a s
then_at o (Raised fault place s) go = thrown fault place s o
then_at o (Ended leaving s) go = Over (Ended leaving s)
then_at o (Awaits step s) go = Over (Awaits step s)

-- on at a place, with the values that belong to the part's result
abbrev pub land : {A : Type 0} → (to : ℕ) → (A → List Datum) → Open → Went A → Config
land to values o went = then_at o went (λ a s. Running to s (record o { stack = values a }))
