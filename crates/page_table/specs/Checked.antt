-- Programs whose shapes fit, and runs that stand with the shape of their place.
use Rattle.std.specs.Prelude.{◌≡◌, ℕ, ◌+◌, List, [], ◌∷◌, length, ⊤}
use Rattle.page_code.specs.Calls.{body_size}
use Rattle.page_code.specs.Fits.{Carries, BodyBegins, FragmentsBegin, CodeFits}
use Rattle.page_code.specs.declared.code.Cell.{Cell}
use Rattle.page_code.specs.declared.shape.Level.{Level}
use Rattle.page_code.specs.declared.shape.Shape.{Shape}
use Rattle.page_table.specs.Open.{OpenCatch, Open}
use Rattle.page_table.specs.Program.{TagCode, Program, good, Serving}
use Rattle.page_table.specs.Seat.{CallSeat, Seat, in_page, in_tag, code_of}

-- the shapes of each tag file's code fit
abbrev pub TagsFit : List TagCode → Type 0
TagsFit [] = ⊤
TagsFit (tag ∷ rest) = CodeFits tag.code × TagsFit rest

-- the shapes of a page's code and of its tag files' codes fit
abbrev pub ProgramFits : Program → Type 0
ProgramFits program = CodeFits program.code × TagsFit program.tags

-- the shapes of each program fit that stands at a path
abbrev pub ServingFits : Serving → Type 0
ServingFits serving = (path : List ℕ) (program : Program) → serving.stored path ≡ good program → ProgramFits program

-- the body and the fragments of a call begin with the empty shape in the code of its caller
abbrev pub CallFits : CallSeat → (caller : Seat) → Type 0
CallFits call caller =
    BodyBegins (code_of caller) call.behind call.body × FragmentsBegin (code_of caller) (call.behind + body_size call.body) call.fragments

-- the shapes of all codes fit that run here, and what calls give begins with the empty shape
abbrev pub SeatFits : Seat → Type 0
SeatFits (in_page program params) = ProgramFits program
SeatFits (in_tag call caller) = CodeFits call.tag.code × CallFits call caller × SeatFits caller

-- the shape that a fault leaves where a catch takes it: that of the catch's start, with the fault's record
abbrev pub cut : Level → List Level → Shape
cut l outer = record { values = l.values + 1; bodies = l.bodies; loops = l.loops; catches = outer }

-- a catch as it is open in a run whose code began with so many kept bodies
abbrev pub based : (base to : ℕ) → Level → OpenCatch
based base to l = record { to = to; values = l.values; bodies = base + l.bodies; loops = l.loops }

-- the open catches are those of a shape, and where each goes on the code carries the shape that a fault leaves
pub data Catches (code : List Cell) (base : ℕ) : List OpenCatch → List Level → Type 0 where
  none : Catches code base [] []
  also : {to : ℕ} {l : Level} {opened : List OpenCatch} {outer : List Level}
      → Carries code to (cut l outer) → Catches code base opened outer → Catches code base (based base to l ∷ opened) (l ∷ outer)

-- what stands open has the shape, where so many bodies are kept, `base` of them since before the code's beginning
pub record HasShape (code : List Cell) (base kept : ℕ) (o : Open) (sh : Shape) : Type 0 where
  pub values : length o.stack ≡ sh.values
  pub bodies : kept ≡ base + sh.bodies
  pub loops : length o.loops ≡ sh.loops
  pub catches : Catches code base o.catches sh.catches

-- a run stands at a place of its code and has the shape that the place carries
pub record Stands (code : List Cell) (base pc kept : ℕ) (o : Open) : Type 0 where
  pub shape : Shape
  pub carries : Carries code pc shape
  pub has : HasShape code base kept o shape
