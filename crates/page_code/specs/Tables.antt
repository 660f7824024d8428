-- A code by its steps and the tables of what they name.
use Rattle.std.specs.Prelude.{◌≡◌, ◌<◌, ◌++◌, ℕ, List, [], map, get_or, length, Some, slice_get}
use Rattle.page_code.specs.Shapes.{cell, empty_shape}
use Rattle.page_code.specs.declared.call.CallBody.TheVariants as body
use Rattle.page_code.specs.declared.call.TagCall.{TagCall}
use Rattle.page_code.specs.declared.code.Cell.{Cell}
use Rattle.page_code.specs.declared.instr.Instr.{Instr}
use Rattle.page_code.specs.declared.instr.Instr.TheVariants as instr
use Rattle.page_code.specs.declared.shape.Shape.{Shape}
use Rattle.page_code.specs.declared.step.Step.{Step}
use Rattle.pg_text.specs.declared.place.Place.{Place}

-- what stands where a table ends
abbrev pub no_place : Place
no_place = record { file = []; byte = 0; line = 0; column = 0 }

-- what stands where a code ends
abbrev pub no_cell : Cell
no_cell = cell empty_shape no_place instr.StartBody

-- the cell of this number has this instruction and this place
pub record IsCellAt (code : List Cell) (at : ℕ) (i : Instr) (p : Place) : Type 0 where
  pub shape : Shape
  pub there : slice_get code at ≡ Some (cell shape p i)

-- the cell that a step is
abbrev pub step_cell : List Instr → List Place → List Shape → Step → Cell
step_cell is ps shs s = cell (get_or shs s.shape empty_shape) (get_or ps s.place no_place) (get_or is s.instr instr.StartBody)

-- the cells that steps are
abbrev pub step_cells : List Instr → List Place → List Shape → List Step → List Cell
step_cells is ps shs steps = map (step_cell is ps shs) steps

-- the call of a tag file with these attributes, without a body
abbrev pub bare_call : (path : List ℕ) (names : List (List ℕ)) → TagCall
bare_call path names = record { path = path; names = names; body = body.Absent; fragments = [] }

-- the numbers of a step stand in the tables
pub record IsListed (is : List Instr) (ps : List Place) (shs : List Shape) (s : Step) : Type 0 where
  pub instr : s.instr < length is
  pub place : s.place < length ps
  pub shape : s.shape < length shs

-- a table with more behind it, in which something has a number
pub record HasNumber {X : Type 0} (old new : List X) (x : X) (n : ℕ) : Type 0 where
  pub more : List X
  pub grown : new ≡ old ++ more
  pub there : slice_get new n ≡ Some x

-- a step by tables that grew, in which a cell's parts have its numbers
pub record IsStepOf (is is2 : List Instr) (ps ps2 : List Place) (shs shs2 : List Shape) (c : Cell) (s : Step) : Type 0 where
  pub instr : HasNumber is is2 c.instr s.instr
  pub place : HasNumber ps ps2 c.place s.place
  pub shape : HasNumber shs shs2 c.shape s.shape
