-- The check of a code as a test, over the numbers of what stands open: so many values v, bodies b and loops l, and the catches cs.
use Rattle.std.specs.Prelude.{ℕ, ◌+◌, ◌-◌, List, [], ◌∷◌, length, Option, Some, None, slice_get, Bool, true, false, ◌&&◌, nat_eq, nat_le, nat_lt}
use Rattle.std.specs.Cmp.Lexicographic.{pointwise}
use Rattle.page_code.specs.declared.call.CallBody.{CallBody}
use Rattle.page_code.specs.declared.call.CallBody.TheVariants as body
use Rattle.page_code.specs.declared.call.CallOut.{CallOut}
use Rattle.page_code.specs.declared.call.CallOut.TheVariants as call
use Rattle.page_code.specs.declared.call.Fragment.{Fragment}
use Rattle.page_code.specs.declared.call.Leave.{Leave}
use Rattle.page_code.specs.declared.call.Leave.TheVariants as leave
use Rattle.page_code.specs.declared.call.TagCall.{TagCall}
use Rattle.page_code.specs.declared.code.Cell.{Cell}
use Rattle.page_code.specs.declared.instr.Instr.{Instr}
use Rattle.page_code.specs.declared.instr.Instr.TheVariants as instr
use Rattle.page_code.specs.declared.op.Op.{Op}
use Rattle.page_code.specs.declared.operands.LoopKind.{LoopKind}
use Rattle.page_code.specs.declared.shape.Level.{Level}
use Rattle.page_code.specs.declared.shape.Shape.{Shape}
use Rattle.page_code.specs.Calls.{body_size}
use Rattle.page_code.specs.Ops.{takes, leaves, address_with}

-- as much stood open at the beginnings of two catches
abbrev pub same_level : Level → Level → Bool
same_level c d = nat_eq c.values d.values && (nat_eq c.bodies d.bodies && nat_eq c.loops d.loops)

-- two lists of catches are the same
abbrev pub same_levels : List Level → List Level → Bool
same_levels cs ds = pointwise same_level cs ds

-- a level of these numbers
abbrev pub level : ℕ → ℕ → ℕ → Level
level v b l = record { values = v; bodies = b; loops = l }

-- a shape has these numbers and catches
abbrev pub is_shape : Shape → ℕ → ℕ → ℕ → List Level → Bool
is_shape sh v b l cs = nat_eq sh.values v && (nat_eq sh.bodies b && (nat_eq sh.loops l && same_levels sh.catches cs))

-- a cell is there, and its shape is this one
abbrev pub cell_is : Option Cell → ℕ → ℕ → ℕ → List Level → Bool
cell_is None v b l cs = false
cell_is (Some c) v b l cs = is_shape c.shape v b l cs

-- the place is in the code, and carries this shape
abbrev pub carries : List Cell → ℕ → ℕ → ℕ → ℕ → List Level → Bool
carries code at v b l cs = cell_is (slice_get code at) v b l cs

-- nothing is open below where the innermost catch began
abbrev pub roomy : ℕ → ℕ → ℕ → List Level → Bool
roomy v b l [] = true
roomy v b l (c ∷ cs) = nat_le c.values v && (nat_le c.bodies b && nat_le c.loops l)

-- so many values are there above where the innermost catch began
abbrev pub can_take : ℕ → ℕ → ℕ → ℕ → List Level → Bool
can_take n v b l cs = nat_le n v && roomy (v - n) b l cs

-- the first of these catches began here, and the others are open here
abbrev pub trying_is : List Level → ℕ → ℕ → ℕ → List Level → Bool
trying_is [] v b l cs = false
trying_is (d ∷ ds) v b l cs = same_level d (level v b l) && same_levels ds cs

-- a cell is there whose shape has one catch more, which began here
abbrev pub cell_tries : Option Cell → ℕ → ℕ → ℕ → List Level → Bool
cell_tries None v b l cs = false
cell_tries (Some c) v b l cs = nat_eq c.shape.values v && (nat_eq c.shape.bodies b && (nat_eq c.shape.loops l && trying_is c.shape.catches v b l cs))

-- the innermost catch began where as much stood open as now, and the place carries the shape without it
abbrev pub ends_catch : List Cell → ℕ → ℕ → ℕ → ℕ → List Level → Bool
ends_catch code at v b l [] = false
ends_catch code at v b l (c ∷ cs) = same_level c (level v b l) && carries code at v b l cs

-- a body that is code begins with the empty shape
abbrev pub begins_body : List Cell → ℕ → CallBody → Bool
begins_body code at body.Absent = true
begins_body code at (body.Source text) = true
begins_body code at (body.Cells n) = carries code at 0 0 0 []

-- fragments that stand one after the other each begin with the empty shape, and the place behind them carries this one
abbrev pub ends_call : List Cell → ℕ → List Fragment → ℕ → ℕ → ℕ → List Level → Bool
ends_call code at [] v b l cs = carries code at v b l cs
ends_call code at (f ∷ rest) v b l cs = carries code at 0 0 0 [] && ends_call code (at + f.size) rest v b l cs

-- the call of a tag file
abbrev pub fits_tag : List Cell → ℕ → ℕ → ℕ → ℕ → List Level → TagCall → Bool
fits_tag code next v b l cs c =
    can_take (length c.names) v b l cs && (begins_body code next c.body && ends_call code (next + body_size c.body) c.fragments (v - length c.names) b l cs)

-- the call of a page at an address with so many parameters
abbrev pub fits_address : List Cell → ℕ → ℕ → ℕ → ℕ → ℕ → List Level → Bool
fits_address code next params v b l cs = can_take (address_with params) v b l cs && carries code next (v - address_with params) b l cs

-- a call
abbrev pub fits_call : List Cell → ℕ → ℕ → ℕ → ℕ → List Level → CallOut → Bool
fits_call code next v b l cs (call.Tag c) = fits_tag code next v b l cs c
fits_call code next v b l cs call.Body = carries code next v b l cs
fits_call code next v b l cs (call.Fragment name) = carries code next v b l cs
fits_call code next v b l cs (call.Include flush params) = fits_address code next params v b l cs
fits_call code next v b l cs call.Import = fits_address code next 0 v b l cs

-- an end
abbrev pub fits_leave : ℕ → ℕ → ℕ → List Level → Leave → Bool
fits_leave v b l cs (leave.Forward params) = can_take (address_with params) v b l cs
fits_leave v b l cs leave.Redirect = can_take 1 v b l cs
fits_leave v b l cs leave.End = nat_eq v 0 && (nat_eq b 0 && (nat_eq l 0 && nat_eq (length cs) 0))

-- an operation
abbrev pub fits_op : List Cell → ℕ → ℕ → ℕ → ℕ → List Level → Op → Bool
fits_op code next v b l cs o = can_take (takes o) v b l cs && carries code next (v - takes o + leaves o) b l cs

-- a jump that takes the value on top in any case
abbrev pub fits_branch : List Cell → ℕ → ℕ → ℕ → ℕ → ℕ → List Level → Bool
fits_branch code next n v b l cs = can_take 1 v b l cs && (carries code next (v - 1) b l cs && carries code (next + n) (v - 1) b l cs)

-- a jump that takes the value on top where it jumps
abbrev pub fits_null_branch : List Cell → ℕ → ℕ → ℕ → ℕ → ℕ → List Level → Bool
fits_null_branch code next n v b l cs = can_take 1 v b l cs && (carries code next v b l cs && carries code (next + n) (v - 1) b l cs)

-- the beginning of a loop
abbrev pub fits_loop : List Cell → ℕ → ℕ → ℕ → ℕ → List Level → LoopKind → Bool
fits_loop code next v b l cs k = can_take (length k.names) v b l cs && carries code next (v - length k.names) b (l + 1) cs

-- the end of a round, so many cells behind its beginning
abbrev pub fits_round : List Cell → ℕ → ℕ → ℕ → ℕ → ℕ → List Level → Bool
fits_round code pc n v b l cs = nat_lt 0 l && (nat_le n pc && (carries code (pc + 1) v b (l - 1) cs && carries code (pc - n) v b l cs))

-- an instruction
abbrev pub fits : List Cell → ℕ → ℕ → ℕ → ℕ → List Level → Instr → Bool
fits code pc v b l cs (instr.Op o) = fits_op code (pc + 1) v b l cs o
fits code pc v b l cs (instr.Take below) = can_take (below + 1) v b l cs && carries code (pc + 1) v b l cs
fits code pc v b l cs instr.StartBody = carries code (pc + 1) v (b + 1) l cs
fits code pc v b l cs instr.TakeBody = nat_lt 0 b && carries code (pc + 1) (v + 1) (b - 1) l cs
fits code pc v b l cs (instr.Jump n) = carries code (pc + 1 + n) v b l cs
fits code pc v b l cs (instr.JumpIf t n) = fits_branch code (pc + 1) n v b l cs
fits code pc v b l cs (instr.JumpNull n) = fits_null_branch code (pc + 1) n v b l cs
fits code pc v b l cs (instr.Ensure x bean n) = carries code (pc + 1) v b l cs && carries code (pc + 1 + n) v b l cs
fits code pc v b l cs (instr.LoopStart k) = fits_loop code (pc + 1) v b l cs k
fits code pc v b l cs (instr.LoopNext n) = fits_round code pc n v b l cs
fits code pc v b l cs (instr.CatchStart n) = cell_tries (slice_get code (pc + 1)) v b l cs && carries code (pc + 1 + n) (v + 1) b l cs
fits code pc v b l cs instr.CatchEnd = ends_catch code (pc + 1) v b l cs
fits code pc v b l cs (instr.CallOut c) = fits_call code (pc + 1) v b l cs c
fits code pc v b l cs (instr.Leave e) = fits_leave v b l cs e

-- a cell at its place
abbrev pub cell_fits : List Cell → ℕ → Cell → Bool
cell_fits code pc c = roomy c.shape.values c.shape.bodies c.shape.loops c.shape.catches && fits code pc c.shape.values c.shape.bodies c.shape.loops c.shape.catches c.instr

-- the cells from a place on
abbrev pub all_fit : List Cell → ℕ → List Cell → Bool
all_fit code pc [] = true
all_fit code pc (c ∷ rest) = cell_fits code pc c && all_fit code (pc + 1) rest

-- a whole code
abbrev pub code_fits : List Cell → Bool
code_fits code = carries code 0 0 0 0 [] && all_fit code 0 code
