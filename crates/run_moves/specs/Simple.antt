-- Instructions that call nothing.
use Rattle.std.specs.Prelude.{⊤}
use Rattle.page_code.specs.declared.instr.Instr.{Instr}
use Rattle.page_code.specs.declared.instr.Instr.TheVariants as instr

-- an instruction that calls nothing
abbrev pub IsSimple : Instr → Type 0
IsSimple (instr.CallOut what) = ⊥
IsSimple other = ⊤
