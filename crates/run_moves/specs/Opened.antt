-- What stands open in a running code, in the words of the table.
use Rattle.std.specs.Prelude.{map}
use Rattle.run_moves.specs.declared.open.Open as machine_open
use Rattle.run_moves.specs.declared.open.OpenCatch as machine_catch
use Rattle.page_table.specs.Open.{OpenCatch, Open}

-- an open catch
abbrev pub catch_of : machine_catch.OpenCatch → OpenCatch
catch_of c = record { to = c.to; values = c.values; bodies = c.bodies; loops = c.loops }

-- all that stands open
abbrev pub open_of : machine_open.Open → Open
open_of o = record { left = o.left; stack = o.stack; loops = o.loops; catches = map catch_of o.catches }
