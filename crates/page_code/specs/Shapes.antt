-- What stands open before an instruction, and how an instruction changes it.
use Rattle.std.specs.Prelude.{ℕ, ◌+◌, [], ◌∷◌}
use Rattle.pg_text.specs.declared.place.Place.{Place}
use Rattle.page_code.specs.declared.code.Cell.{Cell}
use Rattle.page_code.specs.declared.instr.Instr.{Instr}
use Rattle.page_code.specs.declared.shape.Level.{Level}
use Rattle.page_code.specs.declared.shape.Shape.{Shape}

-- an instruction at a place, with what stands open before it
abbrev pub cell : Shape → Place → Instr → Cell
cell sh place i = record { instr = i; place = place; shape = sh }

-- nothing stands open
abbrev pub empty_shape : Shape
empty_shape = record { values = 0; bodies = 0; loops = 0; catches = [] }

-- so many values more
abbrev pub up : ℕ → Shape → Shape
up n sh = record sh { values = sh.values + n }

-- one kept body more
abbrev pub keeping : Shape → Shape
keeping sh = record sh { bodies = sh.bodies + 1 }

-- one loop more
abbrev pub looping : Shape → Shape
looping sh = record sh { loops = sh.loops + 1 }

-- how much stands open, as a catch that begins here remembers it
abbrev pub level_of : Shape → Level
level_of sh = record { values = sh.values; bodies = sh.bodies; loops = sh.loops }

-- one catch more, which begins here
abbrev pub trying : Shape → Shape
trying sh = record sh { catches = level_of sh ∷ sh.catches }
