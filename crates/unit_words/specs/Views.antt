-- What the unit of the program is, without where it lies in memory.
use Rattle.std.specs.Prelude.{map}
use Rattle.unit_nodes.specs.declared.unit.Unit.{Unit as UnitMade}
use Rattle.unit_nodes.specs.Views.{body_view}
use Rattle.unit_words.specs.Unit.{Unit}

-- a unit with the names of its dependencies, without their stamps
abbrev pub unit_view : UnitMade → Unit
unit_view unit = record { deps = map (λ need. need.name) unit.deps; body = body_view unit.body }
