use Rattle.std.proofs.Common.{◌≡◌}
use Rattle.turn_table.specs.Passes.{IsPassOf}
use Rattle.turn_table_tests.proofs.tests.add_ones.Given as goal

abbrev pub invariant-loop : goal.invariant-loop
invariant-loop g l = record {
  from : IsPassOf l.turns l.pass;
  number : l.pass.number ≡ l.fn.pass.number;
}
