use Rattle.std.proofs.Common.{◌≡◌, length, map}
use Rattle.run_values.specs.NameLists.{appended, lists_by_name}
use Rattle.run_values.proofs.name_lists.lists_by_name.Given as goal
use Rattle.pg_value.specs.Attrs.{AreInOrder}
use Rattle.pg_value.specs.Value.{entry_of}

abbrev pub invariant-loop-rest : goal.invariant-loop-rest
invariant-loop-rest l = record {
  order : AreInOrder l.lists;
  rest : appended l.lists (map entry_of l.rest) ≡ lists_by_name (map entry_of l.fn.entries.items);
}

abbrev pub decreases-loop-rest : goal.decreases-loop-rest
decreases-loop-rest l = length l.rest
