use Rattle.std.proofs.Common.{◌≡◌, ◌-◌, drop, length}
use Rattle.run_values.proofs.properties.all_by_parameters.Given as goal
use Rattle.page_meaning.specs.Beans.{all_by_parameters}

abbrev pub invariant-loop-done : goal.invariant-loop-done
invariant-loop-done l = all_by_parameters l.params (drop l.done l.record) l.onto ≡ all_by_parameters l.params l.record l.record

abbrev pub decreases-loop-done : goal.decreases-loop-done
decreases-loop-done l = length l.record - l.done
