use Rattle.pg_text.proofs.NameOrder.{none_in_order}
use Rattle.pg_text.proofs.names.Names.empty.Goals as goal

pub invariant_of-result : goal.invariant_of-result
invariant_of-result c = rw c.new.ensures.items none_in_order
