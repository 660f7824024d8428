use Rattle.std.proofs.Common.{sym, subst}
use Rattle.pg_value.specs.Attrs.{AreInOrder}
use Rattle.pg_value.proofs.Order.{AreInOrder-put, AreInOrder-with_entry}
use Rattle.pg_value.proofs.attrs.Attrs.set.Goals as goal

pub invariant_of-self : goal.invariant_of-self
invariant_of-self c = subst AreInOrder (sym c.replace.ensures) (AreInOrder-with_entry _ _ _ c.self.invariant)

pub invariant_of-self-in_ok-put-in-Err : goal.invariant_of-self-in_ok-put-in-Err
invariant_of-self-in_ok-put-in-Err c = AreInOrder-put c.put.result c.self.inside.entries.items c.put.new.entries.items _ _ c.put.ensures.ok c.put.ensures.err c.self.invariant
