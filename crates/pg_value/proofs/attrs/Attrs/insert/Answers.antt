use Rattle.std.proofs.Common.{map}
use Rattle.pg_value.specs.Value.{entry_of}
use Rattle.pg_value.proofs.Lookups.{others_put}
use Rattle.pg_value.proofs.Order.{AreInOrder-put}
use Rattle.pg_value.proofs.attrs.Attrs.insert.Goals as goal

pub invariant_of-self : goal.invariant_of-self
invariant_of-self c = AreInOrder-put c.put.result c.self.inside.entries.items c.put.new.entries.items _ _ c.put.ensures.ok c.put.ensures.err c.self.invariant

pub returns-clause-others : goal.returns-clause-others
returns-clause-others c =
    others_put c.put.result c.args.self.now (map entry_of c.self.inside.entries.items) (map entry_of c.put.new.entries.items) _ _ c.put.ensures.ok c.self.view_is
