use Rattle.std.proofs.Common.{subst}
use Rattle.pg_value.specs.Attrs.{AreInOrder}
use Rattle.pg_value.proofs.BlockPlaces.{kept_order}
use Rattle.pg_value.proofs.record.Record.keys_rise.Goals as goal

pub returns : goal.returns
returns c = subst AreInOrder c.self.view_is (kept_order c.self.inside.entries.value c.self.invariant.0)
