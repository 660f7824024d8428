use Rattle.std.proofs.Common.{arith, rules}
use Rattle.run_parts.proofs.OwnParams.{again_or_not, first_again}
use Rattle.run_parts.proofs.param_records.come_into_blocks.Goals as goal
use Rattle.pg_value.specs.Value.{datum_of}

pub returns : goal.returns
returns c =
    again_or_not c.insert.result c.args.made.now c.insert.new.self _ c.insert.ensures.ok c.insert.ensures.err
    (first_again c.args.made.now c.entries_from-list.result.now c.index-list-0.result c.index-list-0.result c.in_ok-name.name (datum_of c.in_ok-value.value) c.entries_from-list.ensures.same
    (omega (arith, c.if-list-le-MANY.false)) c.index-list-0.is c.index-list-0.is c.in_ok-name.ensures (search rules))
