use Rattle.std.proofs.Common.{rules}
use Rattle.pg_value.proofs.Gathered.{first_gathered, more_gathered}
use Rattle.pg_value.proofs.attrs.gathered.Goals as goal

pub loop-key-init : goal.loop-key-init
loop-key-init c =
    let first = first_gathered c.args.entries.items c.in_ok-made.made.items c.into_iter-key-iterator.result.rest.items (search rules) (search rules) in
    record { order = first.0; rest = first.1 }

pub loop-key-preserved : goal.loop-key-preserved
loop-key-preserved c =
    let more = more_gathered c.loop-key.made.items c.put.new.entries.items c.loop-key.key-iterator.rest.items c.next.new.self.rest.items (c.in-Some.key, c.in-Some.value) _ (search rules) c.in_ok-put.ensures.ok c.loop-key.invariant.order c.loop-key.invariant.rest in
    record { order = more.0; rest = more.1 }
