use Rattle.std.proofs.Common.{arith}
use Rattle.connection_list.proofs.Lists.{first_is, none_is}
use Rattle.pages_record.proofs.Chain.{all_recorded, at_start, ends, further, rose_in}
use Rattle.pages_record.proofs.recording.record_all.Goals as goal

pub connections-init : goal.connections-init
connections-init g c = record {
  so_far = at_start c.args.site.opening c.args.input.now (g.K.Sink.taken c.args.sink.now) c.args.steps.now;
  one = c.requires.one;
  at_start = c.requires.new;
  later = omega arith;
}

pub connections-preserved : goal.connections-preserved
connections-preserved g c =
    let first = first_is _ _ _ _ c.first_connection.ensures.split c.in-Some.is in
    let on = c.in-Ok.ensures.comes in
    record {
      so_far = further _ _ _ _ _ _ _ _ _ _ _ _ c.in-Ok.after c.connections.invariant.so_far first on;
      one = on.one;
      at_start = on.at_start;
      later = omega (arith, c.connections.invariant.later, c.record_one.ensures.later);
    }

pub returns-in-Err-clause-comes : goal.returns-in-Err-clause-comes
returns-in-Err-clause-comes g c =
    let first = first_is _ _ _ _ c.first_connection.ensures.split c.in-Some.is in
    ends c.in-Err.fault _ _ _ _ _ _ _ _ _ _ _ _ _ _ c.connections.invariant.so_far first c.in-Err.ensures.comes

pub returns-in-Err-clause-write : goal.returns-in-Err-clause-write
returns-in-Err-clause-write g c = λ is. rose_in c.in-Err.fault _ _ _ _ _ _ _ _ _ c.connections.invariant.later is c.in-Err.ensures.comes

pub returns-clause-comes : goal.returns-clause-comes
returns-clause-comes g c = all_recorded _ _ _ _ _ _ _ _ c.connections.invariant.so_far (none_is _ _ _ c.first_connection.ensures.split c.in_default.is) c.requires.listed
