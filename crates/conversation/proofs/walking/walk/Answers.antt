use Rattle.std.proofs.Common.{◌+◌, refl, arith}
use Rattle.edges.proofs.ToldBytes.{appends_none}
use Rattle.conversation.proofs.WalkLemmas.{begins, broken_stops, close_stops, goes_on, input_ends, refused, rose_earlier, starved_between, starved_by, stopped, unwritten}
use Rattle.conversation.proofs.walking.walk.Goals as goal

pub returns-in-Ok-None-clause-talk : goal.returns-in-Ok-None-clause-talk
returns-in-Ok-None-clause-talk g c =
    let end = rw c.in-Ok-None.field-0-is at c.in-Ok-None.ensures.answer in
    search (input_ends, c.requests.invariant.so_far, end.0, end.1, end.2)

pub returns-in-Err-NoMemory-clause-talk : goal.returns-in-Err-NoMemory-clause-talk
returns-in-Err-NoMemory-clause-talk g c =
    let moved = rw c.in-Err-NoMemory.field-0-is at c.in-Err-NoMemory.ensures.answer in
    search (starved_between, c.requests.invariant.so_far, moved, appends_none)

pub returns-in-Err-Fault-clause-talk : goal.returns-in-Err-Fault-clause-talk
returns-in-Err-Fault-clause-talk g c =
    let seen = rw c.in-Err-Fault.field-0-is at c.in-Err-Fault.ensures.answer in
    let on = (rw c.in-Err-Fault.field-0-is at c.in-Err-Fault.ensures.ahead) c.requests.invariant.read_on in
    search (refused, c.requests.invariant.so_far, seen, on, c.refuse.ensures.ended)

pub returns-in-Broken-clause-talk : goal.returns-in-Broken-clause-talk
returns-in-Broken-clause-talk g c =
    let saw = rw c.in-Ok-Some.field-0-is at c.in-Ok-Some.ensures.answer in
    let on = (rw c.in-Ok-Some.field-0-is at c.in-Ok-Some.ensures.ahead) c.requests.invariant.read_on in
    let took = rw c.requests.invariant.world at c.in-Broken.ensures.served in
    search (stopped, c.requests.invariant.so_far, saw, on, took, c.closes-last.ensures.value, broken_stops)

pub returns-in-WriteFault-clause-talk : goal.returns-in-WriteFault-clause-talk
returns-in-WriteFault-clause-talk g c =
    let saw = rw c.in-Ok-Some.field-0-is at c.in-Ok-Some.ensures.answer in
    let took = rw c.requests.invariant.world at c.in-WriteFault.ensures.served in
    search (unwritten, c.requests.invariant.so_far, saw, took, c.closes-last.ensures.value)

pub returns-in-NoMemory-clause-talk : goal.returns-in-NoMemory-clause-talk
returns-in-NoMemory-clause-talk g c =
    let saw = rw c.in-Ok-Some.field-0-is at c.in-Ok-Some.ensures.answer in
    let took = rw c.requests.invariant.world at c.in-NoMemory.ensures.served in
    search (starved_by, c.requests.invariant.so_far, saw, took, c.closes-last.ensures.value, rose_earlier, c.requests.invariant.wrote)

pub returns-then-last-clause-talk : goal.returns-then-last-clause-talk
returns-then-last-clause-talk g c =
    let saw = rw c.in-Ok-Some.field-0-is at c.in-Ok-Some.ensures.answer in
    let on = (rw c.in-Ok-Some.field-0-is at c.in-Ok-Some.ensures.ahead) c.requests.invariant.read_on in
    let took = rw c.requests.invariant.world at c.in-Whole.ensures.served in
    search (stopped, c.requests.invariant.so_far, saw, on, took, c.closes-last.ensures.value, close_stops, c.if-last.true)

pub requests-preserved : goal.requests-preserved
requests-preserved g c =
    let saw = rw c.in-Ok-Some.field-0-is at c.in-Ok-Some.ensures.answer in
    let took = rw c.requests.invariant.world at c.in-Whole.ensures.served in
    record {
      ready = c.serve.ensures.ready;
      world = rw (c.serve.ensures.world, c.requests.invariant.world) refl;
      so_far = search (goes_on, c.requests.invariant.so_far, saw, took, c.closes-last.ensures.value, c.if-last.false);
      read = omega arith;
      wrote = omega arith;
      number = c.if-last.ensures.more refl;
      read_on = (rw c.in-Ok-Some.field-0-is at c.in-Ok-Some.ensures.ahead) c.requests.invariant.read_on;
      unfailing = λ sure. (c.in-Ok-Some.ensures.unfailing (c.requests.invariant.unfailing sure)).1;
    }

pub requests-init : goal.requests-init
requests-init g c = record {
  ready = c.requires.ready;
  world = refl;
  so_far = rw c.new-rest.ensures (search begins);
  read = omega arith;
  wrote = omega arith;
  number = omega arith;
  read_on = rw c.new-rest.ensures (omega arith);
  unfailing = λ sure. sure;
}

pub returns-in-Ok-None-clause-ready : goal.returns-in-Ok-None-clause-ready
returns-in-Ok-None-clause-ready g c = (c.requests.number, omega (arith, c.requests.invariant.number), c.requests.invariant.ready)

pub returns-in-Err-NoMemory-clause-ready : goal.returns-in-Err-NoMemory-clause-ready
returns-in-Err-NoMemory-clause-ready g c = (c.requests.number, omega (arith, c.requests.invariant.number), c.requests.invariant.ready)

pub returns-in-Err-Fault-clause-ready : goal.returns-in-Err-Fault-clause-ready
returns-in-Err-Fault-clause-ready g c = (c.requests.number, omega (arith, c.requests.invariant.number), c.requests.invariant.ready)

pub returns-in-Broken-clause-ready : goal.returns-in-Broken-clause-ready
returns-in-Broken-clause-ready g c = (c.requests.number + 1, omega (arith, c.requests.invariant.number), c.serve.ensures.ready)

pub returns-in-WriteFault-clause-ready : goal.returns-in-WriteFault-clause-ready
returns-in-WriteFault-clause-ready g c = (c.requests.number + 1, omega (arith, c.requests.invariant.number), c.serve.ensures.ready)

pub returns-in-NoMemory-clause-ready : goal.returns-in-NoMemory-clause-ready
returns-in-NoMemory-clause-ready g c = (c.requests.number + 1, omega (arith, c.requests.invariant.number), c.serve.ensures.ready)

pub returns-then-last-clause-ready : goal.returns-then-last-clause-ready
returns-then-last-clause-ready g c = (c.requests.number + 1, omega (arith, c.requests.invariant.number), c.serve.ensures.ready)
