use Rattle.std.proofs.Common.{refl}
use Rattle.dispatch.proofs.replying.write_rest.Goals as goal

pub returns-in-Err-Fault-clause-wrote : goal.returns-in-Err-Fault-clause-wrote
returns-in-Err-Fault-clause-wrote g c = λ start before written stands.
    let finished = rw c.in-Err-Fault.field-0-is at (c.in-Err-Fault.ensures.finished start before written stands) in
    (finished.sent, finished.cause refl)

pub returns-in-Err-NoMemory-clause-wrote : goal.returns-in-Err-NoMemory-clause-wrote
returns-in-Err-NoMemory-clause-wrote g c = λ start before written stands. rw c.in-Err-NoMemory.field-0-is at (c.in-Err-NoMemory.ensures.finished start before written stands)
