use Rattle.run_moves.specs.Opened.{open_of}
use Rattle.run_moves.proofs.Landings.{failing_as, failing_short}
use Rattle.run_moves.proofs.landing.fail_at.Goals as goal
use Rattle.pg_text.specs.declared.failure.Failure.TheVariants as failure

pub returns-in-Fault-clause-acted : goal.returns-in-Fault-clause-acted
returns-in-Fault-clause-acted g c =
    failing_as c.args.place.now (open_of c.args.opened.now) c.args.failed (failure.Fault c.in-Fault.fault) c.args.world.now c.throw_at.new.world (open_of c.throw_at.new.opened) c.throw_at.result c.in-Fault.is
    c.throw_at.ensures.acted

pub returns-in-NoMemory-clause-acted : goal.returns-in-NoMemory-clause-acted
returns-in-NoMemory-clause-acted g c = failing_short c.args.place.now (open_of c.args.opened.now) c.args.failed c.args.world.now (open_of c.args.opened.now) c.in-NoMemory.is
