use Rattle.std.proofs.Common.{refl}
use Rattle.run_moves.proofs.QuickExits.{pushed_not, pushed_short, pushed_well}
use Rattle.run_moves.proofs.frequent.push_made.Goals as goal
use Rattle.pg_text.specs.declared.failure.Failure.TheVariants as failure

pub returns-in-Ok-push : goal.returns-in-Ok-push
returns-in-Ok-push c = pushed_well c.args.made c.in-Ok.value c.args.stack.now c.push.new.self c.in-Ok.is c.in-Ok-push.ensures.ok

pub returns-in-Err-push : goal.returns-in-Err-push
returns-in-Err-push c = pushed_short c.args.made c.in-Ok.value failure.NoMemory c.args.stack.now c.push.new.self c.in-Ok.is refl

pub returns-in-Err : goal.returns-in-Err
returns-in-Err c = pushed_not c.args.made c.in-Err.failed c.args.stack.now c.in-Err.is
