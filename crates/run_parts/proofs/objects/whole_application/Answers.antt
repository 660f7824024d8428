use Rattle.run_world.proofs.Exits.{err_as}
use Rattle.run_parts.proofs.ObjectLemmas.{whole_doing, whole_failed}
use Rattle.run_parts.proofs.objects.whole_application.Goals as goal

pub returns-in_err-reply-clause-does : goal.returns-in_err-reply-clause-does
returns-in_err-reply-clause-does g c =
    err_as c.from_residual.result c.in_err-reply.field-0.0 c.from_residual.ensures.1 (whole_failed c.args.world.now c.ask.new.self c.in_err-reply.field-0.0 c.in_err-reply.ensures.does)

pub returns-clause-does : goal.returns-clause-does
returns-clause-does g c = whole_doing c.args.world.now c.ask.new.self c.in_ok-reply.reply c.whole.result c.in_ok-reply.ensures.does c.whole.ensures
