use Rattle.run_world.proofs.Exits.{err_as}
use Rattle.run_parts.proofs.ObjectLemmas.{entered_failed, entered_unmade, entered_well}
use Rattle.run_parts.proofs.objects.application_entry.Goals as goal

pub returns-in_err-key-clause-does : goal.returns-in_err-key-clause-does
returns-in_err-key-clause-does g c =
    err_as c.from_residual.result c.in_err-key.field-0.0 c.from_residual.ensures.1 (entered_unmade c.args.world.now c.args.name c.in_err-key.field-0.0 c.in_err-key.ensures.answer)

pub returns-in_err-reply-clause-does : goal.returns-in_err-reply-clause-does
returns-in_err-reply-clause-does g c =
    err_as c.from_residual-in_err-reply.result c.in_err-reply.field-0.0 c.from_residual-in_err-reply.ensures.1
    (entered_failed c.args.world.now c.ask.new.self c.args.name c.in_ok-key.key c.in_err-reply.field-0.0 c.in_ok-key.ensures.answer c.in_err-reply.ensures.does)

pub returns-clause-does : goal.returns-clause-does
returns-clause-does g c =
    entered_well c.args.world.now c.ask.new.self c.args.name c.in_ok-key.key c.in_ok-reply.reply c.told_value.result c.in_ok-key.ensures.answer c.told_value.ensures c.in_ok-reply.ensures.does
