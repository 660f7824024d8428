use Rattle.journal_reader.proofs.FrameLemmas.{list_filled, record_filled}
use Rattle.journal_reader.proofs.frames.filled.Goals as goal

pub returns-in_ok-push-in-Items : goal.returns-in_ok-push-in-Items
returns-in_ok-push-in-Items g c = list_filled c.args.value c.list_step.result c.in-Items.done c.push.new.self c.in-Items.left c.in-Items.is c.in_ok-push-in-Items.ensures.ok c.list_step.ensures.ok c.list_step.ensures.err

pub returns-in_ok-push-in-Entries : goal.returns-in_ok-push-in-Entries
returns-in_ok-push-in-Entries g c =
    record_filled c.args.value c.record_step.result c.in-Entries.done c.push-in-Entries.new.self c.in-Entries.key c.in-Entries.left c.in-Entries.is c.in_ok-push-in-Entries.ensures.ok c.record_step.ensures
