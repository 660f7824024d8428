use Rattle.std.proofs.Common.{◌∙◌}
use Rattle.pages_talk.proofs.editing.tell_editor.Goals as goal

pub returns-clause-sent : goal.returns-clause-sent
returns-clause-sent g c = rw (c.told_status.ensures, c.deref.ensures.value ∙ c.in_ok-lines.ensures) at c.tell_plain.ensures.sent
