use Rattle.std.proofs.Common.{sym}
use Rattle.compiled_pages.specs.Pages.{needs_at}
use Rattle.journal_audit.proofs.Judges.{never_opens}
use Rattle.journal_audit.proofs.judging.may_open.Goals as goal

pub returns-then-not-sound-clause-right : goal.returns-then-not-sound-clause-right
returns-then-not-sound-clause-right c = λ last goes. never_opens needs_at last c.args.opening.now (sym c.if-not-sound.ensures)
