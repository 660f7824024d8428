use Rattle.std.proofs.Common.{refl}
use Rattle.compiled_pages.specs.Pages.{needs_at}
use Rattle.journal_audit.proofs.Judges.{judged_if, wrong_opening}
use Rattle.journal_audit.specs.Judge.{seen}
use Rattle.journal_audit.proofs.judging.judge.Goals as goal

pub returns-then-not-may_open : goal.returns-then-not-may_open
returns-then-not-may_open c = λ last goes. wrong_opening needs_at last (seen c.args.journal) _ refl (c.if-not-may_open.ensures.right last goes)

pub returns : goal.returns
returns c = λ last goes. judged_if needs_at last (seen c.args.journal) c.judge_opened.result ((c.if-not-may_open.ensures.right last goes).0 refl) c.judge_opened.ensures
