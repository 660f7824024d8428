use Rattle.editor.proofs.TakingLemmas.{unread}
use Rattle.editor.proofs.taking.take.Goals as goal

pub returns-in-Err-clause-taken : goal.returns-in-Err-clause-taken
returns-in-Err-clause-taken g c = unread _ _ _ _ _ _ _ c.law.ensures.legal c.in-Err.ensures
