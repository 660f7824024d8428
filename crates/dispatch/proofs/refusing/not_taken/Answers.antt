use Rattle.dispatch.proofs.RefusedLemmas.{other_served}
use Rattle.dispatch.proofs.refusing.not_taken.Goals as goal

pub returns-clause-served : goal.returns-clause-served
returns-clause-served g c = λ needs x pass at.
    other_served needs x pass c.args.request.now c.args.close at _ _ _ _ c.tell.result c.requires.other c.tell.ensures.told
