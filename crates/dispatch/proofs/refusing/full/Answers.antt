use Rattle.std.proofs.Common.{◌∙◌, refl}
use Rattle.conversation.specs.declared.desk.Outcome.TheVariants.{NoMemory}
use Rattle.dispatch.proofs.RefusedLemmas.{full_by, full_served}
use Rattle.dispatch.proofs.refusing.full.Goals as goal

pub returns-in_default-clause-served : goal.returns-in_default-clause-served
returns-in_default-clause-served g c = λ needs x pass old new away.
    let by = full_by c.args.refusal.now c.requires.full in
    full_served needs x pass c.args.request.now c.args.close c.args.refusal.now old new away c.requires.taken by.weight by.promised by.is _ _ _ _ _ NoMemory refl refl

pub returns-clause-served : goal.returns-clause-served
returns-clause-served g c = λ needs x pass old new away.
    let by = full_by c.args.refusal.now c.requires.full in
    let line = c.deref.ensures.value ∙ c.in-Ok.ensures.line by.weight by.promised by.is in
    full_served needs x pass c.args.request.now c.args.close c.args.refusal.now old new away c.requires.taken by.weight by.promised by.is _ _ _ _ c.deref.result.now c.tell.result line c.tell.ensures.told
