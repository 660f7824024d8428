use Rattle.context_desk.proofs.nowhere.find_nothing.Goals as goal

pub returns-clause-told : goal.returns-clause-told
returns-clause-told g c = c.tell.ensures.told
