use Rattle.std.proofs.Common.{rules}
use Rattle.std.proofs.lemmas.Fn.{filter_same}
use Rattle.program_store.proofs.store.clear.Goals as goal

pub returns-else-len : goal.returns-else-len
returns-else-len g c = filter_same _ _ _ (λ x b f' k. search rules) _ _ c.retain.ensures.filtered
