use Rattle.std.proofs.Common.{◌∙◌, not, ap}
use Rattle.dep_graph.proofs.TogetherLemmas.{used_is}
use Rattle.dep_graph.proofs.index.is_used.Goals as goal

pub returns : goal.returns
returns c = ap not c.is_empty.ensures ∙ used_is c.args.named.now.users
