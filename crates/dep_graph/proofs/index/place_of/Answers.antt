use Rattle.std.proofs.Common.{rules}
use Rattle.std.proofs.lemmas.Fn.{always_returns_same}
use Rattle.pg_text.specs.Order.{path_cmp}
use Rattle.pg_text.proofs.PlaceLemmas.{placed}
use Rattle.dep_graph.specs.Deps.{name_of}
use Rattle.dep_graph.proofs.index.place_of.Goals as goal

pub returns : goal.returns
returns c =
    let found = c.binary_search_by.ensures in
    let by_path = found.position (λ item. path_cmp (name_of item) c.args.name.now) (always_returns_same _ _ _ (λ item r f called. search rules)) in
    placed name_of c.args.name.now c.args.index.now c.requires c.binary_search_by.result found.bound by_path
