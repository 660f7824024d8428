use Rattle.std.proofs.Common.{rules}
use Rattle.std.proofs.lemmas.Fn.{always_returns_same}
use Rattle.pg_text.specs.Order.{path_cmp}
use Rattle.pg_text.proofs.PlaceLemmas.{placed}
use Rattle.dep_graph.specs.Deps.{itself}
use Rattle.dep_graph.proofs.PlaceOfUsers.{rising_names}
use Rattle.dep_graph.proofs.index.user_place.Goals as goal

pub returns : goal.returns
returns c =
    let found = c.binary_search_by.ensures in
    let by_path = found.position (λ user. path_cmp user c.args.path.now) (always_returns_same _ _ _ (λ user r f called. search rules)) in
    placed itself c.args.path.now c.args.users.now (rising_names c.args.users.now c.requires) c.binary_search_by.result found.bound by_path
