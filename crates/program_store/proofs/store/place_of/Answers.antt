use Rattle.std.proofs.Common.{rules}
use Rattle.std.proofs.lemmas.Fn.{always_returns_same}
use Rattle.pg_text.specs.Order.{path_cmp}
use Rattle.pg_text.proofs.PlaceLemmas.{placed}
use Rattle.program_store.specs.Store.{shelf_path}
use Rattle.program_store.proofs.store.place_of.Goals as goal

pub returns : goal.returns
returns g c =
    let found = c.binary_search_by.ensures in
    let by_path = found.position (λ item. path_cmp (shelf_path item) c.args.path.now) (always_returns_same _ _ _ (λ item r f called. search rules)) in
    placed shelf_path c.args.path.now c.args.shelves.now c.requires c.binary_search_by.result found.bound by_path
