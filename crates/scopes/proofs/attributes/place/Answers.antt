use Rattle.std.proofs.Common.{rules}
use Rattle.std.specs.Cmp.Lexicographic.{slice_cmp}
use Rattle.std.specs.Ordering.{nat_cmp}
use Rattle.std.proofs.lemmas.Fn.{always_returns_same}
use Rattle.pg_value.proofs.Halving.{searched}
use Rattle.scopes.proofs.attributes.place.Goals as goal

pub returns : goal.returns
returns c =
    let facts = c.binary_search_by.ensures in
    let by_key = facts.position (λ e. slice_cmp nat_cmp e.0 c.args.key.now) (always_returns_same _ _ _ (λ a r f' k. search rules)) in
    searched c.args.key.now c.args.entries.now c.binary_search_by.result c.requires facts.bound by_key
