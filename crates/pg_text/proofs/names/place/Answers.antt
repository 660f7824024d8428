use Rattle.std.proofs.Common.{rules, ◌∙◌, ap}
use Rattle.std.specs.Cmp.Lexicographic.{slice_cmp}
use Rattle.std.specs.Ordering.{nat_cmp}
use Rattle.std.proofs.lemmas.Fn.{always_returns_same}
use Rattle.std.proofs.lemmas.List.{map-id}
use Rattle.pg_text.specs.Names.{place_in}
use Rattle.pg_text.proofs.Halving.{searched}
use Rattle.pg_text.proofs.names.place.Goals as goal

pub returns : goal.returns
returns c =
    let facts = c.binary_search_by.ensures in
    let by_name = facts.position (λ path. slice_cmp nat_cmp path c.args.path.now) (always_returns_same _ _ _ (λ a r f' k. search rules)) in
    let paths = c.args.paths.now in
    searched (λ path. path) c.args.path.now c.args.path.now paths _ (rw (map-id paths) c.requires) facts.bound by_name ∙ ap (place_in c.args.path.now) (map-id paths)
