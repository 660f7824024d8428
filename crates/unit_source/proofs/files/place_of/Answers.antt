use Rattle.std.proofs.Common.{rules}
use Rattle.std.proofs.lemmas.Fn.{always_returns_same}
use Rattle.pg_text.specs.Order.{path_cmp}
use Rattle.pg_text.proofs.PlaceLemmas.{placed}
use Rattle.unit_source.specs.ReadFiles.{source_path}
use Rattle.unit_source.proofs.files.place_of.Goals as goal

-- the closure compares a file's path with the path
pub returns : goal.returns
returns c =
    let found = c.binary_search_by.ensures in
    let by_path = found.position (λ file. path_cmp file.path c.args.path.now) (always_returns_same _ _ _ (λ file r f called. search rules)) in
    placed source_path c.args.path.now c.args.files.now c.requires c.binary_search_by.result found.bound by_path
