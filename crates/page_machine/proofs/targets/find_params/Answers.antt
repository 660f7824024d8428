use Rattle.std.proofs.Common.{◌≡◌, length, false, arith}
use Rattle.std.specs.Prelude.{is_some}
use Rattle.http_in.specs.Target.{query_of}
use Rattle.page_machine.proofs.OwnParams.{same_params}
use Rattle.page_machine.proofs.targets.find_params.Goals as goal

pub returns-then-not-has_query : goal.returns-then-not-has_query
returns-then-not-has_query c run =
    let empty : length c.args.given.now ≡ 0 = grind (arith, c.is_empty.ensures, c.if-is_empty.true) in
    let none : is_some (query_of c.args.address.now) ≡ false = grind (arith, c.has_query.ensures, c.if-not-has_query.true) in
    same_params run c.args.address.now c.args.given.now none empty
