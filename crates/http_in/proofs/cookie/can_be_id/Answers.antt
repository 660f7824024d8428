use Rattle.std.proofs.Common.{◌||◌, rules, tests}
use Rattle.std.specs.Int.{is_in_range}
use Rattle.std.proofs.lemmas.Iterator.{YieldsList-from_slice}
use Rattle.std.proofs.lemmas.Iterator.Search.{all_from_yields_List}
use Rattle.http_in.proofs.cookie.can_be_id.Goals as goal

pub returns-then-value-eq-SESSION_ID_BYTES : goal.returns-then-value-eq-SESSION_ID_BYTES
returns-then-value-eq-SESSION_ID_BYTES c =
    let all = all_from_yields_List (λ b. is_in_range 48 57 b || is_in_range 97 102 b) _ _ c.all.result c.all.ensures.ran (YieldsList-from_slice c.args.value.now cc) (λ x b q k. search (rules, tests)) in
    rw c.if-value-eq-SESSION_ID_BYTES.true all
