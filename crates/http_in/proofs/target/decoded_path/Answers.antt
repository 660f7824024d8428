use Rattle.std.proofs.Common.{◌≡◌, subst, sym, ◌∙◌}
use Rattle.percent_encoding.specs.Percent.{percent_decode}
use Rattle.http_in.proofs.Escapes.{plain_stays}
use Rattle.http_in.proofs.target.decoded_path.Goals as goal

pub returns-then-not-contains : goal.returns-then-not-contains
returns-then-not-contains c =
    let plain = plain_stays c.as_bytes.result.now (sym c.contains.ensures.value ∙ c.if-not-contains.true) in
    rw (subst (λ bytes. percent_decode bytes ≡ bytes) c.as_bytes.ensures.value plain) c.path_at.ensures
