-- Bytes without escapes stand for themselves.
use Rattle.std.proofs.Common.{◌≡◌, ℕ, false, ◌==◌, List, [], ◌∷◌, ap, ◌∙◌}
use Rattle.std.specs.List.{list_any}
use Rattle.std.proofs.lemmas.Bool.{or_parts}
use borrow.Author.Tests.{eqb-false}
use Rattle.percent_encoding.specs.Percent.{percent_decode}
use Rattle.percent_encoding.proofs.PercentLemmas.{percent_decode-nil, percent_decode_not_percent}

-- where no byte is a percent sign, decoding changes nothing
pub plain_stays : (bytes : List ℕ) → list_any (λ b. b == 37) bytes ≡ false → percent_decode bytes ≡ bytes
plain_stays [] none = percent_decode-nil
plain_stays (b ∷ bytes) none =
    let parts = or_parts (b == 37) (list_any (λ c. c == 37) bytes) none in
    percent_decode_not_percent b bytes (eqb-false b 37 parts.0) ∙ ap (λ l. b ∷ l) (plain_stays bytes parts.1)
