use Rattle.std.proofs.Common.{◌≡◌, ◌<◌, length, get_or, sym, ap, ◌∙◌, arith}
use Rattle.std.proofs.lemmas.Str.{IsCharBoundary-after_ascii}
use Rattle.page_pieces.proofs.expression.around_brace.Goals as goal

pub split_at-requires-2 : goal.split_at-requires-2
split_at-requires-2 c =
    let text = c.args.text.now in
    let at = c.in_ok-at.at in
    let within : at < length text = omega (arith, c.in_ok-at.ensures.brace.0, ap length c.as_bytes.ensures.value) in
    let brace : get_or text at 0 ≡ 125 = ap (λ t. get_or t at 0) (sym c.as_bytes.ensures.value) ∙ c.in_ok-at.ensures.brace.1 in
    IsCharBoundary-after_ascii text at c.utf8.text within (omega arith)
