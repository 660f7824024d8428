use Rattle.std.proofs.Common.{sym, ap, ◌∙◌}
use Rattle.std.specs.Str.{bytes_eq}
use Rattle.site_words.specs.Ids.{hex_digits}
use Rattle.site_state.proofs.Spelling.{not_spelled, spelled_here}
use Rattle.site_state.proofs.ids.+is_spelled.Goals as goal

pub returns-then-not-is_hex : goal.returns-then-not-is_hex
returns-then-not-is_hex t c =
    let cut = c.in-Some-split_last_chunk.ensures.cases in
    let digits = c.in-Some-split_last_chunk.digits.now in
    not_spelled c.args.number c.in-Some.last.now c.args.words.now c.in-Some.words.now c.args.bytes.now c.in-Some-split_last_chunk.front.now digits c.in-Some.ensures.cases.0 cut.0 cut.1 cut.2
    (sym (c.is_hex-2.ensures ∙ ap (λ n. bytes_eq (hex_digits 8 n) digits) c.from.ensures) ∙ c.if-not-is_hex.true)

pub returns : goal.returns
returns t c =
    let cut = c.in-Some-split_last_chunk.ensures.cases in
    let digits = c.in-Some-split_last_chunk.digits.now in
    spelled_here c.args.number c.in-Some.last.now c.args.words.now c.in-Some.words.now c.args.bytes.now c.in-Some-split_last_chunk.front.now digits c.is_spelled.result c.in-Some.ensures.cases.0 cut.0 cut.1 cut.2
    (sym (c.is_hex-2.ensures ∙ ap (λ n. bytes_eq (hex_digits 8 n) digits) c.from.ensures) ∙ c.if-not-is_hex.false) c.is_spelled.ensures
