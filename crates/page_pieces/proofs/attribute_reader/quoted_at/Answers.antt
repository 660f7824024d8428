use Rattle.std.proofs.Common.{sym, ap, ◌∙◌}
use Rattle.std.specs.List.{slice_get}
use Rattle.page_pieces.proofs.Heads.AttributeNames.{quote_cut}
use Rattle.page_pieces.proofs.attribute_reader.quoted_at.Goals as goal

pub split_at-requires : goal.split_at-requires
split_at-requires c =
    let text = c.as_bytes.ensures.value in
    quote_cut c.args.text.now c.in-Some.quote.now c.utf8.text (c.in-Some.ensures.value ∙ ap (λ t. slice_get t 0) text) (sym c.is_quote.ensures ∙ c.if-not-is_quote.false)
