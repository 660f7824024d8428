use Rattle.std.proofs.Common.{sym, ◌∙◌}
use Rattle.page_pieces.proofs.AttributeValues.QuoteLoop.{quote_cut}
use Rattle.page_pieces.proofs.quote.around_quote.Goals as goal

pub split_at-requires-then-ends_value : goal.split_at-requires-then-ends_value
split_at-requires-then-ends_value c =
    quote_cut c.args.text.now c.as_bytes-b-items.result.now c.loop-i.i c.args.quote c.loop-i.escaped c.utf8.text c.as_bytes-b-items.ensures.value c.loop-i-test.true c.requires (sym c.ends_value.ensures ∙ c.if-ends_value.true)
