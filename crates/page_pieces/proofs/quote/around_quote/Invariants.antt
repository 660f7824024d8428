use Rattle.std.proofs.Common.{◌≡◌, take, drop, false}
use Rattle.page_pieces.specs.ReadValue.{around_quote}
use Rattle.page_pieces.proofs.AttributeValues.QuoteLoop.{further_by}
use Rattle.page_pieces.proofs.quote.around_quote.Given as goal

abbrev pub invariant-loop-i : goal.invariant-loop-i
invariant-loop-i l = further_by (take l.i l.text) (around_quote l.quote l.escaped (drop l.i l.text)) ≡ around_quote l.quote false l.text
