use Rattle.std.proofs.Common.{arith}
use Rattle.site_state.proofs.Digits.{hex_ends, hex_goes}
use Rattle.site_state.proofs.ids.+is_hex.Goals as goal

pub returns-then-last-hex_digit : goal.returns-then-last-hex_digit
returns-then-last-hex_digit t c = hex_ends c.args.count c.args.number c.in-Some.last.now c.hex_digit.result c.in-Some.front.now c.args.bytes.now (omega arith) c.in-Some.ensures.cases.0 c.hex_digit.ensures.digit c.if-last-hex_digit.true

pub returns : goal.returns
returns t c = hex_goes c.args.count c.args.number c.in-Some.last.now c.hex_digit.result c.in-Some.front.now c.args.bytes.now c.is_hex.result (omega arith) c.in-Some.ensures.cases.0 c.hex_digit.ensures.digit c.if-last-hex_digit.false c.is_hex.ensures
