use Rattle.site_state.proofs.Digits.{hex_read}
use Rattle.site_state.proofs.ids.+read_hex.Goals as goal

pub returns : goal.returns
returns t c number small below digits =
    hex_read number c.in-Some.last.now c.read_hex.result c.hex_value.result c.in-Some.front.now c.args.digits.now small below digits c.in-Some.ensures.cases.0 c.read_hex.ensures c.hex_value.ensures
