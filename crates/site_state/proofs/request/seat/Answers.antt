use Rattle.site_state.specs.Parts.{under_in}
use Rattle.site_state.proofs.Moving.{map_set}
use Rattle.site_state.proofs.request.seat.Goals as goal

pub returns : goal.returns
returns c = map_set under_in c.args.runs.now.items c.args.pass c.args.request
