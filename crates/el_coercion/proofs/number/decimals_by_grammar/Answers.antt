use Rattle.el_coercion.proofs.Decimals.{tells_decimals}
use Rattle.el_coercion.proofs.number.decimals_by_grammar.Goals as goal

pub returns : goal.returns
returns c = tells_decimals
