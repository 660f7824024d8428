use Rattle.std.proofs.Common.{ap}
use Rattle.std.specs.Prelude.{◌==◌}
use Rattle.std.specs.Int.{bit_at}
use Rattle.page_directives.proofs.faults.has_bit.Goals as goal

pub returns : goal.returns
returns c = ap (λ n. bit_at c.args.bits n == 1) c.number.ensures
