use Rattle.std.proofs.Common.{◌∙◌, ap, ◌*◌, ◌^◌, ◌%◌}
use Rattle.page_directives.specs.Faults.{at_bits}
use Rattle.page_directives.proofs.FaultLemmas.{at_one}
use Rattle.page_directives.proofs.faults.Faults.one.Goals as goal

pub returns : goal.returns
returns c = ap (λ n. at_bits (1 * 2 ^ n % 4294967296)) c.number.ensures ∙ at_one c.args.fault
