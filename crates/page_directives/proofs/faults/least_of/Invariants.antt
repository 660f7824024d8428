use Rattle.std.proofs.Common.{◌≡◌, drop}
use Rattle.std.specs.Prelude.{◌==◌}
use Rattle.std.specs.Int.{bit_at}
use Rattle.std.specs.List.{find}
use Rattle.pg_text.specs.Faults.{number_of}
use Rattle.page_directives.proofs.faults.least_of.Given as goal

abbrev pub invariant-loop-fault : goal.invariant-loop-fault
invariant-loop-fault l = find (λ fault. bit_at l.bits (number_of fault) == 1) (drop l.fault-index l.faults) ≡ find (λ fault. bit_at l.bits (number_of fault) == 1) l.faults
