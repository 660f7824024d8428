use Rattle.std.proofs.Common.{◌<◌, length, IfSome}
use Rattle.pg_value.proofs.measures.heaviest_entry.Given as goal

abbrev pub invariant-loop-place : goal.invariant-loop-place
invariant-loop-place l = IfSome l.heaviest (λ place. place < length l.entries)
