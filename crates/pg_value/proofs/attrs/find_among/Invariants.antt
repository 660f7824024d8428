use Rattle.std.proofs.Common.{◌≡◌, drop, map}
use Rattle.pg_value.specs.Attrs.{entry_at}
use Rattle.pg_value.specs.Value.{entry_of}
use Rattle.pg_value.proofs.attrs.find_among.Given as goal

abbrev pub invariant-loop-entry : goal.invariant-loop-entry
invariant-loop-entry l = entry_at l.key (map entry_of (drop l.entry-index l.entries)) ≡ entry_at l.key (map entry_of l.entries)
