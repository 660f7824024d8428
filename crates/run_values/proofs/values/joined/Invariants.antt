use Rattle.std.proofs.Common.{◌≡◌, ◌++◌, drop, map, string_bytes}
use Rattle.run_values.proofs.values.joined.Given as goal
use Rattle.page_table.specs.Operations.{joined}
use Rattle.pg_value.specs.Value.{datum_of}

abbrev pub invariant-loop-text : goal.invariant-loop-text
invariant-loop-text l = string_bytes l.joined ++ joined (map datum_of (drop l.text-index l.texts)) ≡ joined (map datum_of l.texts)
