use Rattle.std.proofs.Common.{◌≡◌, drop, filter, map}
use Rattle.run_parts.proofs.call_frame.declared_values.Given as goal
use Rattle.page_meaning.specs.Tags.{is_declared}
use Rattle.pg_value.specs.Attrs.{of_entries, with_entries}
use Rattle.pg_value.specs.Value.{entry_of}

abbrev pub invariant-loop-name : goal.invariant-loop-name
invariant-loop-name l = with_entries l.entries (filter (is_declared l.decl) (map entry_of (drop l.name-index l.table))) ≡ of_entries (filter (is_declared l.decl) (map entry_of l.table))
