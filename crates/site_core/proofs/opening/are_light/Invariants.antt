use Rattle.std.proofs.Common.{◌≡◌, drop, map, not}
use Rattle.std.specs.List.{list_all}
use Rattle.pg_value.specs.Limits.{is_over}
use Rattle.pg_value.specs.Value.{entry_of}
use Rattle.site_core.proofs.opening.are_light.Given as goal

abbrev pub invariant-loop-value : goal.invariant-loop-value
invariant-loop-value l = list_all (λ e. not (is_over e.1)) (map entry_of (drop l.value-index l.entries)) ≡ list_all (λ e. not (is_over e.1)) (map entry_of l.entries)
