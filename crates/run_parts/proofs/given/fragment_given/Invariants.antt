use Rattle.std.proofs.Common.{◌≡◌, ◌+◌, ◌≤◌, drop}
use Rattle.page_code.specs.Calls.{fragments_size}
use Rattle.run_parts.proofs.given.fragment_given.Given as goal
use Rattle.run_parts.proofs.GivenLemmas.{fragment_behind}

abbrev pub invariant-loop-fragment : goal.invariant-loop-fragment
invariant-loop-fragment l = record {
  within : l.at + fragments_size (drop l.fragment-index l.fragment-items) ≤ l.initial.at + fragments_size l.fragment-items;
  same : fragment_behind l.name l.at (drop l.fragment-index l.fragment-items) ≡ fragment_behind l.name l.initial.at l.fragment-items;
}
