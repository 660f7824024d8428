use Rattle.std.proofs.Common.{◌≡◌, ◌+◌, drop}
use Rattle.page_code.specs.Calls.{fragments_size}
use Rattle.page_machine.proofs.calls.size_of.Given as goal

abbrev pub invariant-loop-fragment : goal.invariant-loop-fragment
invariant-loop-fragment l = l.size + fragments_size (drop l.fragment-index l.fragment-items) ≡ l.initial.size + fragments_size l.fragment-items
