use Rattle.std.proofs.Common.{◌≡◌}
use Rattle.std.specs.Prelude.{drop}
use Rattle.code_check.specs.ReadChecks.{ends_call}
use Rattle.code_check.proofs.calls.call_ends.Given as goal

abbrev pub invariant-loop-fragment : goal.invariant-loop-fragment
invariant-loop-fragment l =
    ends_call l.code l.at (drop l.fragment-index l.fragments) l.open.values l.open.bodies l.open.loops l.open.catches.now
    ≡ ends_call l.code l.first l.fragments l.open.values l.open.bodies l.open.loops l.open.catches.now
