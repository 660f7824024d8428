use Rattle.std.proofs.Common.{◌+◌, ◌≤◌, length, sym, ◌∙◌, arith}
use Rattle.code_check.proofs.Behind.{ends_beyond_at}
use Rattle.code_check.proofs.calls.call_ends.Goals as goal

pub returns-in-None : goal.returns-in-None
returns-in-None c =
    let far : length c.args.code.now ≤ c.loop-fragment.at + c.fragment-item.result.size = omega (arith, c.in-None.ensures, c.well_formed.0) in
    sym (ends_beyond_at c.args.code.now c.loop-fragment.at c.args.fragments.now c.loop-fragment.fragment-index c.fragment-item.result c.args.open.values c.args.open.bodies c.args.open.loops c.args.open.catches.now c.loop-fragment-test.true c.fragment-item.is far) ∙ c.loop-fragment.invariant
