use Rattle.std.proofs.Common.{arith}
use Rattle.pg_value.specs.Value.{datum_of}
use Rattle.run_values.proofs.StatusLemmas.{kept_length, set_round, status_length}
use Rattle.run_values.proofs.statuses.with_round.Goals as goal
use Rattle.run_values.specs.Rounds.{round_at}

pub set_at-requires : goal.set_at-requires
set_at-requires c =
    let n = status_length c.requires.0 c.args.status c.requires.1 in
    omega (arith, n)

pub set_at-requires-2 : goal.set_at-requires-2
set_at-requires-2 c =
    let n = kept_length _ _ _ _ c.in_ok-set_at.ensures.ok (status_length c.requires.0 c.args.status c.requires.1) in
    omega (arith, n)

pub set_truth-requires : goal.set_truth-requires
set_truth-requires c =
    let n = kept_length _ _ _ _ c.in_ok-set_at-2.ensures.ok (kept_length _ _ _ _ c.in_ok-set_at.ensures.ok (status_length c.requires.0 c.args.status c.requires.1)) in
    omega (arith, n)

pub set_at-requires-3 : goal.set_at-requires-3
set_at-requires-3 c =
    let n = kept_length _ _ _ _ c.in_ok-set_truth.ensures.ok (kept_length _ _ _ _ c.in_ok-set_at-2.ensures.ok (kept_length _ _ _ _ c.in_ok-set_at.ensures.ok (status_length c.requires.0 c.args.status c.requires.1))) in
    omega (arith, n)

pub set_truth-requires-2 : goal.set_truth-requires-2
set_truth-requires-2 c =
    let n = kept_length _ _ _ _ c.in_ok-set_at-3.ensures.ok (kept_length _ _ _ _ c.in_ok-set_truth.ensures.ok (kept_length _ _ _ _ c.in_ok-set_at-2.ensures.ok (kept_length _ _ _ _ c.in_ok-set_at.ensures.ok (status_length c.requires.0 c.args.status c.requires.1)))) in
    omega (arith, n)

pub returns : goal.returns
returns c = λ vs h.
    set_round vs (round_at c.args.mark.now) (datum_of c.args.current) (datum_of c.in_ok-number.field-0) (datum_of c.in_ok-number-2.field-0) _ _ _ _ _ _ h c.in_ok-number.ensures c.in_ok-number-2.ensures c.in_ok-set_at.ensures.ok
    c.in_ok-set_at-2.ensures.ok c.in_ok-set_truth.ensures.ok c.in_ok-set_at-3.ensures.ok c.in_ok-set_truth-2.ensures.ok
