use Rattle.std.proofs.Common.{◌≡◌, true, false, [], refl}
use Rattle.dispatch.proofs.replying.write_body.Goals as goal

pub returns-then-failed-clause-wrote : goal.returns-then-failed-clause-wrote
returns-then-failed-clause-wrote g c = λ start before taken.
    let sent = rw c.if-failed.true at (c.in_ok-write_whole.ensures.sent start [] taken.sent) in
    (sent, c.in_ok-write_whole.ensures.rose before taken.later (λ (no : false ≡ true). absurd (cc)) c.if-failed.true)

pub returns-clause-wrote : goal.returns-clause-wrote
returns-clause-wrote g c = λ start before taken.
    let sent = rw c.if-failed.false at (c.in_ok-write_whole.ensures.sent start [] taken.sent) in
    (sent, refl)
