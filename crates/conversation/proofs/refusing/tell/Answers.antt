use Rattle.std.proofs.Common.{ℕ, List, Option, subst}
use Rattle.std.specs.Prelude.{IfOk}
use Rattle.http_out.specs.declared.status.Status.{Status}
use Rattle.http_out.specs.Sent.{Sent}
use Rattle.conversation.specs.Refusal.{refusal, told_plainly}
use Rattle.conversation.proofs.refusing.tell.Goals as goal

pub returns-in-Some-clause-sent : goal.returns-in-Some-clause-sent
unfolding refusal
returns-in-Some-clause-sent g c =
    let taken = g.K.Sink.taken c.args.sink.now in
    let new = g.K.Sink.taken c.tell_plain.new.sink in
    subst (λ (answer : Option (Status × List ℕ)). IfOk c.tell_plain.result (λ failed. Sent taken new (told_plainly answer) failed)) c.in-Some.ensures c.tell_plain.ensures.sent
