use Rattle.std.proofs.Common.{◌++◌, ℕ, List, ap, ◌∙◌, length, subst}
use Rattle.http_out.specs.Head.{head_text, sized}
use Rattle.http_out.specs.Response.{whole}
use Rattle.http_out.specs.Sent.{Sent}
use Rattle.http_out.proofs.SentLemmas.{joined_behind}
use Rattle.http_out.proofs.whole.write_whole.Goals as goal

pub returns-clause-sent : goal.returns-clause-sent
unfolding whole
returns-clause-sent g c = λ old text was.
    let front = head_text c.args.head.now (sized (length c.args.body.now)) in
    let first = c.parts.result.0.now in
    let second = c.parts.result.1.now in
    let head = (rw (c.deref.ensures.value, c.in_ok-text.ensures) at c.write.ensures.sent) old text was in
    let all = c.write-2.ensures.sent old (text ++ (front ++ first)) head in
    subst (λ (t : List ℕ). Sent old (g.K.Sink.taken c.write-2.new.sink) t c.write-2.new.failed) (joined_behind text front first second ∙ ap (λ (shown : List ℕ). text ++ (front ++ shown)) c.parts.ensures) all
