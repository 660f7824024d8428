use Rattle.http_out.specs.Response.{opening}
use Rattle.http_out.proofs.whole.write_head.Goals as goal

pub returns-clause-sent : goal.returns-clause-sent
unfolding opening
returns-clause-sent g c = λ old text was. (rw (c.deref.ensures.value, c.in_ok-text.ensures) at c.write.ensures.sent) old text was
