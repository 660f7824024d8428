use Rattle.std.proofs.Common.{[], ◌∷◌, ◌++◌, arith}
use Rattle.http_out.proofs.SentLemmas.{sent_none}
use Rattle.conversation_tests.proofs.PartsLemmas.{broken_unless, whole_unless}
use Rattle.conversation_tests.proofs.parts.PartsDesk.serve.Goals as goal

pub returns-then-eq-clause-served : goal.returns-then-eq-clause-served
returns-then-eq-clause-served g c =
    let taken = g.K.Sink.taken c.args.sink.now in
    let before = g.K.Sink.faults c.args.sink.now in
    let one = c.write.ensures.sent taken [] (sent_none taken) in
    let rose = c.write.ensures.rose before (omega arith) (λ e. absurd (cc)) in
    record {
      text = 60 ∷ c.as_bytes.result.now;
      left = tt;
      failed = c.write-2.new.failed;
      sent = c.write-2.ensures.sent taken (60 ∷ []) one;
      cause = c.write-2.ensures.rose before c.write.ensures.later rose;
    }

pub returns-then-eq-2-clause-served : goal.returns-then-eq-2-clause-served
returns-then-eq-2-clause-served g c =
    let taken = g.K.Sink.taken c.args.sink.now in
    let one = c.write.ensures.sent taken [] (sent_none taken) in
    broken_unless c.args._close c.args.request (g.K.Sink.faults c.args.sink.now) (g.K.Sink.faults c.write-2.new.sink) taken (g.K.Sink.taken c.write-2.new.sink) (60 ∷ c.as_bytes.result.now)
    c.write-2.new.failed c.unless.result (c.write-2.ensures.sent taken (60 ∷ []) one) c.unless.ensures

pub returns-clause-served : goal.returns-clause-served
returns-clause-served g c =
    let taken = g.K.Sink.taken c.args.sink.now in
    let one = c.write.ensures.sent taken [] (sent_none taken) in
    let two = c.write-2.ensures.sent taken (60 ∷ []) one in
    whole_unless c.args._close c.args.request (g.K.Sink.faults c.args.sink.now) (g.K.Sink.faults c.write-3.new.sink) taken (g.K.Sink.taken c.write-3.new.sink)
    (60 ∷ (c.as_bytes.result.now ++ 62 ∷ [])) c.write-3.new.failed c.unless-2.result (c.write-3.ensures.sent taken (60 ∷ c.as_bytes.result.now) two) c.unless-2.ensures
