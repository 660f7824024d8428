use Rattle.std.proofs.Common.{subst, sym, ◌∙◌, refl, List, ℕ}
use Rattle.http_out.specs.Response.{opening}
use Rattle.out_buffer.specs.Streamed.{so_far, HasTaken}
use Rattle.out_buffer.proofs.StreamLemmas.{begun, takes_more}
use Rattle.out_buffer.proofs.stream.Stream.begin.Goals as goal

pub returns-clause-sent : goal.returns-clause-sent
returns-clause-sent g c = λ start before pieces was.
    let self = c.args.self.now in
    let e = c.in_ok-write_head.ensures in
    let more = takes_more start before (so_far self.head self.shown pieces) (opening self.head) _ _ _ _ _ _ was.streamed e.sent e.later e.rose in
    record {
      committed = refl;
      streamed = subst (λ (text : List ℕ). HasTaken start before text c.write_head.new.failed (g.K.Sink.taken c.write_head.new.sink) (g.K.Sink.faults c.write_head.new.sink)) (begun self.head self.shown pieces (sym c.if-self.false ∙ was.committed)) more;
    }
