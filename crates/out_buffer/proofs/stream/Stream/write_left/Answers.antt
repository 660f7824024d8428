use Rattle.std.proofs.Common.{◌≡◌, true, false, subst, sym, ◌∙◌, List, ℕ}
use Rattle.http_out.specs.Response.{whole}
use Rattle.out_buffer.specs.Streamed.{so_far, HasTaken}
use Rattle.out_buffer.specs.Writer.{has_pieces}
use Rattle.out_buffer.proofs.StreamLemmas.{at_once, broken_off, ended, head_alone, takes_more}
use Rattle.out_buffer.proofs.stream.Stream.write_left.Goals as goal
use Rattle.out_buffer.proofs.stream.Stream.write_left.Goals.{else-self-via-then-self+else-not-broken, else-self-via-else-self}

pub returns-then-not-self-clause-taken : goal.returns-then-not-self-clause-taken
returns-then-not-self-clause-taken g c = λ start before pieces was.
    let self = c.args.self.now in
    let rest = c.args.rest.now in
    let e = c.in_ok-write_whole.ensures in
    let none : has_pieces pieces ≡ false = sym was.committed ∙ c.if-not-self.true in
    subst (λ (t : List ℕ). HasTaken start before t c.write_whole.new.failed (g.K.Sink.taken c.write_whole.new.sink) (g.K.Sink.faults c.write_whole.new.sink))
    (at_once self.head pieces rest c.args.broken self.shown none)
    (takes_more start before (so_far self.head self.shown pieces) (whole self.head rest self.shown) _ _ _ _ _ _ was.streamed e.sent e.later e.rose)

pub returns-then-not-broken-clause-taken : goal.returns-then-not-broken-clause-taken
returns-then-not-broken-clause-taken g c = λ start before pieces was.
    let self = c.args.self.now in
    let rest = c.args.rest.now in
    let some : has_pieces pieces ≡ true = sym was.committed ∙ c.if-not-self.false in
    let before_it = rw c.if-self.true at was.streamed in
    let all = subst (λ (t : List ℕ). HasTaken start before t c.write_rest.new.failed (g.K.Sink.taken c.write_rest.new.sink) (g.K.Sink.faults c.write_rest.new.sink))
    (ended self.head pieces rest some) (c.write_rest.ensures.taken start before (so_far self.head true pieces) before_it) in
    rw (c.if-self.true, c.if-not-broken.true) all

pub returns-else-self-clause-taken : goal.returns-else-self-clause-taken
returns-else-self-clause-taken g c = λ start before pieces was.
    let self = c.args.self.now in
    let rest = c.args.rest.now in
    let some : has_pieces pieces ≡ true = sym was.committed ∙ c.if-not-self.false in
    elim c.else-self.branch [
      | else-self-via-then-self+else-not-broken w ↦
          let before_it = rw w.if-self.true at was.streamed in
          rw (w.if-self.true, w.if-not-broken.false)
          (subst (λ (t : List ℕ). HasTaken start before t self.failed (g.K.Sink.taken c.args.sink.now) (g.K.Sink.faults c.args.sink.now)) (broken_off self.head pieces rest some) before_it)
      | else-self-via-else-self w ↦
          let before_it = rw w.if-self.false at was.streamed in
          rw w.if-self.false
          (subst (λ (t : List ℕ). HasTaken start before t self.failed (g.K.Sink.taken c.args.sink.now) (g.K.Sink.faults c.args.sink.now)) (head_alone self.head pieces rest c.args.broken some) before_it)
    ]
