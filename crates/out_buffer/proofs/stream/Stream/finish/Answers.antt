use Rattle.out_buffer.proofs.stream.Stream.finish.Goals as goal

pub returns-then-self-clause-finished : goal.returns-then-self-clause-finished
returns-then-self-clause-finished g c = λ start before pieces was. rw c.if-self.true at (c.in_ok-write_left.ensures.taken start before pieces was)

pub returns-clause-finished : goal.returns-clause-finished
returns-clause-finished g c = λ start before pieces was. rw c.if-self.false at (c.in_ok-write_left.ensures.taken start before pieces was)
