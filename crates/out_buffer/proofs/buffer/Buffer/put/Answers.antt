use Rattle.std.proofs.Common.{◌<◌, ◌≤◌, ◌++◌, ℕ, List, length, refl, ap, ◌∙◌, arith, length-append, Option}
use Rattle.out_buffer.specs.ReadBuffer.{writer_at}
use Rattle.out_buffer.specs.Writer.{Writer, flushed_over, piece_of, written}
use Rattle.out_buffer.proofs.BufferLemmas.{fits, overflows}
use Rattle.out_buffer.proofs.buffer.Buffer.put.Goals as goal

pub returns-in_default-clause-comes : goal.returns-in_default-clause-comes
returns-in_default-clause-comes g c = λ start before pieces count kept was.
    let w : Writer = writer_at c.args.self.now pieces count kept in
    let after : Writer = record w { pieces = pieces ++ piece_of c.args.bytes.now } in
    (after, ap (λ (size : Option ℕ). written size c.args.bytes.now w) c.in_default.is, (refl, c.in_ok-commit.ensures.sent start before pieces was))

pub returns-then-bytes-size-clause-comes : goal.returns-then-bytes-size-clause-comes
returns-then-bytes-size-clause-comes g c = λ start before pieces count kept was.
    let w : Writer = writer_at c.args.self.now pieces count kept in
    let bytes : List ℕ = c.args.bytes.now in
    let total : List ℕ = w.buffer ++ bytes in
    let after : Writer = record w { buffer = c.keep.new.buffer.items } in
    let within = rw c.in-Some.is at c.requires in
    let is_short : length total ≤ c.in-Some.size = omega (arith, length-append w.buffer bytes, within.1, c.len.ensures, c.if-bytes-size.true) in (
      after,
      ap (λ (size : Option ℕ). written size bytes w) c.in-Some.is ∙ fits c.in-Some.size total w is_short
          ∙ rw c.in_ok-keep.ensures.items refl,
      (refl, was),
    )

pub returns-clause-comes : goal.returns-clause-comes
returns-clause-comes g c = λ start before pieces count kept was.
    let w : Writer = writer_at c.args.self.now pieces count kept in
    let bytes : List ℕ = c.args.bytes.now in
    let size : ℕ = c.in-Some.size in
    let total : List ℕ = w.buffer ++ bytes in
    let after : Writer = flushed_over size total w in
    let within = rw c.in-Some.is at c.requires in
    let is_long : size < length total = omega (arith, length-append w.buffer bytes, within.1, c.len.ensures, c.if-bytes-size.false) in (
      after,
      ap (λ (s : Option ℕ). written s bytes w) c.in-Some.is ∙ overflows size total w is_long c.if-not-self.false,
      (rw c.in_ok-overflow.ensures.ok refl, c.in_ok-overflow.ensures.sent start before pieces was),
    )
