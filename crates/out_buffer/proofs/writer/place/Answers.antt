use Rattle.std.proofs.Common.{rules, ◌≡◌, ◌<◌, ℕ, List, length, refl, sym, ap, ◌∙◌, Ok, Result}
use Rattle.pg_value.specs.declared.fault.RunFault.{RunFault}
use Rattle.out_buffer.specs.ReadBuffer.{writer_at}
use Rattle.out_buffer.specs.Writer.{Writer}
use Rattle.out_buffer.proofs.PutLemmas.{placed_out, placed_within}
use Rattle.out_buffer.proofs.writer.place.Goals as goal

pub returns-then-is_empty-clause-comes : goal.returns-then-is_empty-clause-comes
returns-then-is_empty-clause-comes g c = λ start before pieces count was.
    let kept : List (List ℕ) = c.args.kept.now in
    let none : length kept ≡ 0 = search rules in
    rw (placed_out kept c.args.text.now (writer_at c.args.buffer.now pieces count kept) none)
    (rw c.as_bytes.ensures.value at (c.put.ensures.comes start before pieces count kept was))

pub returns-clause-comes : goal.returns-clause-comes
returns-clause-comes g c = λ start before pieces count was.
    let kept : List (List ℕ) = c.args.kept.now in
    let some : 0 < length kept = search rules in
    let w : Writer = writer_at c.args.buffer.now pieces count kept in (
      writer_at c.args.buffer.now pieces count c.push_str.new.self,
      placed_within kept c.args.text.now w some ∙ ap (λ (bodies : List (List ℕ)). let put : Result Writer RunFault = Ok (record w { kept = bodies }) in put) (sym c.in_ok-push_str.ensures.ok),
      (refl, was),
    )
