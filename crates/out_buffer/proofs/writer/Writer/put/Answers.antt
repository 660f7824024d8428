use Rattle.std.proofs.Common.{◌≡◌, ◌<◌, ◌≤◌, ◌+◌, ℕ, List, length, ap, ◌∙◌, arith}
use Rattle.std.proofs.lemmas.Result.{err_from_is_err_and}
use Rattle.out_buffer.specs.Held.{writer_of}
use Rattle.out_buffer.specs.Writer.{Writer, put}
use Rattle.out_buffer.specs.contracts.writer.Writer.{the_view}
use Rattle.out_buffer.proofs.PutLemmas.{fault_passes, put_placed, put_too_much}
use Rattle.out_buffer.proofs.writer.Writer.put.Goals as goal

pub returns-then-text-self-clause-comes : goal.returns-then-text-self-clause-comes
returns-then-text-self-clause-comes g c = λ start before writer was.
    let held = rw (← c.self.view_is) at was in
    let count : writer.count ≡ c.self.inside.count = ap (λ (w : Writer). w.count) held.holds in
    let over : 16777216 < writer.count + length c.args.text.now = omega (arith, count, c.self.invariant.1, c.if-text-self.true) in
    put_too_much c.args.text.now writer over

pub returns-in_err-place-clause-comes : goal.returns-in_err-place-clause-comes
returns-in_err-place-clause-comes g c = λ start before writer was.
    let held = rw (← c.self.view_is) at was in
    let inside = c.self.inside in
    let text : List ℕ = c.args.text.now in
    let count : ℕ = inside.count + length text in
    let within : count ≤ 16777216 = omega (arith, c.self.invariant.1, c.if-text-self.false) in
    let fault = c.in_err-place.ensures.comes start before writer.pieces count (record { committed = held.committed; streamed = held.streamed }) in
    let p = err_from_is_err_and c.from_residual.result c.from_residual.ensures.1 in
    let is = ap (put text) held.holds ∙ put_placed text (writer_of (the_view inside) writer.pieces) within in
    rw (p.1, p.2) (search (fault_passes, is, fault))

pub returns-clause-comes : goal.returns-clause-comes
returns-clause-comes g c = λ start before writer was.
    let held = rw (← c.self.view_is) at was in
    let inside = c.self.inside in
    let text : List ℕ = c.args.text.now in
    let count : ℕ = inside.count + length text in
    let within : count ≤ 16777216 = omega (arith, c.self.invariant.1, c.if-text-self.false) in
    let is = ap (put text) held.holds ∙ put_placed text (writer_of (the_view inside) writer.pieces) within in
    let put_it = c.in_ok-place.ensures.comes start before writer.pieces count (record { committed = held.committed; streamed = held.streamed }) in (
      put_it.0,
      search (is, put_it.1),
      record { holds = put_it.2.0; committed = put_it.2.1.committed; streamed = put_it.2.1.streamed },
    )
