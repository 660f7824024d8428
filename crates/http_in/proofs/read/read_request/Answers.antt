use Rattle.std.proofs.Common.{Option, ℕ, sym, subst, arith}
use Rattle.std.proofs.lemmas.Result.{err_from_is_err_and}
use Rattle.http_in.specs.declared.head.Head.{Head}
use Rattle.http_in.specs.Reading.{Moves}
use Rattle.http_in.proofs.Answered.{head_failed, parse_failed, body_failed, whole_request, same_request}
use Rattle.http_in.proofs.Moving.{moves_both}
use Rattle.http_in.proofs.read.read_request.Goals as goal

pub overflow_add-end : goal.overflow_add-end
overflow_add-end g c =
    let within = rw c.in-Some.is at c.in_ok-len.ensures.within in
    omega (arith, within.0, c.in_ok-head.ensures.small)

pub returns-in_err-len-clause-answer : goal.returns-in_err-len-clause-answer
returns-in_err-len-clause-answer g c =
    let p = err_from_is_err_and c.from_residual.result c.from_residual.ensures.1 in
    let e = c.in_err-len.ensures in
    rw (p.1, p.2) (head_failed (Option ℕ) c.in_err-len.field-0.0 _ _ _ c.read_head.new.rest e.stopped e.bytes)

pub returns-in_err-head-clause-answer : goal.returns-in_err-head-clause-answer
returns-in_err-head-clause-answer g c =
    let p = err_from_is_err_and c.from_residual-in_err-head.result c.from_residual-in_err-head.ensures.1 in
    let found = rw c.in-Some.is at c.in_ok-len.ensures.found in
    let bad = rw c.as_slice.ensures at c.in_err-head.ensures.bad in
    rw (p.1, p.2) (parse_failed Head c.in_err-head.field-0.0 _ _ _ c.read_head.new.rest c.in-Some.len found bad c.in_ok-len.ensures.bytes)

pub returns-in_err-read_body-clause-answer : goal.returns-in_err-read_body-clause-answer
returns-in_err-read_body-clause-answer g c =
    let p = err_from_is_err_and c.from_residual-in_err-read_body.result c.from_residual-in_err-read_body.ensures.1 in
    let found = rw c.in-Some.is at c.in_ok-len.ensures.found in
    let within = rw c.in-Some.is at c.in_ok-len.ensures.within in
    let good = c.in_ok-head.ensures.good in
    let is_good = rw c.as_slice.ensures at good.is_good in
    let e = c.in_err-read_body.ensures in
    rw (p.1, p.2) (body_failed (Unit {0}) c.in_err-read_body.field-0.0 _ _ _ _ c.read_head.new.rest c.read_body.new.rest c.in-Some.len good.head c.in_ok-head.head.size found within.1 is_good
    c.in_ok-len.ensures.bytes e.stopped e.bytes)

pub returns-in_err-take_request-clause-answer : goal.returns-in_err-take_request-clause-answer
returns-in_err-take_request-clause-answer g c =
    let p = err_from_is_err_and c.from_residual-in_err-take_request.result c.from_residual-in_err-take_request.ensures.1 in
    let moved = moves_both _ _ _ _ c.read_head.new.rest c.read_body.new.rest c.in_ok-len.ensures.bytes c.in_ok-read_body.ensures.bytes in
    rw (p.1, p.2) (subst (Moves _ _ _) (sym c.in_err-take_request.ensures.stays) moved)

pub returns-clause-answer : goal.returns-clause-answer
returns-clause-answer g c =
    let found = rw c.in-Some.is at c.in_ok-len.ensures.found in
    let within = rw c.in-Some.is at c.in_ok-len.ensures.within in
    let good = c.in_ok-head.ensures.good in
    let is_good = rw c.as_slice.ensures at good.is_good in
    let parts = c.in_ok-head.head in
    let request = same_request c.in_ok-take_request.field-0 parts.method parts.target parts.fields _ good.head c.in_ok-take_request.ensures.request good.method good.target good.fields in
    whole_request _ _ _ _ c.read_head.new.rest c.read_body.new.rest c.in-Some.len good.head parts.size c.in_ok-take_request.field-0 c.take_request.new.rest found within.1 is_good
    c.in_ok-len.ensures.bytes c.in_ok-read_body.ensures.bytes c.in_ok-read_body.ensures.whole request c.in_ok-take_request.ensures.after
