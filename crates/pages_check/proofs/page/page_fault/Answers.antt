use Rattle.std.proofs.Common.{◌≡◌, ◌≤◌, Some, sym, ap, ◌∙◌, take, length, arith, rules}
use Rattle.std.specs.Str.Lossy.{utf8_valid_len}
use Rattle.source_tree.specs.declared.limits.TheConstants.{MAX_FILE_BYTES}
use Rattle.pages_check.specs.Page.{not_utf8}
use Rattle.pages_check.proofs.PageLemmas.{large_fault, large_steps, other_fault, other_steps, text_fault, text_steps}
use Rattle.pages_check.proofs.page.page_fault.Goals as goal

pub returns-then-bytes-gt-MAX_FILE_BYTES-clause-fault :
    goal.returns-then-bytes-gt-MAX_FILE_BYTES-clause-fault
returns-then-bytes-gt-MAX_FILE_BYTES-clause-fault g c =
    ap Some c.in_ok-too_large.ensures ∙ large_fault c.args.path.now c.args.bytes.now c.if-bytes-gt-MAX_FILE_BYTES.true

pub returns-then-bytes-gt-MAX_FILE_BYTES-clause-steps :
    goal.returns-then-bytes-gt-MAX_FILE_BYTES-clause-steps
returns-then-bytes-gt-MAX_FILE_BYTES-clause-steps g c = let e = large_steps c.args.path.now c.args.bytes.now c.if-bytes-gt-MAX_FILE_BYTES.true in omega (arith, e)

pub returns-in-Ok-clause-fault : goal.returns-in-Ok-clause-fault
returns-in-Ok-clause-fault g c =
    let within : length c.args.bytes.now ≤ MAX_FILE_BYTES = omega (arith, c.if-bytes-gt-MAX_FILE_BYTES.false) in
    let cases = c.in-Ok.ensures.cases in
    rw (cases.0, sym (text_fault c.args.path.now c.args.bytes.now within cases.1)) at c.alone_fault.ensures.fault

pub returns-in-Ok-clause-steps : goal.returns-in-Ok-clause-steps
returns-in-Ok-clause-steps g c =
    let within : length c.args.bytes.now ≤ MAX_FILE_BYTES = omega (arith, c.if-bytes-gt-MAX_FILE_BYTES.false) in
    let cases = c.in-Ok.ensures.cases in
    rw (cases.0, sym (text_steps c.args.path.now c.args.bytes.now within cases.1)) at c.alone_fault.ensures.steps

pub returns-in_ok-not_utf8-in-Err-clause-fault : goal.returns-in_ok-not_utf8-in-Err-clause-fault
returns-in_ok-not_utf8-in-Err-clause-fault g c =
    let within : length c.args.bytes.now ≤ MAX_FILE_BYTES = omega (arith, c.if-bytes-gt-MAX_FILE_BYTES.false) in
    let front : c.unwrap-front.result.now ≡ take (utf8_valid_len c.args.bytes.now) c.args.bytes.now = search rules in
    ap Some c.in_ok-not_utf8-in-Err.ensures ∙ ap (λ f. Some (not_utf8 c.args.path.now f)) front ∙ sym (other_fault c.args.path.now c.args.bytes.now within c.in-Err.ensures.cases.0)

pub returns-in_ok-not_utf8-in-Err-clause-steps : goal.returns-in_ok-not_utf8-in-Err-clause-steps
returns-in_ok-not_utf8-in-Err-clause-steps g c =
    let within : length c.args.bytes.now ≤ MAX_FILE_BYTES = omega (arith, c.if-bytes-gt-MAX_FILE_BYTES.false) in
    let e = other_steps c.args.path.now c.args.bytes.now within c.in-Err.ensures.cases.0 in omega (arith, e)
