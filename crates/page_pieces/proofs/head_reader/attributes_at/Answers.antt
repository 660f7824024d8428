use Rattle.std.proofs.Common.{◌<◌, length, sym, ap, ◌∙◌, arith, Ok, Err, List, ℕ, Bor}
use Rattle.std.proofs.lemmas.Result.{err_from_is_err_and}
use Rattle.page_pieces.specs.Spots.{spot_after}
use Rattle.page_pieces.specs.ReadSpelled.{written}
use Rattle.page_pieces.specs.Tags.{attribute_bytes}
use Rattle.page_pieces.specs.ReadValue.{attribute_with, value_parts}
use Rattle.page_pieces.specs.ReadHead.{end_read}
use Rattle.page_pieces.specs.declared.attribute.Attribute.{Attribute}
use Rattle.page_pieces.specs.declared.head.HeadEnd.{HeadEnd}
use Rattle.page_pieces.proofs.Failures.{passed_on}
use Rattle.page_pieces.proofs.Heads.Loop.{one_more, faulty, closes, breaks_off, attribute_cut, bytes_before, behind_attribute}
use Rattle.page_pieces.proofs.head_reader.attributes_at.Goals as goal

pub returns-in-Ok-clause-value : goal.returns-in-Ok-clause-value
returns-in-Ok-clause-value c =
    closes c.attributes.invariant.leads c.in-Ok.end c.in-Ok.behind.now (sym (c.in-Ok.ensures.value ∙ ap (end_read c.args.head.kind) c.behind_white.ensures.value))
    ∙ ap (λ found. Ok (found, (c.in-Ok.end, c.in-Ok.behind.now))) (sym c.in_ok-new-in-Ok.ensures)

pub returns-in-Err-attribute_unless_cut_off-clause-value :
    goal.returns-in-Err-attribute_unless_cut_off-clause-value
returns-in-Err-attribute_unless_cut_off-clause-value c =
    breaks_off c.attributes.invariant.leads c.in-Err.fault c.in-Err-attribute_unless_cut_off.fault (sym (c.in-Err.ensures.value ∙ ap (end_read c.args.head.kind) c.behind_white.ensures.value)) (sym c.in-Err-attribute_unless_cut_off.ensures.value)
    ∙ ap Err (sym c.unread.ensures)

pub value_spot-requires-clause-cut : goal.value_spot-requires-clause-cut
value_spot-requires-clause-cut c = attribute_cut c.attributes.rest.now c.in-Err.fault (written c.in-Ok-attribute_unless_cut_off.a).0 c.in-Ok-attribute_unless_cut_off.a.rest.now (sym c.in-Ok-attribute_unless_cut_off.ensures.value)

pub returns-in_err-attribute_with-clause-value : goal.returns-in_err-attribute_with-clause-value
returns-in_err-attribute_with-clause-value c =
    let a = c.in-Ok-attribute_unless_cut_off.a in
    let within : length a.rest.now < length c.attributes.rest.now = omega (arith, c.in-Ok-attribute_unless_cut_off.ensures.within) in
    let p = err_from_is_err_and c.from_residual-in_err-attribute_with.result c.from_residual-in_err-attribute_with.ensures.1 in
    passed_on (λ (x : List Attribute × HeadEnd × Bor (List ℕ)). (x.0, (x.1, x.2.now))) (λ attribute. attribute) _ _ c.from_residual-in_err-attribute_with.result c.in_err-attribute_with.field-0.0 p.0 p.1 p.2 c.in_err-attribute_with.ensures
    (λ fault is. faulty c.attributes.invariant.leads c.in-Err.fault (written a).0 a.rest.now fault (sym (c.in-Err.ensures.value ∙ ap (end_read c.args.head.kind) c.behind_white.ensures.value)) (sym c.in-Ok-attribute_unless_cut_off.ensures.value) within
    (ap (λ spot. attribute_with c.args.file.now a.name.now spot (value_parts c.args.setting.now a.value.now)) (sym c.value_spot.ensures) ∙ is))

pub attributes-preserved : goal.attributes-preserved
attributes-preserved c =
    let a = c.in-Ok-attribute_unless_cut_off.a in
    let found = sym c.in-Ok-attribute_unless_cut_off.ensures.value in
    let cut = attribute_cut c.attributes.rest.now c.in-Err.fault (written a).0 a.rest.now found in
    let at = c.after_bytes-at.ensures.value ∙ ap (spot_after c.attributes.at) (c.before_last.ensures.value ∙ bytes_before c.attributes.rest.now (attribute_bytes (written a).0) a.rest.now cut) in
    let within : length a.rest.now < length c.attributes.rest.now = omega (arith, c.in-Ok-attribute_unless_cut_off.ensures.within) in
    let reads = ap (λ spot. attribute_with c.args.file.now a.name.now spot (value_parts c.args.setting.now a.value.now)) (sym c.value_spot.ensures) ∙ c.in_ok-attribute_with.ensures in
    let leads = one_more c.attributes.invariant.leads c.in-Err.fault (written a).0 a.rest.now c.in_ok-attribute_with.field-0 (sym (c.in-Err.ensures.value ∙ ap (end_read c.args.head.kind) c.behind_white.ensures.value)) found within reads in
    record {
      utf8 = behind_attribute c.attributes.rest.now c.in-Err.fault (written a).0 a.rest.now c.attributes.invariant.utf8 found;
      leads = rw (c.in_ok-push.ensures.ok, at) leads;
      within = omega arith;
      byte = omega arith;
      line = c.after_bytes-at.ensures.line;
      column = c.after_bytes-at.ensures.column;
    }
