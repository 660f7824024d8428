use Rattle.std.proofs.Common.{◌≡◌, ℕ, List, Bor, arith, rules, refl, ap, sym, subst, ◌∙◌, Some, Err}
use Rattle.std.specs.Str.{IsUtf8}
use Rattle.std.proofs.lemmas.Result.{err_from_is_err_and}
use Rattle.pg_text.specs.declared.translation_fault.TranslationFault.{TranslationFault}
use Rattle.page_pieces.specs.declared.attribute.Part.{Part}
use Rattle.page_pieces.specs.ReadSigns.{signs_with, text_added, unmarked_len}
use Rattle.page_pieces.specs.Values.{value_mark_at}
use Rattle.page_pieces.specs.ReadValue.{parts_of}
use Rattle.page_pieces.proofs.AttributeValues.PartSteps.{CutAt, unmarked_cut, marked_cut, opens_with, cut_first, cut_last, part_added, part_refused}
use Rattle.page_pieces.proofs.AttributeValues.Parts.{with_front}
use Rattle.page_pieces.proofs.Failures.{passed_on}
use Rattle.page_pieces.proofs.value.parts_of.Goals as goal
use Rattle.page_pieces.proofs.value.parts_of.Goals.{In-Some, After-value_mark_at, After-unmarked_len-len}

len : (c : After-unmarked_len-len) → c.unmarked_len-len.result ≡ unmarked_len c.args.setting.now (signs_with c.loop-parts.rest.now c.loop-parts.flags.now)
len c = c.unmarked_len-len.ensures.value ∙ ap (λ t. unmarked_len c.args.setting.now (signs_with t c.loop-parts.flags.now)) c.as_bytes.ensures.value

pub split_at-requires : goal.split_at-requires
split_at-requires c =
    unmarked_cut c.args.setting.now c.loop-parts.rest.now c.loop-parts.flags.now c.unmarked_len-len.result (len (goal.at.split_at-requires c).After-unmarked_len-len) (omega (arith, c.unmarked_len-len.ensures.within, c.as_bytes.ensures.len))

cut : (c : After-value_mark_at) → CutAt c.args.setting.now c.loop-parts.rest.now c.loop-parts.flags.now c.unmarked_len-len.result c.split_at.result.0.now c.split_at.result.1.now c.split_at-in-loop-parts.result.1.now
cut c = record {
  n_is = c.unmarked_len-len.ensures.value ∙ ap (λ t. unmarked_len c.args.setting.now (signs_with t c.loop-parts.flags.now)) c.as_bytes.ensures.value;
  plain_is = c.split_at.ensures.front;
  behind_is = c.split_at.ensures.back;
  flags_is = c.split_at-in-loop-parts.ensures.back;
}

refused : (c : After-value_mark_at) (fault : TranslationFault) → parts_of c.args.setting.now (signs_with c.split_at.result.1.now c.split_at-in-loop-parts.result.1.now) ≡ Err fault → parts_of c.args.setting.now (signs_with c.args.text.now c.args.shields.now) ≡ Err fault
refused c fault is = sym c.loop-parts.invariant.value ∙ sym (cut_first (cut c) c.loop-parts.parts) ∙ ap (with_front (text_added c.loop-parts.parts c.split_at.result.0.now)) is

opens : (c : In-Some) → value_mark_at c.args.setting.now (signs_with c.split_at.result.1.now c.split_at-in-loop-parts.result.1.now) ≡ Some c.in-Some.mark
opens c = ap (λ t. value_mark_at c.args.setting.now (signs_with t c.split_at-in-loop-parts.result.1.now)) (sym c.as_bytes-in-loop-parts.ensures.value) ∙ sym c.in-Some.ensures

pub returns-in_default : goal.returns-in_default
returns-in_default c =
    cut_last (cut (goal.at.returns-in_default c).After-value_mark_at) c.loop-parts.parts c.push_text.new.parts _ c.in_ok-push_text.ensures
    (ap (λ t. value_mark_at c.args.setting.now (signs_with t c.split_at-in-loop-parts.result.1.now)) (sym c.as_bytes-in-loop-parts.ensures.value) ∙ sym c.in_default.ensures) c.loop-parts.invariant.value

pub split_at-requires-in-loop-parts-2 : goal.split_at-requires-in-loop-parts-2
split_at-requires-in-loop-parts-2 c =
    marked_cut c.args.setting.now c.split_at.result.1.now c.split_at-in-loop-parts.result.1.now c.in-Some.mark (subst IsUtf8 c.as_bytes-in-loop-parts.ensures.value c.as_bytes-in-loop-parts.ensures.utf8)
    (opens (goal.at.split_at-requires-in-loop-parts-2 c).In-Some)

pub returns-in_err-part : goal.returns-in_err-part
returns-in_err-part c =
    let p = err_from_is_err_and c.from_residual-in_err-part.result c.from_residual-in_err-part.ensures.1 in
    passed_on (λ parts. parts) (λ (found : Part × Bor (List ℕ)). (found.0, found.1.now)) _ _ c.from_residual-in_err-part.result c.in_err-part.field-0.0 p.0 p.1 p.2 c.in_err-part.ensures.value
    (λ fault is. refused (goal.at.returns-in_err-part c).After-value_mark_at fault (part_refused c.args.setting.now c.in-Some.mark c.split_at.result.1.now c.split_at-in-loop-parts-2.result.1.now c.split_at-in-loop-parts.result.1.now fault
    (opens (goal.at.returns-in_err-part c).In-Some) c.split_at-in-loop-parts-2.ensures.back is))

pub loop-parts-preserved : goal.loop-parts-preserved
loop-parts-preserved c =
    let at = opens_with c.args.setting.now c.split_at.result.1.now c.split_at-in-loop-parts.result.1.now c.in-Some.mark (opens (goal.at.loop-parts-preserved c).In-Some) in
    record {
      text = search rules;
      same = omega (arith, c.in_ok-part.ensures.within, at.two);
      value =
          part_added c.args.setting.now c.in-Some.mark c.push_text.new.parts c.push.new.self c.in_ok-part.part c.split_at.result.1.now c.split_at-in-loop-parts-2.result.1.now c.in_ok-part.more.now
          c.split_at-in-loop-parts.result.1.now c.split_at-in-loop-parts-3.result.1.now _ (opens (goal.at.loop-parts-preserved c).In-Some) c.split_at-in-loop-parts-2.ensures.back c.in_ok-part.ensures.value refl c.split_at-in-loop-parts-3.ensures.back c.in_ok-push.ensures.ok
          at.two c.in_ok-part.ensures.within
          ∙ ap (λ p. with_front p (parts_of c.args.setting.now (signs_with c.split_at.result.1.now c.split_at-in-loop-parts.result.1.now))) c.in_ok-push_text.ensures
          ∙ cut_first (cut (goal.at.loop-parts-preserved c).After-value_mark_at) c.loop-parts.parts
          ∙ c.loop-parts.invariant.value;
    }
