use Rattle.std.proofs.Common.{◌≡◌, ap, arith, length, refl, subst, sym, ◌∙◌}
use Rattle.std.specs.Prelude.{map}
use Rattle.el_ops.specs.Indexing.{index_of}
use Rattle.el_ops.specs.Operators.{binary_of, unary_of}
use Rattle.page_code.specs.Ops.{takes}
use Rattle.page_code.specs.declared.op.Op.TheVariants as op
use Rattle.page_meaning.specs.Attributes.{coerced}
use Rattle.page_table.specs.Operands.{coercion_of}
use Rattle.page_table.specs.Operations.{joined, value_at}
use Rattle.el_coercion.specs.Text.{made}
use Rattle.pg_text.specs.Failure.{AnswersAs}
use Rattle.pg_value.specs.Value.{datum_of}
use Rattle.run_parts.proofs.Operates.{computes, first_at, second_at, text_failed, text_made}
use Rattle.run_parts.proofs.operations.compute.Goals as goal

pub returns-in-Index : goal.returns-in-Index
returns-in-Index c =
    let many : length c.args.args.now ≡ 2 = c.requires.args ∙ ap takes c.in-Index.is in
    let first = first_at c.args.args.now c.index-args-0.result (omega (arith, many)) c.index-args-0.is in
    let second = second_at c.args.args.now c.index-args-1.result (omega (arith, many)) c.index-args-1.is in
    computes c.args.op.now op.Index (map datum_of c.args.args.now) c.index.result c.in-Index.is
    (subst (λ e. AnswersAs datum_of e c.index.result) (ap (λ d. index_of d (datum_of c.index-args-1.result)) first ∙ ap (index_of (value_at 0 (map datum_of c.args.args.now))) second) c.index.ensures)

pub returns-in_ok-unary-in-Unary : goal.returns-in_ok-unary-in-Unary
returns-in_ok-unary-in-Unary c =
    let many : length c.args.args.now ≡ 1 = c.requires.args ∙ ap takes c.in-Unary.is in
    let first = first_at c.args.args.now c.index-args-0-in-Unary.result (omega (arith, many)) c.index-args-0-in-Unary.is in
    ap (λ x. Rattle.run_parts.specs.Operations.computed x (map datum_of c.args.args.now)) c.in-Unary.is ∙ ap (unary_of c.in-Unary.op) (sym first) ∙ sym c.in_ok-unary-in-Unary.ensures

pub returns-in-Binary : goal.returns-in-Binary
returns-in-Binary c =
    let many : length c.args.args.now ≡ 2 = c.requires.args ∙ ap takes c.in-Binary.is in
    let first = first_at c.args.args.now c.index-args-0-in-Binary.result (omega (arith, many)) c.index-args-0-in-Binary.is in
    let second = second_at c.args.args.now c.index-args-1-in-Binary.result (omega (arith, many)) c.index-args-1-in-Binary.is in
    computes c.args.op.now (op.Binary c.in-Binary.op) (map datum_of c.args.args.now) c.operated.result c.in-Binary.is
    (subst (λ e. AnswersAs datum_of e c.operated.result) (ap (λ d. binary_of c.in-Binary.op d (datum_of c.index-args-1-in-Binary.result)) first ∙ ap (binary_of c.in-Binary.op (value_at 0 (map datum_of c.args.args.now))) second) c.operated.ensures)

pub returns-in-Coerce : goal.returns-in-Coerce
returns-in-Coerce c =
    let many : length c.args.args.now ≡ 1 = c.requires.args ∙ ap takes c.in-Coerce.is in
    let first = first_at c.args.args.now c.index-args-0-in-Coerce.result (omega (arith, many)) c.index-args-0-in-Coerce.is in
    computes c.args.op.now (op.Coerce c.in-Coerce.coercion) (map datum_of c.args.args.now) c.coerced.result c.in-Coerce.is (subst (λ e. AnswersAs datum_of e c.coerced.result) (ap (coerced (coercion_of c.in-Coerce.coercion)) first) c.coerced.ensures)

pub returns-in-MakeList : goal.returns-in-MakeList
returns-in-MakeList c = computes c.args.op.now (op.MakeList c.in-MakeList.field-0) (map datum_of c.args.args.now) c.list_of.result c.in-MakeList.is c.list_of.ensures

pub returns-in-MakeMap : goal.returns-in-MakeMap
returns-in-MakeMap c = computes c.args.op.now (op.MakeMap c.in-MakeMap.field-0) (map datum_of c.args.args.now) c.record_of.result c.in-MakeMap.is c.record_of.ensures

pub returns-in_err-joined-in-Concat : goal.returns-in_err-joined-in-Concat
returns-in_err-joined-in-Concat c =
    text_failed c.args.op.now (op.Concat c.in-Concat.field-0) (map datum_of c.args.args.now) (made (joined (map datum_of c.args.args.now))) c.in_err-joined-in-Concat.field-0.0 c.from_residual-in_err-joined-in-Concat.result c.in-Concat.is refl
    c.from_residual-in_err-joined-in-Concat.ensures.1 c.in_err-joined-in-Concat.ensures

pub returns-in_ok-joined-in-Concat : goal.returns-in_ok-joined-in-Concat
returns-in_ok-joined-in-Concat c = text_made c.args.op.now (op.Concat c.in-Concat.field-0) (map datum_of c.args.args.now) c.in_ok-joined-in-Concat.field-0 (made (joined (map datum_of c.args.args.now))) c.in-Concat.is refl c.in_ok-joined-in-Concat.ensures

pub call-requires : goal.call-requires
call-requires c = c.requires.args ∙ ap takes c.in-Call.is

pub returns-in-Call : goal.returns-in-Call
returns-in-Call c = computes c.args.op.now (op.Call c.in-Call.function) (map datum_of c.args.args.now) c.call.result c.in-Call.is c.call.ensures
