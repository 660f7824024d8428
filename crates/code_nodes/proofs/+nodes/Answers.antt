use Rattle.std.proofs.Common.{◌≡◌, ◌++◌, IfOk, OnOk, map, arith, refl, sym, ap, subst, ◌∙◌}
use Rattle.code_actions.specs.Evaluations.{coercions}
use Rattle.page_acts.proofs.Rows.{rows}
use Rattle.page_acts.specs.Views.{acts_of, attributes_of, params_of}
use Rattle.page_code.specs.Shapes.{empty_shape}
use Rattle.code_forms.specs.Codes.{form_code, handed_code}
use Rattle.code_lowering.specs.Expressions.{visits}
use Rattle.code_lowering.specs.Lowering.{nodes_form}
use Rattle.unit_meaning.specs.Named.{part_of}
use Rattle.unit_meaning.specs.Shape.{page_of}
use Rattle.unit_nodes.specs.Views.{page_view, part_of as part_view}
use Rattle.code_nodes.proofs.ActionLemmas.{addressed_is, around_is, enclosed_is, on_address_is}
use Rattle.code_nodes.proofs.CallLemmas.{fragment_is, fragments_from, fragments_past, unless_fragment, written_is}
use Rattle.code_nodes.proofs.ChoiceLemmas.{branches_end, branches_from, branches_past, when_is}
use Rattle.code_nodes.proofs.ListLemmas.{all_of, nodes_code, nodes_from, param_count_is, params_code, params_from}
use Rattle.code_nodes.proofs.ValueLemmas.{values_code, values_from}
use Rattle.code_nodes.proofs.+nodes.Goals as goal

pub actions::enclosed-returns : goal.actions::enclosed-returns
actions::enclosed-returns t c =
    subst (λ cells. IfOk c.joined.result (λ code. code ≡ cells))
    (enclosed_is c.args.at.ground.now c.args.at.place.now (page_of (page_view c.args.page.now)) (attributes_of c.args.attributes.now) c.args.action.now (acts_of c.args.body.now)
    c.enclosing_evaluations-evaluations.result c.in_ok-code.code c.in_ok-around.field-0 c.enclosing_evaluations-evaluations.ensures c.in_ok-code.ensures c.in_ok-around.ensures)
    c.joined.ensures

pub actions::around-returns : goal.actions::around-returns
actions::around-returns t c =
    subst (λ cells. IfOk c.enclosing_code.result (λ code. code ≡ cells))
    (around_is c.args.at.ground.now c.args.at.place.now (page_of (page_view c.args.page.now)) (attributes_of c.args.attributes.now) c.args.action.now (acts_of c.args.body.now)
    c.enclosing_evaluations.result c.in_ok-names.names c.in_ok-within.within c.in_ok-body.body c.enclosing_evaluations.ensures c.in_ok-names.ensures c.in_ok-within.ensures c.in_ok-body.ensures)
    c.enclosing_code.ensures

pub actions::addressed-returns : goal.actions::addressed-returns
actions::addressed-returns t c =
    subst (λ cells. IfOk c.joined.result (λ code. code ≡ cells))
    (addressed_is c.args.at.ground.now c.args.at.place.now (page_of (page_view c.args.page.now)) (attributes_of c.args.attributes.now) c.args.action.now (params_of c.args.list.now)
    c.addressing_evaluations-evaluations.result c.in_ok-code.code c.in_ok-on_address.field-0 c.addressing_evaluations-evaluations.ensures c.in_ok-code.ensures c.in_ok-on_address.ensures)
    c.joined.ensures

pub actions::on_address-returns : goal.actions::on_address-returns
actions::on_address-returns t c =
    subst (λ cells. IfOk c.addressing_code.result (λ code. code ≡ cells))
    (on_address_is c.args.at.ground.now c.args.at.place.now (page_of (page_view c.args.page.now)) (attributes_of c.args.attributes.now) c.args.action.now (params_of c.args.list.now)
    c.addressing_evaluations.result c.in_ok-names.names _ c.in_ok-cells.cells c.in_ok-up.field-0 c.addressing_evaluations.ensures c.in_ok-names.ensures c.in_ok-up.ensures c.in_ok-cells.ensures
    (sym (param_count_is c.args.list.now)))
    c.addressing_code.ensures

pub attributes::values-loop-attribute-preserved : goal.attributes::values-loop-attribute-preserved
attributes::values-loop-attribute-preserved t c =
    values_from (page_of (page_view c.args.page.now)) (coercions c.args.evaluations.now) c.loop-attribute.above _ c.args.list.now c.loop-attribute.attribute-index c.attribute-item.result
    c.of-evaluation.result c.loop-attribute.code c.join.new.self c.in_ok-above-2.above (omega arith) c.attribute-item.is
    (c.of-evaluation.ensures ∙ ap (coercions c.args.evaluations.now) (c.as_str.ensures ∙ c.name_of.ensures))
    (c.in_ok-join.ensures.ok ∙ ap (λ cells. c.loop-attribute.code ++ cells) c.in_ok-value.ensures) c.in_ok-above-2.ensures c.loop-attribute.invariant

pub attributes::values-returns : goal.attributes::values-returns
attributes::values-returns t c =
    all_of (values_code (page_of (page_view c.args.page.now)) (coercions c.args.evaluations.now) c.loop-attribute.above) c.args.list.now c.loop-attribute.attribute-index c.loop-attribute.code _
    refl (omega arith) c.loop-attribute.invariant

pub params::params-loop-made-preserved : goal.params::params-loop-made-preserved
params::params-loop-made-preserved t c =
    params_from (page_of (page_view c.args.page.now)) c.loop-made.above _ c.args.list.now c.loop-made.made-index c.made-item.result c.loop-made.code c.join.new.self c.in_ok-above-2.above
    (omega arith) c.made-item.is (c.in_ok-join.ensures.ok ∙ ap (λ cells. c.loop-made.code ++ cells) c.in_ok-param.ensures) c.in_ok-above-2.ensures c.loop-made.invariant

pub params::params-returns : goal.params::params-returns
params::params-returns t c =
    all_of (params_code (page_of (page_view c.args.page.now)) c.loop-made.above) c.args.list.now c.loop-made.made-index c.loop-made.code _ refl (omega arith) c.loop-made.invariant

pub tree::nodes-loop-act-preserved : goal.tree::nodes-loop-act-preserved
tree::nodes-loop-act-preserved t c =
    nodes_from (page_of (page_view c.args.page.now)) c.args.ground.now _ c.args.acts.now c.loop-act.act-index c.act-item.result c.loop-act.code c.join.new.self c.in_ok-visited.field-0 (omega arith)
    c.act-item.is c.in_ok-join.ensures.ok c.in_ok-visited.ensures c.loop-act.invariant

pub tree::nodes-returns : goal.tree::nodes-returns
tree::nodes-returns t c =
    all_of (nodes_code (page_of (page_view c.args.page.now)) c.args.ground.now) c.args.acts.now c.loop-act.act-index c.loop-act.code _ refl (omega arith) c.loop-act.invariant

pub choices::branches-loop-branch-preserved : goal.choices::branches-loop-branch-preserved
choices::branches-loop-branch-preserved t c =
    branches_from (page_of (page_view c.args.page.now)) c.args.ground.now _ c.args.branches.now c.loop-branch.branch-index c.branch-item.result c.loop-branch.whens.items c.push.new.self.items
    c.in_ok-when-in-When.field-0 (attributes_of c.deref.result.now) (acts_of c.deref-in-When.result.now) c.in-When.place.now (omega arith) c.branch-item.is c.in_ok-push-in-When.ensures.items
    c.in_ok-when-in-When.ensures (λ others. grind (arith, rows)) c.loop-branch.invariant

pub choices::branches-returns-in-Otherwise : goal.choices::branches-returns-in-Otherwise
choices::branches-returns-in-Otherwise t c =
    subst (λ cells. IfOk c.choice.result (λ code. code ≡ cells))
    (branches_end (page_of (page_view c.args.page.now)) c.args.ground.now _ c.args.branches.now c.loop-branch.branch-index c.branch-item.result c.loop-branch.whens.items
    c.in_ok-last-in-Otherwise.last (acts_of c.deref-in-Otherwise.result.now) c.in-Otherwise.place.now (omega arith) c.branch-item.is c.in_ok-last-in-Otherwise.ensures
    (λ others. grind (arith, rows)) c.loop-branch.invariant)
    c.choice.ensures

pub choices::branches-returns : goal.choices::branches-returns
choices::branches-returns t c =
    subst (λ cells. IfOk c.choice-2.result (λ code. code ≡ cells))
    (branches_past (page_of (page_view c.args.page.now)) c.args.ground.now _ c.args.branches.now c.loop-branch.branch-index c.loop-branch.whens.items c.new.result (omega arith) c.new.ensures
    c.loop-branch.invariant)
    c.choice-2.ensures

pub choices::when-returns : goal.choices::when-returns
choices::when-returns t c =
    λ others.
    when_is (page_of (page_view c.args.page.now)) c.args.at.ground.now (attributes_of c.args.attributes.now) (acts_of c.args.body.now) c.args.at.place.now c.in_ok-names.names
    (form_code c.args.at.ground.now (visits 1 c.args.at.place.now)) c.in_ok-code.code c.in_ok-body.body c.in_ok-made.made others c.in_ok-names.ensures refl c.in_ok-code.ensures
    c.in_ok-body.ensures c.in_ok-made.ensures

pub calls::with_fragments-loop-attribute-preserved : goal.calls::with_fragments-loop-attribute-preserved
calls::with_fragments-loop-attribute-preserved t c =
    fragments_from (page_of (page_view c.args.page.now)) c.args.decl.now _ c.args.attributes.now c.loop-attribute.attribute-index c.attribute-item.result c.loop-attribute.down
    c.add_fragment.new.down (omega arith) c.attribute-item.is c.in_ok-add_fragment.ensures c.loop-attribute.invariant

pub calls::with_fragments-returns : goal.calls::with_fragments-returns
calls::with_fragments-returns t c =
    fragments_past (page_of (page_view c.args.page.now)) c.args.decl.now _ c.args.attributes.now c.loop-attribute.attribute-index c.loop-attribute.down (omega arith) c.loop-attribute.invariant

pub calls::add_fragment-returns-in-Written : goal.calls::add_fragment-returns-in-Written
calls::add_fragment-returns-in-Written t c =
    written_is (page_of (page_view c.args.page.now)) c.args.decl.now c.args.down.now c.args.attribute.now c.in-Written.name.now (map part_of (map part_view c.in-Written.parts.now)) c.in-Written.place.now (grind (arith, rows))

pub calls::add_fragment-returns-else-is_fragment : goal.calls::add_fragment-returns-else-is_fragment
calls::add_fragment-returns-else-is_fragment t c =
    unless_fragment (page_of (page_view c.args.page.now)) c.args.decl.now c.args.down.now c.args.attribute.now c.in-Given.name c.in-Given.trim (acts_of c.in-Given.body.items)
    c.in-Given.place.now (grind (arith, rows)) (sym c.is_fragment.ensures ∙ c.if-is_fragment.false)

pub calls::add_fragment-returns-in_ok-copy-in-Given : goal.calls::add_fragment-returns-in_ok-copy-in-Given
calls::add_fragment-returns-in_ok-copy-in-Given t c =
    subst (λ handed. OnOk c.add_fragment.result (c.add_fragment.new.self ≡ handed))
    (fragment_is (page_of (page_view c.args.page.now)) c.args.decl.now c.args.down.now c.args.attribute.now c.in-Given.name c.in_ok-copy-in-Given.field-0 c.in-Given.trim
    (acts_of c.in-Given.body.items) c.in-Given.place.now c.in_ok-code-in-Given.code (grind (arith, rows)) (sym c.is_fragment.ensures ∙ c.if-is_fragment.true) c.in_ok-copy-in-Given.ensures
    (c.in_ok-code-in-Given.ensures
    ∙ ap (λ list. handed_code c.in-Given.place.now (form_code empty_shape (nodes_form (page_of (page_view c.args.page.now)) (acts_of list)))) c.deref.ensures.value))
    c.add_fragment.ensures
