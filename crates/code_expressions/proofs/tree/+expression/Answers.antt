use Rattle.std.proofs.Common.{◌≡◌, ◌++◌, IfOk, length, map, arith, refl, sym, ap, subst, ◌∙◌}
use Rattle.el_reader.proofs.Rows.{rows}
use Rattle.el_reader.specs.El.{pair_of, tree_of}
use Rattle.el_reader.specs.Tree.{call, list, map as mapping, pairs_of, trees_of}
use Rattle.code_forms.specs.Codes.{form_code}
use Rattle.code_lowering.specs.Expressions.{value_form}
use Rattle.pg_value.specs.Function.{function_named}
use Rattle.code_expressions.specs.Calls.{call_code}
use Rattle.code_expressions.proofs.ChainLemmas.{chain_begins, link_is_below, operation_linked}
use Rattle.code_expressions.proofs.ListLemmas.{links_from, pairs_code, pairs_end, pairs_from, trees_code, trees_end, trees_from}
use Rattle.code_expressions.proofs.OperandLemmas.{call_is, list_is, map_is}
use Rattle.code_expressions.proofs.tree.+expression.Goals as goal

pub value-loop-link-init : goal.value-loop-link-init
value-loop-link-init t c =
    chain_begins c.args.ground.now c.args.place.now _ _ c.in_ok-chain.chain.links.items c.deref.result.now c.in-Some.links.now c.in-Some.first.now c.in_ok-code-in-Some.code
    c.in_ok-chain.ensures.whole c.deref.ensures.value c.in-Some.ensures.cases c.in_ok-code-in-Some.ensures

pub value-next_link-requires : goal.value-next_link-requires
value-next_link-requires t c = (
  omega (
    arith,
    link_is_below _ c.in_ok-chain.chain.links.items c.deref.result.now c.in-Some.links.now c.in-Some.first.now c.link-item.result c.loop-link.link-index c.in_ok-chain.ensures.link_depths
        c.deref.ensures.value c.in-Some.ensures.cases (omega arith) c.link-item.is,
  ),
  tt,
)

pub value-loop-link-preserved : goal.value-loop-link-preserved
value-loop-link-preserved t c =
    links_from c.args.ground.now c.args.place.now _ c.in-Some.links.now c.loop-link.link-index c.link-item.result c.loop-link.code c.join.new.self (omega arith) c.link-item.is
    (c.in_ok-join-in-Some.ensures.ok ∙ ap (λ cells. c.loop-link.code ++ cells) c.in_ok-next_link-in-Some.ensures) c.loop-link.invariant

pub expressions-loop-item-preserved : goal.expressions-loop-item-preserved
expressions-loop-item-preserved t c =
    trees_from c.loop-item.above c.args.place.now _ c.args.items.now c.loop-item.item-index c.item-item.result c.loop-item.code c.join.new.self c.in_ok-above-2.above (omega arith) c.item-item.is
    (c.in_ok-join.ensures.ok ∙ ap (λ cells. c.loop-item.code ++ cells) c.in_ok-expression.ensures) c.in_ok-above-2.ensures c.loop-item.invariant

pub expressions-returns : goal.expressions-returns
expressions-returns t c = trees_end c.loop-item.above c.args.place.now _ c.args.items.now c.loop-item.item-index c.loop-item.code (omega arith) c.loop-item.invariant

pub entries-loop-key-preserved : goal.entries-loop-key-preserved
entries-loop-key-preserved t c =
    pairs_from c.loop-key.above c.args.place.now _ c.args.pairs.now c.loop-key.key-index c.loop-key-item.result c.loop-key.code c.join.new.self c.join-in-loop-key.new.self c.in_ok-above-2.above
    c.in_ok-above-3.above (omega arith) c.loop-key-item.is (c.in_ok-join.ensures.ok ∙ ap (λ cells. c.loop-key.code ++ cells) c.in_ok-expression.ensures) c.in_ok-above-2.ensures
    (c.in_ok-join-2.ensures.ok ∙ ap (λ cells. c.join.new.self ++ cells) c.in_ok-expression-2.ensures) c.in_ok-above-3.ensures c.loop-key.invariant

pub entries-returns : goal.entries-returns
entries-returns t c = pairs_end c.loop-key.above c.args.place.now _ c.args.pairs.now c.loop-key.key-index c.loop-key.code (omega arith) c.loop-key.invariant

pub operand-returns-in_ok-arguments-in-Call : goal.operand-returns-in_ok-arguments-in-Call
operand-returns-in_ok-arguments-in-Call t c =
    let ground = c.args.ground.now in
    let place = c.args.place.now in
    let items = c.in-Call.args.items in
    let whole : tree_of c.args.el.now ≡ call c.in-Call.prefix c.in-Call.name (trees_of (map tree_of items)) = grind (arith, rows) in
    let count : c.len.result ≡ length items = omega (arith, c.in-Call.args.ok.0) in
    subst (λ tree. IfOk c.call.result (λ code. code ≡ form_code ground (value_form place tree))) (sym whole)
    (subst (λ cells. IfOk c.call.result (λ code. code ≡ cells))
    (ap (λ name. call_code ground place (function_named name) c.len.result c.in_ok-arguments-in-Call.arguments) c.as_str.ensures
    ∙ call_is ground place (function_named c.in-Call.name) (trees_of (map tree_of items)) items c.len.result c.in_ok-arguments-in-Call.arguments refl count
    (c.in_ok-arguments-in-Call.ensures ∙ ap (λ list. trees_code ground place list) c.deref.ensures.value))
    c.call.ensures)

pub operand-returns-in_ok-values-in-List : goal.operand-returns-in_ok-values-in-List
operand-returns-in_ok-values-in-List t c =
    let ground = c.args.ground.now in
    let place = c.args.place.now in
    let items = c.in-List.items.items in
    let whole : tree_of c.args.el.now ≡ list (trees_of (map tree_of items)) = grind (arith, rows) in
    let count : c.len-in-List.result ≡ length items = omega (arith, c.in-List.items.ok.0) in
    subst (λ tree. IfOk c.made_of.result (λ code. code ≡ form_code ground (value_form place tree))) (sym whole)
    (subst (λ cells. IfOk c.made_of.result (λ code. code ≡ cells))
    (list_is ground place (trees_of (map tree_of items)) items c.len-in-List.result c.in_ok-values-in-List.values refl count
    (c.in_ok-values-in-List.ensures ∙ ap (λ l. trees_code ground place l) c.deref-in-List.ensures.value))
    c.made_of.ensures)

pub operand-returns-in_ok-values-in-Map : goal.operand-returns-in_ok-values-in-Map
operand-returns-in_ok-values-in-Map t c =
    let ground = c.args.ground.now in
    let place = c.args.place.now in
    let pairs = c.in-Map.pairs.items in
    let whole : tree_of c.args.el.now ≡ mapping (pairs_of (map pair_of pairs)) = grind (arith, rows) in
    let count : c.len-in-Map.result ≡ length pairs = omega (arith, c.in-Map.pairs.ok.0) in
    subst (λ tree. IfOk c.made_of-in-Map.result (λ code. code ≡ form_code ground (value_form place tree))) (sym whole)
    (subst (λ cells. IfOk c.made_of-in-Map.result (λ code. code ≡ cells))
    (map_is ground place (pairs_of (map pair_of pairs)) pairs c.len-in-Map.result c.in_ok-values-in-Map.values refl count
    (c.in_ok-values-in-Map.ensures ∙ ap (λ l. pairs_code ground place l) c.deref-in-Map.ensures.value))
    c.made_of-in-Map.ensures)

pub first_link-returns-in-Operation : goal.first_link-returns-in-Operation
first_link-returns-in-Operation t c =
    subst (λ cells. IfOk c.whole_link-in-Operation.result (λ code. code ≡ cells))
    (operation_linked c.args.ground.now c.args.place.now (tree_of c.args.value.now) c.args.link.now c.in-Operation.is) c.whole_link-in-Operation.ensures
