-- Every part of a page is orderly.
use Rattle.std.proofs.Common.{ℕ, zero, suc, Bool, true, false, List, [], arith, codes}
use Rattle.http_in.specs.declared.params.Param.{Param}
use Rattle.pg_value.specs.Datum.{Datum}
use Rattle.page_meaning.specs.Addresses.{url_text, with_pair, local_url, written_or_kept, url_mean, redirect_mean}
use Rattle.page_meaning.specs.Attributes.{Values, Coercion, coercion_in, parts_value, attribute_value, with_values, text_at}
use Rattle.page_meaning.specs.Beans.{set_property_mean, value_place}
use Rattle.page_meaning.specs.Bodies.{given_value}
use Rattle.page_meaning.specs.Coercions.{out_coercions, set_coercions, test_coercions, each_coercions, token_coercions, url_coercions, page_coercions, param_coercions}
use Rattle.page_meaning.specs.Context.{Served, Here, run_of, Deeper}
use Rattle.page_meaning.specs.Core.{out_mean, set_mean, set_entry_mean, if_mean, each_mean, each_token_mean}
use Rattle.page_meaning.specs.Expressions.{ev}
use Rattle.page_meaning.specs.Fragments.{body_in, fragment_in, fragment_mean}
use Rattle.page_meaning.specs.Growth.{with_more}
use Rattle.page_meaning.specs.Includes.{include_mean, forward_mean}
use Rattle.page_meaning.specs.Meaning.{is_test_true, flush_if, bean_of, node_mean, nodes_mean, attributes_mean, params_mean, branches_mean, below}
use Rattle.page_meaning.specs.Page.{Node, template, shown, out, set, set_entry, remove, catch, when_true, choose, each, each_token, import, url, redirect, include, forward, use_bean, get_property, set_property, group, do_body, invoke, call, Nodes, no_nodes, more_nodes, Attributes, no_attributes, written, given, Params, no_params, param, Branches, no_branches, when, otherwise, place_of}
use Rattle.page_meaning.specs.State.{State}
use Rattle.page_meaning.specs.Tags.{tag_at}
use Rattle.page_meaning.specs.Went.{Went, Did, then_do, either}
use Rattle.page_meaning.specs.Work.{visited}
use Rattle.page_meaning.proofs.Actions.{each_orderly, each_token_orderly, out_orderly, set_orderly, set_entry_orderly, if_orderly, url_text_orderly, with_pair_orderly, and_params_orderly, local_url_orderly, written_or_kept_orderly, url_orderly, use_bean_orderly, get_property_orderly, set_property_orderly}
use Rattle.page_meaning.proofs.Nested.{DeepOrderly, catch_orderly, include_orderly, forward_orderly, redirect_orderly, tag_orderly, fragment_orderly}
use Rattle.page_meaning.proofs.Orderly.{Orderly, Calm, well, behind, thens, eithers, more_at}
use Rattle.page_meaning.proofs.Values.{ev_orderly, parts_orderly, attribute_orderly, and_others_orderly, with_values_orderly}
use Rattle.page_meaning.proofs.Words.{nothing_calm, flush_calm, visited_orderly, unassign_in_orderly, put_text_orderly, shown_orderly, given_value_orderly}

flush_if_calm : (flush : Bool) → Calm (flush_if flush)
flush_if_calm true = flush_calm
flush_if_calm false = nothing_calm

module _ (served : Served) (deep : Deeper) (left : ℕ) (h : DeepOrderly left deep) where
  mutual
    pub node_orderly : (n : Node) (here : Here) → Orderly left (node_mean served deep n here)
    node_orderly (template t place) here = put_text_orderly place t
    node_orderly (shown e place) here = shown_orderly place (ev served here place e) (ev_orderly served here place e)
    node_orderly (out attributes body place) here =
        with_values_orderly (coercion_in out_coercions) attributes (attributes_mean served deep attributes here) (λ vs s1. out_mean place vs (nodes_mean served deep body here) s1)
        (attributes_orderly attributes here (coercion_in out_coercions)) (λ vs. out_orderly place vs (nodes_mean served deep body here) (nodes_orderly body here))
    node_orderly (set x attributes body place) here =
        with_values_orderly (coercion_in set_coercions) attributes (attributes_mean served deep attributes here) (λ vs s1. set_mean place x vs (nodes_mean served deep body here) s1)
        (attributes_orderly attributes here (coercion_in set_coercions)) (λ vs. set_orderly place x vs (nodes_mean served deep body here) (nodes_orderly body here))
    node_orderly (set_entry target attributes body place) here =
        with_values_orderly (coercion_in set_coercions) attributes (attributes_mean served deep attributes here) (λ vs s1. set_entry_mean place target vs (nodes_mean served deep body here) s1)
        (attributes_orderly attributes here (coercion_in set_coercions)) (λ vs. set_entry_orderly place target vs (nodes_mean served deep body here) (nodes_orderly body here))
    node_orderly (remove x place) here = unassign_in_orderly place x.scope x.name
    node_orderly (catch x body place) here = catch_orderly x (nodes_mean served deep body here) (nodes_orderly body here)
    node_orderly (when_true x attributes body place) here =
        with_values_orderly (coercion_in test_coercions) attributes (attributes_mean served deep attributes here) (λ vs s1. if_mean place x (is_test_true vs) (nodes_mean served deep body here) s1)
        (attributes_orderly attributes here (coercion_in test_coercions)) (λ vs. if_orderly place x (is_test_true vs) (nodes_mean served deep body here) (nodes_orderly body here))
    node_orderly (choose branches place) here = branches_orderly branches here
    node_orderly (each x status attributes body place) here =
        with_values_orderly (coercion_in each_coercions) attributes (attributes_mean served deep attributes here) (λ vs s1. each_mean place x status vs (nodes_mean served deep body here) s1)
        (attributes_orderly attributes here (coercion_in each_coercions)) (λ vs. each_orderly place x status vs (nodes_mean served deep body here) (nodes_orderly body here))
    node_orderly (each_token x status attributes body place) here =
        with_values_orderly (coercion_in token_coercions) attributes (attributes_mean served deep attributes here) (λ vs s1. each_token_mean place x status vs (nodes_mean served deep body here) s1)
        (attributes_orderly attributes here (coercion_in token_coercions)) (λ vs. each_token_orderly place x status vs (nodes_mean served deep body here) (nodes_orderly body here))
    node_orderly (import x attributes params place) here =
        with_values_orderly (coercion_in url_coercions) attributes (attributes_mean served deep attributes here)
        (λ vs s1. then_do (url_text place (text_at (codes "url") vs) (params_mean served deep params here) s1)
        (λ target s2. written_or_kept place x (local_url place target (include_mean served deep place (run_of here) target [])) s2))
        (attributes_orderly attributes here (coercion_in url_coercions))
        (λ vs. thens (url_text place (text_at (codes "url") vs) (params_mean served deep params here))
        (λ target s2. written_or_kept place x (local_url place target (include_mean served deep place (run_of here) target [])) s2)
        (url_text_orderly place (text_at (codes "url") vs) (params_mean served deep params here) (params_orderly params here))
        (λ target. written_or_kept_orderly place x (local_url place target (include_mean served deep place (run_of here) target []))
        (local_url_orderly place target (include_mean served deep place (run_of here) target []) (include_orderly served deep place (run_of here) target [] h))))
    node_orderly (url x attributes params place) here =
        with_values_orderly (coercion_in url_coercions) attributes (attributes_mean served deep attributes here)
        (λ vs s1. then_do (url_text place (text_at (codes "value") vs) (params_mean served deep params here) s1) (λ t s2. url_mean place x t s2)) (attributes_orderly attributes here (coercion_in url_coercions))
        (λ vs. thens (url_text place (text_at (codes "value") vs) (params_mean served deep params here)) (λ t s2. url_mean place x t s2)
        (url_text_orderly place (text_at (codes "value") vs) (params_mean served deep params here) (params_orderly params here)) (λ t. url_orderly place x t))
    node_orderly (redirect attributes params place) here =
        with_values_orderly (coercion_in url_coercions) attributes (attributes_mean served deep attributes here)
        (λ vs s1. then_do (url_text place (text_at (codes "url") vs) (params_mean served deep params here) s1) (λ t s2. redirect_mean place t s2)) (attributes_orderly attributes here (coercion_in url_coercions))
        (λ vs. thens (url_text place (text_at (codes "url") vs) (params_mean served deep params here)) (λ t s2. redirect_mean place t s2)
        (url_text_orderly place (text_at (codes "url") vs) (params_mean served deep params here) (params_orderly params here)) (λ t. redirect_orderly place t))
    node_orderly (include flush attributes params place) here =
        with_values_orderly (coercion_in page_coercions) attributes (attributes_mean served deep attributes here)
        (λ vs s1. then_do (params_mean served deep params here s1) (λ ps s2. include_mean served deep place (run_of here) (text_at (codes "page") vs) ps (flush_if flush s2)))
        (attributes_orderly attributes here (coercion_in page_coercions))
        (λ vs. thens (params_mean served deep params here) (λ ps s2. include_mean served deep place (run_of here) (text_at (codes "page") vs) ps (flush_if flush s2)) (params_orderly params here)
        (λ ps. behind (include_mean served deep place (run_of here) (text_at (codes "page") vs) ps) (flush_if flush) (flush_if_calm flush)
        (include_orderly served deep place (run_of here) (text_at (codes "page") vs) ps h)))
    node_orderly (forward attributes params place) here =
        with_values_orderly (coercion_in page_coercions) attributes (attributes_mean served deep attributes here)
        (λ vs s1. then_do (params_mean served deep params here s1) (λ ps s2. forward_mean served deep place (run_of here) (text_at (codes "page") vs) ps s2)) (attributes_orderly attributes here (coercion_in page_coercions))
        (λ vs. thens (params_mean served deep params here) (λ ps s2. forward_mean served deep place (run_of here) (text_at (codes "page") vs) ps s2) (params_orderly params here)
        (λ ps. forward_orderly served deep place (run_of here) (text_at (codes "page") vs) ps h))
    node_orderly (use_bean name sc class body place) here = use_bean_orderly place sc name (bean_of here class) (nodes_mean served deep body here) (nodes_orderly body here)
    node_orderly (get_property name property place) here = get_property_orderly place name property
    node_orderly (set_property name property attributes place) here =
        with_values_orderly (coercion_in []) attributes (attributes_mean served deep attributes here)
        (λ vs s1. set_property_mean place (value_place attributes place) name property vs (run_of here).params s1) (attributes_orderly attributes here (coercion_in []))
        (λ vs. set_property_orderly place (value_place attributes place) name property vs (run_of here).params)
    node_orderly (group body place) here = nodes_orderly body here
    node_orderly (do_body x place) here = written_or_kept_orderly place x (fragment_mean deep place (body_in here) here) (fragment_orderly deep place (body_in here) here h)
    node_orderly (invoke name x place) here = written_or_kept_orderly place x (fragment_mean deep place (fragment_in name here) here) (fragment_orderly deep place (fragment_in name here) here h)
    node_orderly (call path attributes b place) here =
        tag_orderly deep place (tag_at path (run_of here).page.tags) attributes b here (attributes_mean served deep attributes here) h (attributes_orderly attributes here)

    pub nodes_orderly : (ns : Nodes) (here : Here) → Orderly left (nodes_mean served deep ns here)
    nodes_orderly no_nodes here = well tt
    nodes_orderly (more_nodes n rest) here =
        thens (visited (place_of n) (node_mean served deep n here)) (λ u s1. nodes_mean served deep rest here s1) (visited_orderly (place_of n) (node_mean served deep n here) (node_orderly n here))
        (λ u. nodes_orderly rest here)

    pub attributes_orderly : (attributes : Attributes) (here : Here) (coercion : List ℕ → Coercion) → Orderly left (attributes_mean served deep attributes here coercion)
    attributes_orderly no_attributes here coercion = well []
    attributes_orderly (written name parts place rest) here coercion =
        and_others_orderly (attribute_value (coercion name) place (parts_value served here place parts)) (attributes_mean served deep rest here coercion)
        (attribute_orderly (coercion name) place (parts_value served here place parts) (parts_orderly served here place parts)) (attributes_orderly rest here coercion)
    attributes_orderly (given name trim nodes place rest) here coercion =
        let value : State → Went Datum = visited place (given_value trim place (nodes_mean served deep nodes here)) in
        and_others_orderly (attribute_value (coercion name) place value) (attributes_mean served deep rest here coercion)
        (attribute_orderly (coercion name) place value
        (visited_orderly place (given_value trim place (nodes_mean served deep nodes here)) (given_value_orderly trim place (nodes_mean served deep nodes here) (nodes_orderly nodes here))))
        (attributes_orderly rest here coercion)

    pub params_orderly : (params : Params) (here : Here) → Orderly left (params_mean served deep params here)
    params_orderly no_params here = well []
    params_orderly (param attributes body place rest) here =
        let pair : State → Went Param = λ s1. with_pair attributes (attributes_mean served deep attributes here) place (nodes_mean served deep body here) s1 in
        and_params_orderly (visited place pair) (params_mean served deep rest here)
        (visited_orderly place pair (with_pair_orderly attributes (attributes_mean served deep attributes here) place (nodes_mean served deep body here)
        (attributes_orderly attributes here (coercion_in param_coercions)) (nodes_orderly body here)))
        (params_orderly rest here)

    pub branches_orderly : (branches : Branches) (here : Here) → Orderly left (branches_mean served deep branches here)
    branches_orderly no_branches here = well tt
    branches_orderly (when attributes body place rest) here =
        let go : Values → State → Did = λ vs s1. either (is_test_true vs) (nodes_mean served deep body here) (branches_mean served deep rest here) s1 in
        let part : State → Did = with_values (coercion_in test_coercions) attributes (attributes_mean served deep attributes here) go in
        visited_orderly place part
        (with_values_orderly (coercion_in test_coercions) attributes (attributes_mean served deep attributes here) go (attributes_orderly attributes here (coercion_in test_coercions))
        (λ vs. eithers (is_test_true vs) (nodes_mean served deep body here) (branches_mean served deep rest here) (nodes_orderly body here) (branches_orderly rest here)))
    branches_orderly (otherwise body place rest) here = visited_orderly place (nodes_mean served deep body here) (nodes_orderly body here)

-- what runs one deeper is orderly, whatever the levels left
pub below_orderly : (served : Served) (left : ℕ) → DeepOrderly left (below served left)
below_orderly served zero = tt
below_orderly served (suc left) = (
  omega arith,
  λ nodes here s. more_at left (suc left) (omega arith) s (nodes_mean served (below served left) nodes here s) (λ more. nodes_mean served (below served left) nodes here (with_more more s))
      (nodes_orderly served (below served left) left (below_orderly served left) nodes here s),
)
