-- What a page does, by recursion on its nodes.
use Rattle.std.specs.Prelude.{ℕ, zero, suc, Bool, true, false, List, [], codes, length}
use Rattle.el_ops.specs.Indexing.{or_null}
use Rattle.http_in.specs.declared.params.Param.{Param}
use Rattle.pg_value.specs.Attrs.{entry_at}
use Rattle.pg_value.specs.Datum.{Datum}
use Rattle.page_meaning.specs.Addresses.{url_text, with_pair, and_params, local_url, written_or_kept, url_mean, redirect_mean}
use Rattle.page_meaning.specs.Attributes.{Values, Coercion, coercion_in, parts_value, attribute_value, and_others, with_values, value_at, text_at, truth_or}
use Rattle.page_meaning.specs.Beans.{use_bean_mean, get_property_mean, set_property_mean, value_place}
use Rattle.page_meaning.specs.Bodies.{put_text, given_value, shown_mean}
use Rattle.page_meaning.specs.Coercions.{out_coercions, set_coercions, test_coercions, each_coercions, token_coercions, url_coercions, page_coercions}
use Rattle.page_meaning.specs.Context.{Served, Here, run_of, Deeper, no_deeper, deeper}
use Rattle.page_meaning.specs.Core.{out_mean, set_mean, set_entry_mean, catch_mean, if_mean, each_mean, each_token_mean}
use Rattle.page_meaning.specs.Expressions.{ev}
use Rattle.page_meaning.specs.Fragments.{body_in, fragment_in, fragment_mean}
use Rattle.page_meaning.specs.Includes.{include_mean, forward_mean}
use Rattle.page_meaning.specs.Page.{Node, template, shown, out, set, set_entry, remove, catch, when_true, choose, each, each_token, import, url, redirect, include, forward, use_bean, get_property, set_property, group, do_body, invoke, call, Nodes, no_nodes, more_nodes, Attributes, no_attributes, written, given, Params, no_params, param, Branches, no_branches, when, otherwise, place_of}
use Rattle.page_meaning.specs.State.{State, in_writer}
use Rattle.page_meaning.specs.Tags.{tag_at, tag_mean}
use Rattle.page_meaning.specs.Variables.{unassign_in}
use Rattle.page_meaning.specs.Went.{Did, Went, Well, then_do, either}
use Rattle.page_meaning.specs.Work.{visited}
use Rattle.out_buffer.specs.Writer.{flush}

-- whether a test is true
abbrev pub is_test_true : Values → Bool
is_test_true vs = truth_or false (value_at (codes "test") vs)

-- flushes the buffer, where that is asked
abbrev pub flush_if : Bool → State → State
flush_if true s = in_writer (flush s.writer) s
flush_if false s = s

-- the bean of a class
abbrev pub bean_of : Here → List ℕ → Datum
bean_of here class = or_null (entry_at class (run_of here).page.beans)

abbrev mutual
  -- a node behind its visit
  pub node_mean : Served → Deeper → Node → Here → State → Did
  node_mean served deep (template t place) here s = put_text place t s
  node_mean served deep (shown e place) here s = shown_mean place (ev served here place e) s
  node_mean served deep (out attributes body place) here s =
      with_values (coercion_in out_coercions) attributes (attributes_mean served deep attributes here) (λ vs s1. out_mean place vs (nodes_mean served deep body here) s1) s
  node_mean served deep (set x attributes body place) here s =
      with_values (coercion_in set_coercions) attributes (attributes_mean served deep attributes here) (λ vs s1. set_mean place x vs (nodes_mean served deep body here) s1) s
  node_mean served deep (set_entry target attributes body place) here s =
      with_values (coercion_in set_coercions) attributes (attributes_mean served deep attributes here) (λ vs s1. set_entry_mean place target vs (nodes_mean served deep body here) s1) s
  node_mean served deep (remove x place) here s = unassign_in place x.scope x.name s
  node_mean served deep (catch x body place) here s = catch_mean x (length s.writer.kept) (nodes_mean served deep body here s)
  node_mean served deep (when_true x attributes body place) here s =
      with_values (coercion_in test_coercions) attributes (attributes_mean served deep attributes here) (λ vs s1. if_mean place x (is_test_true vs) (nodes_mean served deep body here) s1) s
  node_mean served deep (choose branches place) here s = branches_mean served deep branches here s
  node_mean served deep (each x status attributes body place) here s =
      with_values (coercion_in each_coercions) attributes (attributes_mean served deep attributes here) (λ vs s1. each_mean place x status vs (nodes_mean served deep body here) s1) s
  node_mean served deep (each_token x status attributes body place) here s =
      with_values (coercion_in token_coercions) attributes (attributes_mean served deep attributes here) (λ vs s1. each_token_mean place x status vs (nodes_mean served deep body here) s1) s
  node_mean served deep (import x attributes params place) here s =
      with_values (coercion_in url_coercions) attributes (attributes_mean served deep attributes here)
      (λ vs s1. then_do (url_text place (text_at (codes "url") vs) (params_mean served deep params here) s1)
      (λ target s2. written_or_kept place x (local_url place target (include_mean served deep place (run_of here) target [])) s2)) s
  node_mean served deep (url x attributes params place) here s =
      with_values (coercion_in url_coercions) attributes (attributes_mean served deep attributes here)
      (λ vs s1. then_do (url_text place (text_at (codes "value") vs) (params_mean served deep params here) s1) (λ t s2. url_mean place x t s2)) s
  node_mean served deep (redirect attributes params place) here s =
      with_values (coercion_in url_coercions) attributes (attributes_mean served deep attributes here)
      (λ vs s1. then_do (url_text place (text_at (codes "url") vs) (params_mean served deep params here) s1) (λ t s2. redirect_mean place t s2)) s
  node_mean served deep (include flush attributes params place) here s =
      with_values (coercion_in page_coercions) attributes (attributes_mean served deep attributes here)
      (λ vs s1. then_do (params_mean served deep params here s1) (λ ps s2. include_mean served deep place (run_of here) (text_at (codes "page") vs) ps (flush_if flush s2))) s
  node_mean served deep (forward attributes params place) here s =
      with_values (coercion_in page_coercions) attributes (attributes_mean served deep attributes here)
      (λ vs s1. then_do (params_mean served deep params here s1) (λ ps s2. forward_mean served deep place (run_of here) (text_at (codes "page") vs) ps s2)) s
  node_mean served deep (use_bean name sc class body place) here s = use_bean_mean place sc name (bean_of here class) (nodes_mean served deep body here) s
  node_mean served deep (get_property name property place) here s = get_property_mean place name property s
  node_mean served deep (set_property name property attributes place) here s =
      with_values (coercion_in []) attributes (attributes_mean served deep attributes here) (λ vs s1. set_property_mean place (value_place attributes place) name property vs (run_of here).params s1) s
  node_mean served deep (group body place) here s = nodes_mean served deep body here s
  node_mean served deep (do_body x place) here s = written_or_kept place x (fragment_mean deep place (body_in here) here) s
  node_mean served deep (invoke name x place) here s = written_or_kept place x (fragment_mean deep place (fragment_in name here) here) s
  node_mean served deep (call path attributes b place) here s = tag_mean deep place (tag_at path (run_of here).page.tags) attributes b here (attributes_mean served deep attributes here) s

  -- nodes one after the other, each behind its visit
  pub nodes_mean : Served → Deeper → Nodes → Here → State → Did
  nodes_mean served deep no_nodes here s = Well tt s
  nodes_mean served deep (more_nodes node rest) here s =
      then_do (visited (place_of node) (node_mean served deep node here) s) (λ u s1. nodes_mean served deep rest here s1)

  -- the values of the attributes that are evaluated, in order
  pub attributes_mean : Served → Deeper → Attributes → Here → (List ℕ → Coercion) → State → Went (List Datum)
  attributes_mean served deep no_attributes here coercion s = Well [] s
  attributes_mean served deep (written name parts place rest) here coercion s =
      and_others (attribute_value (coercion name) place (parts_value served here place parts)) (attributes_mean served deep rest here coercion) s
  attributes_mean served deep (given name trim nodes place rest) here coercion s =
      and_others (attribute_value (coercion name) place (visited place (given_value trim place (nodes_mean served deep nodes here)))) (attributes_mean served deep rest here coercion) s

  -- the names and values of params, in order, each behind its visit
  pub params_mean : Served → Deeper → Params → Here → State → Went (List Param)
  params_mean served deep no_params here s = Well [] s
  params_mean served deep (param attributes body place rest) here s =
      and_params (visited place (λ s1. with_pair attributes (attributes_mean served deep attributes here) place (nodes_mean served deep body here) s1))
      (params_mean served deep rest here) s

  -- the first branch whose test is true; each test behind its visit
  pub branches_mean : Served → Deeper → Branches → Here → State → Did
  branches_mean served deep no_branches here s = Well tt s
  branches_mean served deep (when attributes body place rest) here s =
      visited place (with_values (coercion_in test_coercions) attributes (attributes_mean served deep attributes here)
      (λ vs s1. either (is_test_true vs) (nodes_mean served deep body here) (branches_mean served deep rest here) s1)) s
  branches_mean served deep (otherwise body place rest) here s = visited place (nodes_mean served deep body here) s

-- what may run below so many further levels
abbrev pub below : Served → ℕ → Deeper
below served zero = no_deeper
below served (suc left) = deeper left (nodes_mean served (below served left))
