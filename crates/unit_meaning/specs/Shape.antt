-- The page that a unit is: each action by its name, with what `jsp:attribute` and `jsp:body` give it in place.
use Rattle.std.specs.Prelude.{ℕ, Bool, true, false, not, List, codes, map, Option, Some, None, if◌then◌else◌}
use Rattle.std.specs.Str.{bytes_eq}
use Rattle.unit_nodes.specs.CoreName.{CoreName}
use Rattle.unit_nodes.specs.CoreName.TheVariants as core
use Rattle.page_meaning.specs.Page as page
use Rattle.unit_meaning.specs.Kinds.{is_attribute, is_body, is_param, is_when, is_otherwise, statics_of}
use Rattle.unit_meaning.specs.Named.{static_text, text_of_attribute, scope_named, variable_in, some_variable, target_in, property_in, written_before}
use Rattle.pg_text.specs.declared.place.Place.{Place}
use Rattle.unit_nodes.specs.Nodes as unit
use Rattle.unit_nodes.specs.Nodes.{ActionKind, Given, Nodes}
use Rattle.unit_nodes.specs.declared.jsp_name.JspName.{JspName}
use Rattle.unit_nodes.specs.declared.jsp_name.JspName.TheVariants as jsp

-- what stands in an action: its nodes, and those of its children that are params and branches
pub record Content : Type 0 where
  pub nodes : page.Nodes
  pub params : page.Params
  pub branches : page.Branches

-- nothing stands there
abbrev pub no_content : Content
no_content = record { nodes = page.no_nodes; params = page.no_params; branches = page.no_branches }

-- what stands in a `jsp:body`, with its source text
pub record Held : Type 0 where
  pub source : List ℕ
  pub content : Content

-- the children of an action: all of them as they stand there; the attributes that `jsp:attribute` gives; and the first `jsp:body`
pub record Children : Type 0 where
  pub own : Content
  pub given : page.Attributes
  pub held : Option Held

-- an action has none
abbrev pub no_children : Children
no_children = record { own = no_content; given = page.no_attributes; held = None }

-- an attribute stands there
abbrev pub has_attributes : page.Attributes → Bool
has_attributes page.no_attributes = false
has_attributes (page.written name parts place others) = true
has_attributes (page.given name trim nodes place others) = true

-- what `jsp:body` holds, where it stands there, or else this
abbrev pub held_or : Option Held → Content → Content
held_or (Some held) other = held.content
held_or None other = other

-- what stands in an action: what stands in its `jsp:body`, where it has one; beside `jsp:attribute` nothing else; or else all its children
abbrev pub content_in : Children → Content
content_in c = held_or c.held (if has_attributes c.given then no_content else c.own)

-- all attributes of an action
abbrev pub attributes_of : ActionKind → List Given → Children → page.Attributes
attributes_of k attributes c = written_before (statics_of k) attributes c.given

-- a core tag as a node
abbrev pub core_node : CoreName → List Given → page.Attributes → Content → Place → page.Node
core_node core.Out attributes all c place = page.out all c.nodes place
core_node core.Set attributes all c place = set_node (target_in attributes)
  where
    set_node : Option (List ℕ) → page.Node
    set_node (Some target) = page.set_entry target all c.nodes place
    set_node None = page.set (variable_in attributes) all c.nodes place
core_node core.Remove attributes all c place = page.remove (variable_in attributes) place
core_node core.Catch attributes all c place = page.catch (static_text (codes "var") attributes) c.nodes place
core_node core.If attributes all c place = page.when_true (some_variable attributes) all c.nodes place
core_node core.Choose attributes all c place = page.choose c.branches place
core_node core.When attributes all c place = page.group page.no_nodes place
core_node core.Otherwise attributes all c place = page.group page.no_nodes place
core_node core.ForEach attributes all c place = page.each (static_text (codes "var") attributes) (static_text (codes "varStatus") attributes) all c.nodes place
core_node core.ForTokens attributes all c place = page.each_token (static_text (codes "var") attributes) (static_text (codes "varStatus") attributes) all c.nodes place
core_node core.Import attributes all c place = page.import (some_variable attributes) all c.params place
core_node core.Url attributes all c place = page.url (some_variable attributes) all c.params place
core_node core.Redirect attributes all c place = page.redirect all c.params place
core_node core.Param attributes all c place = page.group page.no_nodes place

-- a standard action as a node
abbrev pub jsp_node : JspName → List Given → page.Attributes → Content → Place → page.Node
jsp_node jsp.Include attributes all c place = page.include (bytes_eq (text_of_attribute (codes "flush") attributes) (codes "true")) all c.params place
jsp_node jsp.Forward attributes all c place = page.forward all c.params place
jsp_node jsp.Param attributes all c place = page.group page.no_nodes place
jsp_node jsp.UseBean attributes all c place =
    page.use_bean (text_of_attribute (codes "id") attributes) (scope_named (text_of_attribute (codes "scope") attributes)) (text_of_attribute (codes "class") attributes) c.nodes place
jsp_node jsp.GetProperty attributes all c place = page.get_property (text_of_attribute (codes "name") attributes) (text_of_attribute (codes "property") attributes) place
jsp_node jsp.SetProperty attributes all c place = page.set_property (text_of_attribute (codes "name") attributes) (property_in attributes) all place
jsp_node jsp.Attribute attributes all c place = page.group page.no_nodes place
jsp_node jsp.Body attributes all c place = page.group page.no_nodes place
jsp_node jsp.Text attributes all c place = page.group c.nodes place
jsp_node jsp.DoBody attributes all c place = page.do_body (some_variable attributes) place
jsp_node jsp.Invoke attributes all c place = page.invoke (text_of_attribute (codes "fragment") attributes) (some_variable attributes) place

-- the body of a call without `jsp:attribute` and `jsp:body`, where it has one
abbrev pub body_if : Bool → (source : List ℕ) → page.Nodes → page.Body
body_if true source nodes = page.given_body source nodes
body_if false source nodes = page.no_body

-- what `jsp:body` gives a call, or else this
abbrev pub held_body_or : Option Held → page.Body → page.Body
held_body_or (Some held) other = page.given_body held.source held.content.nodes
held_body_or None other = other

-- the body of a call: what stands in it, with its source text
abbrev pub call_body : (has_body : Bool) → (source : List ℕ) → Children → page.Body
call_body has_body source c = held_body_or c.held (if has_attributes c.given then page.no_body else body_if has_body source c.own.nodes)

-- an action as a node
abbrev pub action_node : ActionKind → List Given → (has_body : Bool) → (source : List ℕ) → Children → Place → page.Node
action_node (unit.standard n) attributes has_body source c place = jsp_node n attributes (attributes_of (unit.standard n) attributes c) (content_in c) place
action_node (unit.core n) attributes has_body source c place = core_node n attributes (attributes_of (unit.core n) attributes c) (content_in c) place
action_node (unit.call path) attributes has_body source c place = page.call path (attributes_of (unit.call path) attributes c) (call_body has_body source c) place

-- the attribute that an action gives, before others
abbrev pub given_if : Bool → List Given → page.Nodes → Place → page.Attributes → page.Attributes
given_if true attributes nodes place others = page.given (text_of_attribute (codes "name") attributes) (not (bytes_eq (text_of_attribute (codes "trim") attributes) (codes "false"))) nodes place others
given_if false attributes nodes place others = others

-- the param that an action is, before others
abbrev pub param_if : Bool → page.Attributes → page.Nodes → Place → page.Params → page.Params
param_if true attrs nodes place others = page.param attrs nodes place others
param_if false attrs nodes place others = others

-- the branch that an action is, before others
abbrev pub branch_if : (is_when is_otherwise : Bool) → page.Attributes → page.Nodes → Place → page.Branches → page.Branches
branch_if true o attrs nodes place others = page.when attrs nodes place others
branch_if false true attrs nodes place others = page.otherwise nodes place others
branch_if false false attrs nodes place others = others

-- the `jsp:body` that an action is, before another
abbrev pub held_if : Bool → (source : List ℕ) → Content → Option Held → Option Held
held_if true source content other = Some (record { source = source; content = content })
held_if false source content other = other

-- with a node before the others
abbrev pub with_node : page.Node → Children → Children
with_node n c = record c { own = record { nodes = page.more_nodes n c.own.nodes; params = c.own.params; branches = c.own.branches } }

-- with an action before the others, of which `inner` are the children
abbrev pub with_action : ActionKind → List Given → (has_body : Bool) → (source : List ℕ) → Place → (inner : Children) → Children → Children
with_action k attributes has_body source place inner c = record {
  own = record {
    nodes = page.more_nodes (action_node k attributes has_body source inner place) c.own.nodes;
    params = param_if (is_param k) (attributes_of k attributes inner) (content_in inner).nodes place c.own.params;
    branches = branch_if (is_when k) (is_otherwise k) (attributes_of k attributes inner) (content_in inner).nodes place c.own.branches;
  };
  given = given_if (is_attribute k) attributes (content_in inner).nodes place c.given;
  held = held_if (is_body k) source (content_in inner) c.held;
}

-- the children of an action whose body these nodes are
abbrev pub children_of : Nodes → Children
children_of unit.done = no_children
children_of (unit.template t place next) = with_node (page.template t place) (children_of next)
children_of (unit.shown e place next) = with_node (page.shown e place) (children_of next)
children_of (unit.action a body next) = with_action a.kind a.attributes a.has_body a.source a.place (children_of body) (children_of next)

-- the nodes of a page
abbrev pub nodes_of : Nodes → page.Nodes
nodes_of nodes = (children_of nodes).own.nodes

abbrev pub tag_of : unit.TagFile → page.TagFile
tag_of tag = record { path = tag.path; decl = tag.decl; settings = tag.settings; nodes = nodes_of tag.nodes }

-- the page that a unit is
abbrev pub page_of : unit.Page → page.Page
page_of p = record { path = p.path; nodes = nodes_of p.nodes; settings = p.settings; tags = map tag_of p.tags; beans = p.beans }
