-- What stands in a `jsp:body`, as what stands in the action around it.
use Rattle.std.proofs.Common.{◌≡◌, ◌∙◌, ◌||◌, Bool, true, false, List, ℕ, Some, refl, ap, sym, if◌then◌else◌}
use Rattle.page_meaning.specs.Page as page
use Rattle.unit_meaning.specs.Kinds.{is_attribute, is_body, is_call, is_otherwise, is_param, is_when, statics_of}
use Rattle.unit_meaning.specs.Laws.{has_body, has_parts}
use Rattle.unit_meaning.specs.Named.{written_before}
use Rattle.unit_meaning.specs.Shape.{Children, Content, action_node, attributes_of, branch_if, children_of, content_in, core_node, given_if, has_attributes, held_if, held_or, jsp_node, no_content, param_if, with_action}
use Rattle.pg_text.specs.declared.place.Place.{Place}
use Rattle.unit_nodes.specs.Nodes as unit
use Rattle.unit_nodes.specs.Nodes.{Action, ActionKind, Given, Nodes, joined}
use Rattle.unit_nodes.specs.declared.jsp_name.JspName.TheVariants as jsp

left_false : (a b : Bool) → a || b ≡ false → a ≡ false
left_false false b is = refl
left_false true b is = is

right_false : (a b : Bool) → a || b ≡ false → b ≡ false
right_false false b is = is
right_false true b is = cc

-- the first `jsp:body` behind nodes without one
held_behind : (before inner after : Nodes) (body : Action) → body.kind ≡ unit.standard jsp.Body → has_body before ≡ false
    → (children_of (joined before (unit.action body inner after))).held ≡ Some (record { source = body.source; content = content_in (children_of inner) })
held_behind unit.done inner after body is none = ap (λ k. held_if (is_body k) body.source (content_in (children_of inner)) (children_of after).held) is
held_behind (unit.template t place next) inner after body is none = held_behind next inner after body is none
held_behind (unit.shown e place next) inner after body is none = held_behind next inner after body is none
held_behind (unit.action a nodes next) inner after body is none =
    ap (λ b. held_if b a.source (content_in (children_of nodes)) (children_of (joined next (unit.action body inner after))).held) (left_false (is_body a.kind) (has_body next) none)
    ∙ held_behind next inner after body is (right_false (is_body a.kind) (has_body next) none)

pub content_is_of_body : (before inner after : Nodes) (body : Action) → body.kind ≡ unit.standard jsp.Body → has_body before ≡ false
    → content_in (children_of (joined before (unit.action body inner after))) ≡ content_in (children_of inner)
content_is_of_body before inner after body is none =
    ap (λ held. held_or held (if has_attributes whole.given then no_content else whole.own)) (held_behind before inner after body is none)
  where
    whole : Children
    whole = children_of (joined before (unit.action body inner after))

-- without `jsp:attribute` no attribute is given
none_given : (nodes : Nodes) → has_parts nodes ≡ false → (children_of nodes).given ≡ page.no_attributes
none_given unit.done none = refl
none_given (unit.template t place next) none = none_given next none
none_given (unit.shown e place next) none = none_given next none
none_given (unit.action a body next) none =
    ap (λ b. given_if b a.attributes (content_in (children_of body)).nodes a.place (children_of next).given) (left_false (is_attribute a.kind) (is_body a.kind || has_parts next) none)
    ∙ none_given next (right_false (is_body a.kind) (has_parts next) (right_false (is_attribute a.kind) (is_body a.kind || has_parts next) none))

-- but for a call, an action as a node is what the attributes that are given and what stands in it make of it
same_node : (k : ActionKind) (attributes : List Given) (whole_has bare_has : Bool) (whole_source bare_source : List ℕ) (place : Place) (x y : Children) → is_call k ≡ false
    → x.given ≡ y.given → content_in x ≡ content_in y → action_node k attributes whole_has whole_source x place ≡ action_node k attributes bare_has bare_source y place
same_node (unit.standard n) attributes wh bh ws bs place x y no_call given content =
    ap (λ g. jsp_node n attributes (written_before (statics_of (unit.standard n)) attributes g) (content_in x) place) given
    ∙ ap (λ c. jsp_node n attributes (attributes_of (unit.standard n) attributes y) c place) content
same_node (unit.core n) attributes wh bh ws bs place x y no_call given content =
    ap (λ g. core_node n attributes (written_before (statics_of (unit.core n)) attributes g) (content_in x) place) given
    ∙ ap (λ c. core_node n attributes (attributes_of (unit.core n) attributes y) c place) content
same_node (unit.call path) attributes wh bh ws bs place x y no_call given content = cc

-- what stands in an action whose first child is this one
abbrev own_with : ActionKind → page.Node → page.Attributes → page.Nodes → Place → Content → Content
own_with k node all nodes place rest = record {
  nodes = page.more_nodes node rest.nodes;
  params = param_if (is_param k) all nodes place rest.params;
  branches = branch_if (is_when k) (is_otherwise k) all nodes place rest.branches;
}

same_own : (k : ActionKind) (attributes : List Given) (whole_has bare_has : Bool) (whole_source bare_source : List ℕ) (place : Place) (x y rest : Children) → is_call k ≡ false
    → x.given ≡ y.given → content_in x ≡ content_in y
    → (with_action k attributes whole_has whole_source place x rest).own ≡ (with_action k attributes bare_has bare_source place y rest).own
same_own k attributes wh bh ws bs place x y rest no_call given content =
    ap (λ node. own_with k node (attributes_of k attributes x) (content_in x).nodes place rest.own) (same_node k attributes wh bh ws bs place x y no_call given content)
    ∙ ap (λ g. own_with k (action_node k attributes bh bs y place) (written_before (statics_of k) attributes g) (content_in x).nodes place rest.own) given
    ∙ ap (λ c. own_with k (action_node k attributes bh bs y place) (attributes_of k attributes y) c.nodes place rest.own) content

pub body_stands_in_action : (whole bare body : Action) (inner next : Nodes) → bare.kind ≡ whole.kind → bare.attributes ≡ whole.attributes → bare.place ≡ whole.place
    → is_call whole.kind ≡ false → body.kind ≡ unit.standard jsp.Body → has_parts inner ≡ false
    → (children_of (unit.action whole (unit.action body inner unit.done) next)).own ≡ (children_of (unit.action bare inner next)).own
body_stands_in_action whole bare body inner next kinds given places no_call is none =
    same_own whole.kind whole.attributes whole.has_body bare.has_body whole.source bare.source whole.place held (children_of inner) (children_of next) no_call
    (ap (λ k. given_if (is_attribute k) body.attributes (content_in (children_of inner)).nodes body.place page.no_attributes) is ∙ sym (none_given inner none))
    (content_is_of_body unit.done inner unit.done body is refl)
    ∙ ap (λ k. made k whole.attributes whole.place) (sym kinds)
    ∙ ap (λ a. made bare.kind a whole.place) (sym given)
    ∙ ap (λ p. made bare.kind bare.attributes p) (sym places)
  where
    held : Children
    held = children_of (unit.action body inner unit.done)

    made : ActionKind → List Given → Place → Content
    made k attributes place = (with_action k attributes bare.has_body bare.source place (children_of inner) (children_of next)).own
