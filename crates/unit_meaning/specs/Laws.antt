-- What stands in the `jsp:body` of an action stands in the action.
use Rattle.std.specs.Prelude.{◌≡◌, Bool, false, ◌||◌}
use Rattle.unit_meaning.specs.Kinds.{is_attribute, is_body, is_call}
use Rattle.unit_meaning.specs.Shape.{children_of, content_in}
use Rattle.unit_nodes.specs.Nodes as unit
use Rattle.unit_nodes.specs.Nodes.{Action, Nodes, joined}
use Rattle.unit_nodes.specs.declared.jsp_name.JspName.TheVariants as jsp

-- `jsp:body` stands there
abbrev pub has_body : Nodes → Bool
has_body unit.done = false
has_body (unit.template t place next) = has_body next
has_body (unit.shown e place next) = has_body next
has_body (unit.action a body next) = is_body a.kind || has_body next

-- `jsp:attribute` or `jsp:body` stands there
abbrev pub has_parts : Nodes → Bool
has_parts unit.done = false
has_parts (unit.template t place next) = has_parts next
has_parts (unit.shown e place next) = has_parts next
has_parts (unit.action a body next) = is_attribute a.kind || (is_body a.kind || has_parts next)

-- what stands in an action, its params and branches too, is what stands in its first `jsp:body`, whatever stands beside that
abbrev pub ContentIsOfBody : Type 0
ContentIsOfBody = (before inner after : Nodes) (body : Action) → body.kind ≡ unit.standard jsp.Body → has_body before ≡ false
    → content_in (children_of (joined before (unit.action body inner after))) ≡ content_in (children_of inner)

-- an action whose whole content stands in one `jsp:body` is the same node, param or branch as without it, but for the calls of tag files,
-- which are told the source text of their body. No part stands in a `jsp:body`
abbrev pub BodyStandsInAction : Type 0
BodyStandsInAction = (whole bare body : Action) (inner next : Nodes) → bare.kind ≡ whole.kind → bare.attributes ≡ whole.attributes → bare.place ≡ whole.place
    → is_call whole.kind ≡ false → body.kind ≡ unit.standard jsp.Body → has_parts inner ≡ false
    → (children_of (unit.action whole (unit.action body inner unit.done) next)).own ≡ (children_of (unit.action bare inner next)).own
