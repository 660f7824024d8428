-- What becomes of an action.
use Rattle.std.specs.Prelude.{ℕ, List, true, false}
use Rattle.act_reader.specs.Contents.{with_branch, with_given, with_held, with_param}
use Rattle.act_reader.specs.Parts.{Parts}
use Rattle.act_reader.specs.declared.roles.Role.{Role}
use Rattle.act_reader.specs.declared.roles.Role.TheVariants as role
use Rattle.jstl_tags.specs.declared.core_name.CoreName.TheVariants as core
use Rattle.page_meaning.specs.Page as page
use Rattle.unit_meaning.specs.Shape.{Children, branch_if, given_if, param_if, with_node}
use Rattle.pg_text.specs.declared.place.Place.{Place}
use Rattle.unit_nodes.specs.Nodes as unit
use Rattle.unit_nodes.specs.Nodes.{ActionKind, Given}
use Rattle.unit_nodes.specs.declared.jsp_name.JspName.TheVariants as jsp

-- what an action is to the one in which it stands
abbrev pub role_of : ActionKind → Role
role_of (unit.standard jsp.Attribute) = role.Attribute
role_of (unit.standard jsp.Body) = role.Body
role_of (unit.standard jsp.Param) = role.Param
role_of (unit.core core.Param) = role.Param
role_of (unit.core core.When) = role.When
role_of (unit.core core.Otherwise) = role.Otherwise
role_of other = role.Act

-- with what an attribute, a body, a param or a branch adds, and with the empty group that stands for it
abbrev pub with_nothing : Place → (Children → Children) → Children → Children
with_nothing place added rest = with_node (page.group page.no_nodes place) (added rest)

-- with what an action of a role adds, of these attributes and this source, whose act is `node`
abbrev pub with_role : Role → page.Node → List Given → (source : List ℕ) → Parts → Place → Children → Children
with_role role.Act node attributes source parts place = with_node node
with_role role.Attribute node attributes source parts place = with_nothing place (with_given (given_if true attributes parts.content.nodes place))
with_role role.Body node attributes source parts place = with_nothing place (with_held source parts.content)
with_role role.Param node attributes source parts place = with_nothing place (with_param (param_if true parts.attributes parts.content.nodes place))
with_role role.When node attributes source parts place = with_nothing place (with_branch (branch_if true false parts.attributes parts.content.nodes place))
with_role role.Otherwise node attributes source parts place = with_nothing place (with_branch (branch_if false true parts.attributes parts.content.nodes place))
