-- What an action is among its kin.
use Rattle.std.specs.Prelude.{ℕ, Bool, true, false, List, []}
use Rattle.unit_nodes.specs.CoreName.TheVariants as core
use Rattle.unit_meaning.specs.Named.{core_statics, jsp_statics}
use Rattle.unit_nodes.specs.Nodes as unit
use Rattle.unit_nodes.specs.Nodes.{ActionKind}
use Rattle.unit_nodes.specs.declared.jsp_name.JspName.TheVariants as jsp

-- whether an action is `jsp:attribute`
abbrev pub is_attribute : ActionKind → Bool
is_attribute (unit.standard jsp.Attribute) = true
is_attribute other = false

-- whether an action is `jsp:body`
abbrev pub is_body : ActionKind → Bool
is_body (unit.standard jsp.Body) = true
is_body other = false

-- whether an action is a param
abbrev pub is_param : ActionKind → Bool
is_param (unit.standard jsp.Param) = true
is_param (unit.core core.Param) = true
is_param other = false

-- whether an action is `c:when`
abbrev pub is_when : ActionKind → Bool
is_when (unit.core core.When) = true
is_when other = false

-- whether an action is `c:otherwise`
abbrev pub is_otherwise : ActionKind → Bool
is_otherwise (unit.core core.Otherwise) = true
is_otherwise other = false

-- whether an action is the call of a tag file
abbrev pub is_call : ActionKind → Bool
is_call (unit.call path) = true
is_call other = false

-- the statics of an action; a param's name is evaluated like an attribute of the core
abbrev pub statics_of : ActionKind → List (List ℕ)
statics_of (unit.standard jsp.Param) = []
statics_of (unit.standard other) = jsp_statics
statics_of (unit.core other) = core_statics
statics_of (unit.call path) = []
