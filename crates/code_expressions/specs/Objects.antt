-- The implicit objects of which an index takes one entry alone, as the program names them.
use Rattle.std.specs.Prelude.{List, Option, Some, None}
use Rattle.page_code.specs.declared.code.Cell.{Cell}
use Rattle.page_code.specs.declared.op.Op.TheVariants as op
use Rattle.page_code.specs.declared.operands.Implicit.{Implicit}
use Rattle.page_code.specs.declared.operands.Implicit.TheVariants as object
use Rattle.page_code.specs.declared.shape.Shape.{Shape}
use Rattle.code_forms.specs.Codes.{form_code}
use Rattle.code_forms.specs.Forms.{does}
use Rattle.pg_text.specs.declared.place.Place.{Place}

-- the code of the entry of an object, where one is taken alone
abbrev pub entry_code : Shape → Place → Option Implicit → Option (List Cell)
entry_code sh place (Some (object.Scope scope)) = Some (form_code sh (does (op.ScopeIndex scope) place))
entry_code sh place (Some (object.Header part)) = Some (form_code sh (does (op.HeaderIndex part) place))
entry_code sh place (Some object.PageContext) = None
entry_code sh place (Some object.Param) = None
entry_code sh place (Some object.ParamValues) = None
entry_code sh place (Some object.Cookie) = None
entry_code sh place (Some object.InitParam) = None
entry_code sh place None = None
