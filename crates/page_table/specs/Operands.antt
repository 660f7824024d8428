-- The operands of instructions, in the words of the meaning.
use Rattle.std.specs.Prelude.{Option, Some, None}
use Rattle.page_code.specs.declared.operands.Coercion.{Coercion}
use Rattle.page_code.specs.declared.operands.Coercion.TheVariants as code
use Rattle.page_code.specs.declared.operands.HeaderObject.{HeaderObject}
use Rattle.page_code.specs.declared.operands.HeaderObject.TheVariants as header
use Rattle.page_code.specs.declared.operands.Implicit.{Implicit}
use Rattle.page_code.specs.declared.operands.Implicit.TheVariants as object
use Rattle.pg_value.specs.declared.scope.Scope.{Scope}
use Rattle.scopes.specs.HeldScope.{held_scope}
use Rattle.scopes.specs.declared.held_scope.HeldScope.{HeldScope}
use Rattle.page_meaning.specs.Attributes as attributes
use Rattle.page_meaning.specs.Implicit as implicit

-- what a value becomes
abbrev pub coercion_of : Coercion → attributes.Coercion
coercion_of code.Text = attributes.to_text
coercion_of code.TextOrNull = attributes.to_text_or_null
coercion_of code.Number = attributes.to_number
coercion_of code.NumberOrNull = attributes.to_number_or_null
coercion_of code.Truth = attributes.to_truth
coercion_of code.TruthOrNull = attributes.to_truth_or_null

-- an object of the request's fields
abbrev pub header_of : HeaderObject → implicit.Keyed
header_of header.Header = implicit.header
header_of header.HeaderValues = implicit.header_values

-- a scope that a run holds, or else application scope
abbrev pub keyed_held : Option HeldScope → implicit.Keyed
keyed_held (Some scope) = implicit.held_scope scope
keyed_held None = implicit.application_scope

-- a scope as an object
abbrev pub keyed_scope : Scope → implicit.Keyed
keyed_scope scope = keyed_held (held_scope scope)

-- an implicit object
abbrev pub implicit_of : Implicit → implicit.Implicit
implicit_of object.PageContext = implicit.page_context
implicit_of (object.Scope scope) = implicit.keyed (keyed_scope scope)
implicit_of object.Param = implicit.param
implicit_of object.ParamValues = implicit.param_values
implicit_of (object.Header which) = implicit.keyed (header_of which)
implicit_of object.Cookie = implicit.cookie
implicit_of object.InitParam = implicit.init_param
