-- How many values an operation takes from the stack, and how many it leaves.
use Rattle.std.specs.Prelude.{ℕ, ◌+◌, ◌*◌}
use Rattle.pg_value.specs.Function.{arity_of}
use Rattle.page_code.specs.declared.op.Op.{Op}
use Rattle.page_code.specs.declared.op.Op.TheVariants as op
use Rattle.page_code.specs.declared.operands.PropertyMode.{PropertyMode}
use Rattle.page_code.specs.declared.operands.PropertyMode.TheVariants as mode

-- an address below so many parameters, each a name and a value
abbrev pub address_with : ℕ → ℕ
address_with params = 2 * params + 1

-- the values that a change of properties takes
abbrev pub mode_takes : PropertyMode → ℕ
mode_takes mode.Entry = 2
mode_takes mode.Parameters = 0
mode_takes (mode.Value property place) = 1
mode_takes (mode.Parameter property parameter) = 0

-- the values that an operation takes
abbrev pub takes : Op → ℕ
takes (op.Write t) = 0
takes op.Put = 1
takes op.PutEscaped = 1
takes (op.Visit n) = 0
takes (op.Const v) = 0
takes (op.Find name) = 0
takes (op.Implicit object) = 0
takes op.Index = 2
takes (op.HeaderIndex object) = 1
takes (op.ScopeIndex sc) = 1
takes (op.Unary o) = 1
takes (op.Binary o) = 2
takes (op.Coerce c) = 1
takes (op.MakeList n) = n
takes (op.MakeMap n) = 2 * n
takes (op.Concat n) = n
takes (op.Call f) = arity_of f
takes (op.Url params) = address_with params
takes op.Pop = 1
takes (op.SetVar x) = 1
takes (op.RemoveVar x) = 0
takes (op.RemoveAll name) = 0
takes (op.SetProperty name m) = mode_takes m
takes (op.GetProperty name) = 1

-- the values that an operation leaves in their place: one or none
abbrev pub leaves : Op → ℕ
leaves (op.Write t) = 0
leaves op.Put = 0
leaves op.PutEscaped = 0
leaves (op.Visit n) = 0
leaves (op.Const v) = 1
leaves (op.Find name) = 1
leaves (op.Implicit object) = 1
leaves op.Index = 1
leaves (op.HeaderIndex object) = 1
leaves (op.ScopeIndex sc) = 1
leaves (op.Unary o) = 1
leaves (op.Binary o) = 1
leaves (op.Coerce c) = 1
leaves (op.MakeList n) = 1
leaves (op.MakeMap n) = 1
leaves (op.Concat n) = 1
leaves (op.Call f) = 1
leaves (op.Url params) = 1
leaves op.Pop = 0
leaves (op.SetVar x) = 0
leaves (op.RemoveVar x) = 0
leaves (op.RemoveAll name) = 0
leaves (op.SetProperty name m) = 0
leaves (op.GetProperty name) = 1
