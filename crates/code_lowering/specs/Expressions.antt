-- The forms of expressions.
use Rattle.std.specs.Prelude.{ℕ, zero, suc, Bool, true, false, List, Option, Some, None}
use Rattle.el_reader.specs.Tree.{Tree, literal, name, call, list, map, index, unary, binary, choice, Trees, no_trees, more_trees, Pairs, no_pairs, more_pairs}
use Rattle.page_code.specs.declared.op.Op.TheVariants as op
use Rattle.page_code.specs.declared.operands.Coercion.{Coercion}
use Rattle.page_code.specs.declared.operands.Coercion.TheVariants as coercion
use Rattle.page_code.specs.declared.operands.HeaderObject.TheVariants as header_object
use Rattle.page_code.specs.declared.operands.Implicit as code
use Rattle.page_code.specs.declared.operands.Implicit.TheVariants as object
use Rattle.page_meaning.specs.Expressions.{keyed_object}
use Rattle.page_meaning.specs.Implicit.{Implicit, Keyed, held_scope, application_scope, header, header_values, keyed, page_context, param, param_values, cookie, init_param, implicit_named}
use Rattle.pg_text.specs.declared.place.Place.{Place}
use Rattle.pg_value.specs.Datum.{Datum, null, truth}
use Rattle.pg_value.specs.Function.{arity_of, function_named}
use Rattle.pg_value.specs.Limits.{is_over}
use Rattle.pg_value.specs.Value.{value_of}
use Rattle.pg_value.specs.declared.function.Function.{Function}
use Rattle.pg_value.specs.declared.operators.BinOp.{BinOp}
use Rattle.pg_value.specs.declared.operators.BinOp.TheVariants as binary_op
use Rattle.pg_value.specs.declared.scope.Scope.{Scope}
use Rattle.pg_value.specs.declared.scope.Scope.TheVariants as scope
use Rattle.scopes.specs.declared.held_scope.HeldScope.{HeldScope}
use Rattle.scopes.specs.declared.held_scope.HeldScope.TheVariants as held
use Rattle.code_forms.specs.Forms.{Form, nothing, both, above, counted, does, chosen, twice, twice_is}

-- so many visits
abbrev pub visits : ℕ → Place → Form 0 0
visits n place = does (op.Visit n) place

-- a constant
abbrev pub constant : Place → Datum → Form 0 1
constant place d = does (op.Const (value_of d)) place

-- a literal, of which it is known whether it is too large: a list of one that is raises the fault
abbrev pub literal_form : Place → Bool → Datum → Form 0 1
literal_form place false d = constant place d
literal_form place true d = both (constant place d) (does (op.MakeList 1) place)

-- a value coerced
abbrev pub coerces : Coercion → Place → Form 1 1
coerces c place = does (op.Coerce c) place

-- a value as a truth value
abbrev pub as_truth : Place → Form 0 1 → Form 0 1
as_truth place f = both f (coerces coercion.Truth place)

-- a scope that a run holds
abbrev pub scope_of : HeldScope → Scope
scope_of held.Page = scope.Page
scope_of held.Request = scope.Request
scope_of held.Session = scope.Session

-- an implicit object
abbrev pub object_of : Implicit → code.Implicit
object_of (keyed (held_scope sc)) = object.Scope (scope_of sc)
object_of (keyed application_scope) = object.Scope scope.Application
object_of (keyed header) = object.Header header_object.Header
object_of (keyed header_values) = object.Header header_object.HeaderValues
object_of page_context = object.PageContext
object_of param = object.Param
object_of param_values = object.ParamValues
object_of cookie = object.Cookie
object_of init_param = object.InitParam

-- the entry of an object under the key
abbrev pub entry_form : Place → Keyed → Form 1 1
entry_form place (held_scope sc) = does (op.ScopeIndex (scope_of sc)) place
entry_form place application_scope = does (op.ScopeIndex scope.Application) place
entry_form place header = does (op.HeaderIndex header_object.Header) place
entry_form place header_values = does (op.HeaderIndex header_object.HeaderValues) place

-- a name: an implicit object or a variable
abbrev pub name_form : Place → List ℕ → Option Implicit → Form 0 1
name_form place n (Some object) = does (op.Implicit (object_of object)) place
name_form place n None = does (op.Find n) place

-- an index: of such an object its entry, else of the value
abbrev pub index_form : Place → Option Keyed → (left right : Form 0 1) → Form 0 1
index_form place (Some object) left right = both right (entry_form place object)
index_form place None left right = both left (both (above 1 right) (does op.Index place))

-- an operator between two parts: the right of `&&` and `||` only where it decides
abbrev pub binary_form : Place → BinOp → (left right : Form 0 1) → Form 0 1
binary_form place binary_op.And left right = both (as_truth place left) (chosen (as_truth place right) (constant place (truth false)) place)
binary_form place binary_op.Or left right = both (as_truth place left) (chosen (constant place (truth true)) (as_truth place right) place)
binary_form place o left right = both left (both (above 1 right) (does (op.Binary o) place))

-- so many values as if there were so many: those that are too many go, and null stands for those that are too few
abbrev pub fitted : Place → (given wanted : ℕ) → Form given wanted
fitted place zero zero = nothing
fitted place zero (suc k) = both (constant place null) (above 1 (fitted place zero k))
fitted place (suc n) zero = both (above 1 (fitted place n zero)) (does op.Pop place)
fitted place (suc n) (suc k) = above 1 (fitted place n k)

-- the call of a function with so many arguments; a unit names no unknown one
abbrev pub call_form : Place → Option Function → (n : ℕ) → Form 0 n → Form 0 1
call_form place (Some f) n arguments = both arguments (both (fitted place n (arity_of f)) (does (op.Call f) place))
call_form place None n arguments = constant place null

abbrev pub tree_count : Trees → ℕ
tree_count no_trees = 0
tree_count (more_trees t rest) = suc (tree_count rest)

abbrev pub pair_count : Pairs → ℕ
pair_count no_pairs = 0
pair_count (more_pairs k v rest) = suc (pair_count rest)

-- the visits that come before all else in an expression: its own, and the first ones of the part that it begins with
abbrev pub first_visits : Tree → ℕ
first_visits (index a b) = suc (first_visits a)
first_visits (unary o a) = suc (first_visits a)
first_visits (binary o a b) = suc (first_visits a)
first_visits (choice a b c) = suc (first_visits a)
first_visits other = 1

-- an expression: its first visits, counted at once, and its value
abbrev pub with_visits : Place → Tree → (value : Form 0 1) → Form 0 1
with_visits place t value = both (visits (first_visits t) place) value

abbrev mutual
  -- the value of an expression, behind its first visits
  pub value_form : Place → Tree → Form 0 1
  value_form place (literal d) = literal_form place (is_over d) d
  value_form place (name n) = name_form place n (implicit_named n)
  value_form place (call prefix n arguments) = call_form place (function_named n) (tree_count arguments) (trees_form place arguments)
  value_form place (list items) = both (trees_form place items) (does (op.MakeList (tree_count items)) place)
  value_form place (map pairs) = both (counted (twice_is (pair_count pairs)) (pairs_form place pairs)) (does (op.MakeMap (pair_count pairs)) place)
  value_form place (index a b) = index_form place (keyed_object a) (value_form place a) (with_visits place b (value_form place b))
  value_form place (unary o a) = both (value_form place a) (does (op.Unary o) place)
  value_form place (binary o a b) = binary_form place o (value_form place a) (with_visits place b (value_form place b))
  value_form place (choice a b c) =
      both (as_truth place (value_form place a)) (chosen (with_visits place b (value_form place b)) (with_visits place c (value_form place c)) place)

  -- expressions from left to right
  pub trees_form : Place → (items : Trees) → Form 0 (tree_count items)
  trees_form place no_trees = nothing
  trees_form place (more_trees t rest) = both (with_visits place t (value_form place t)) (above 1 (trees_form place rest))

  -- the keys and values of a map, each key before its value
  pub pairs_form : Place → (pairs : Pairs) → Form 0 (twice (pair_count pairs))
  pairs_form place no_pairs = nothing
  pairs_form place (more_pairs k v rest) =
      both (with_visits place k (value_form place k)) (above 1 (both (with_visits place v (value_form place v)) (above 1 (pairs_form place rest))))

-- an expression, whose faults stand at a place
abbrev pub tree_form : Place → Tree → Form 0 1
tree_form place t = with_visits place t (value_form place t)
