-- What the operations make that look at values alone, for proofs alone.
use Rattle.std.specs.Prelude.{List, Result, Ok, ⊤}
use Rattle.el_coercion.specs.Text.{made}
use Rattle.el_ops.specs.Indexing.{index_of}
use Rattle.el_ops.specs.Operands.{answered}
use Rattle.el_ops.specs.Operators.{binary_of, unary_of}
use Rattle.jstl_functions.specs.Functions.{called, measured}
use Rattle.page_code.specs.declared.op.Op.{Op}
use Rattle.page_code.specs.declared.op.Op.TheVariants as op
use Rattle.page_code.specs.declared.operands.PropertyMode.{PropertyMode}
use Rattle.page_code.specs.declared.operands.PropertyMode.TheVariants as mode
use Rattle.page_meaning.specs.Addresses.{url_with}
use Rattle.page_meaning.specs.Attributes.{coerced}
use Rattle.page_meaning.specs.Expressions.{record_of}
use Rattle.page_table.specs.Operands.{coercion_of}
use Rattle.page_table.specs.Operations.{value_at, text_at, behind_first, pairs_in, params_in, joined}
use Rattle.pg_value.specs.Datum.{Datum, null, text, list, items_of}
use Rattle.pg_value.specs.Value.{datum_of}
use Rattle.pg_value.specs.declared.fault.RunFault.{RunFault}

-- whether an operation makes its value of values alone
abbrev pub IsComputed : Op → Type 0
IsComputed (op.Const v) = ⊤
IsComputed op.Index = ⊤
IsComputed (op.Unary o) = ⊤
IsComputed (op.Binary o) = ⊤
IsComputed (op.Coerce c) = ⊤
IsComputed (op.MakeList n) = ⊤
IsComputed (op.MakeMap n) = ⊤
IsComputed (op.Concat n) = ⊤
IsComputed (op.Call f) = ⊤
IsComputed (op.Url n) = ⊤
IsComputed other = ⊥

-- what it makes of them
abbrev pub computed : Op → List Datum → Result Datum RunFault
computed (op.Const v) ds = Ok (datum_of v)
computed op.Index ds = index_of (value_at 0 ds) (value_at 1 ds)
computed (op.Unary o) ds = unary_of o (value_at 0 ds)
computed (op.Binary o) ds = binary_of o (value_at 0 ds) (value_at 1 ds)
computed (op.Coerce c) ds = coerced (coercion_of c) (value_at 0 ds)
computed (op.MakeList n) ds = measured (list (items_of ds))
computed (op.MakeMap n) ds = record_of (pairs_in ds)
computed (op.Concat n) ds = answered text (made (joined ds))
computed (op.Call f) ds = called f ds
computed (op.Url n) ds = answered text (url_with (text_at 0 ds) (params_in (behind_first ds)))
computed other ds = Ok null

-- all faults of an operation stand at its place: a property's new value may have a place of its own
abbrev pub ModeHasOnePlace : PropertyMode → Type 0
ModeHasOnePlace (mode.Value property place) = ⊥
ModeHasOnePlace other = ⊤

abbrev pub HasOnePlace : Op → Type 0
HasOnePlace (op.SetProperty name m) = ModeHasOnePlace m
HasOnePlace other = ⊤
