-- The records of its request that a page run keeps.
use Rattle.std.specs.Prelude.{◌≡◌, ◌++◌, List, Option, Some, None, ⊤}
use Rattle.http_in.specs.declared.params.Param.{Param}
use Rattle.http_in.specs.declared.request.Request.{Request}
use Rattle.page_code.specs.declared.operands.HeaderObject.TheVariants as object
use Rattle.page_meaning.specs.Request.{all_values, cookie_records, first_values, items_under}
use Rattle.pg_value.specs.Datum.{Datum, items_of, item_list, list}
use Rattle.run_parts.specs.declared.param_records.ParamRecords.{ParamRecords, ParamRecords', Some'}
use Rattle.run_parts.specs.declared.request_records.FieldRecords.{FieldRecords}
use Rattle.run_parts.specs.declared.request_records.RequestRecords.{RequestRecords}
use Rattle.run_values.specs.Objects.{header_entries}
use Rattle.run_world.specs.Params.{params_of}
use Rattle.run_world.specs.declared.params.Params.{Params, Before'}
use Rattle.scopes.specs.Scopes.{Entries}

-- what is kept, where it was made, has these entries
abbrev pub IsKept : Entries → Option Entries → Type 0
IsKept es None = ⊤
IsKept es (Some made) = made ≡ es

-- the records of first values and of lists that were made are those of these parameters
abbrev pub AreValuesOf : List Param → Option Entries → Option Entries → Type 0
AreValuesOf params param param_values = IsKept (first_values params) param × IsKept (all_values params) param_values

-- each record of parameters that was made is that of these parameters, and each outer one that of the outer parameters
abbrev pub AreParamsOf : Params → ParamRecords → Type 0
AreParamsOf (Before' own q rest) (ParamRecords' param param_values (Some' p outer)) =
    AreValuesOf (own.now ++ params_of rest) param param_values × AreParamsOf rest outer
AreParamsOf params (ParamRecords' param param_values outer) = AreValuesOf (params_of params) param param_values

-- each record of fields that was made is that of this request
pub record AreFieldsOf (request : Request) (records : FieldRecords) : Type 0 where
  pub header : IsKept (header_entries request object.Header) records.header
  pub header_values : IsKept (header_entries request object.HeaderValues) records.header_values

-- each record that was made is that of this request and these parameters
pub record IsRecordsOf (request : Request) (all : Params) (records : RequestRecords) : Type 0 where
  pub params : AreParamsOf all records.params
  pub fields : AreFieldsOf request records.fields
  pub cookie : IsKept (cookie_records request) records.cookie

-- the items of a list, and those of another behind them, where there is one
abbrev pub list_before : Datum → Option Datum → Datum
list_before own outer = list (items_of (item_list (items_under (Some own)) ++ item_list (items_under outer)))
