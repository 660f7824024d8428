-- Properties of the record that a variable is, and the entries that parameters make of it.
use Rattle.std.specs.Prelude.{ℕ, List, Option, Some, None, Result, Ok, Err}
use Rattle.el_ops.specs.Operands.{answered}
use Rattle.jstl_functions.specs.Functions.{and_then}
use Rattle.run_values.specs.declared.properties.FoundProperty as declared
use Rattle.page_meaning.specs.Attributes.{coerced}
use Rattle.page_meaning.specs.Beans.{all_by_parameters, filled, like, property_of}
use Rattle.pg_value.specs.Attrs.{entry_at, with_entry}
use Rattle.pg_value.specs.Datum.{Datum, rec, entry_list}
use Rattle.pg_value.specs.Value.{datum_of}
use Rattle.pg_value.specs.declared.fault.RunFault.{RunFault}
use Rattle.pg_value.specs.declared.fault.RunFault.TheVariants as fault
use Rattle.pg_value.specs.declared.scope.Scope.{Scope}
use Rattle.scopes.specs.Scopes.{Entries}

-- a variable's scope, the entries of its record, and the old value of a property
pub record Found : Type 0 where
  pub scope : Scope
  pub entries : Entries
  pub old : Datum

abbrev pub found_of : declared.FoundProperty → Found
found_of f = record { scope = f.scope; entries = f.entries; old = datum_of f.old }

-- the property of the record that was found in a scope, or its fault
abbrev pub property_found : List ℕ → Scope → Datum → Result Found RunFault
property_found property sc (rec es) = answered (λ old. record { scope = sc; entries = entry_list es; old = old }) (property_of property (rec es))
property_found property sc other = Err fault.NotARecord

-- the entries of a record with all properties set by the parameters of their names
abbrev pub changed_all : (params : Entries) → Datum → Result Entries RunFault
changed_all params (rec es) = all_by_parameters params (entry_list es) (entry_list es)
changed_all params other = Err fault.NotARecord

-- the entries with a property of this old value set to a new value, where there is one
abbrev pub one_changed : Entries → (property : List ℕ) → (old : Datum) → Option Datum → Result (Option Entries) RunFault
one_changed entries property old (Some d) = answered (λ new. Some (with_entry entries property new)) (coerced (like old) d)
one_changed entries property old None = Ok None

-- the entries of a record with a property set by a parameter, or None where that is empty or absent
abbrev pub changed_one : (params : Entries) → (property parameter : List ℕ) → Datum → Result (Option Entries) RunFault
changed_one params property parameter (rec es) = and_then (property_of property (rec es)) (λ old. one_changed (entry_list es) property old (filled (entry_at parameter params)))
changed_one params property parameter other = Err fault.NotARecord
