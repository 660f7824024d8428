-- A property of a variable's record, for proofs alone.
use Rattle.std.specs.Prelude.{ℕ, List}
use Rattle.jstl_functions.specs.Functions.{measured}
use Rattle.page_meaning.specs.Beans.{property_of}
use Rattle.page_meaning.specs.State.{State}
use Rattle.page_meaning.specs.Variables.{assign, look_up}
use Rattle.page_meaning.specs.Went.{Did, Went, Well, Raised, then_do, result_of}
use Rattle.pg_text.specs.declared.place.Place.{Place}
use Rattle.pg_value.specs.Attrs.{with_entry}
use Rattle.pg_value.specs.Datum.{Datum, rec, entry_list, entries_of}
use Rattle.pg_value.specs.declared.fault.RunFault.TheVariants as fault
use Rattle.pg_value.specs.declared.scope.Scope.{Scope}
use Rattle.run_values.specs.Properties.{Found}
use Rattle.scopes.specs.Scopes.{Entries}

-- the property of the record that was found: X14 of another value, X5
abbrev pub property_in : Place → List ℕ → Scope → Datum → State → Went Found
property_in place property sc (rec es) s =
    then_do (result_of place (property_of property (rec es)) s) (λ old s1. Well (record { scope = sc; entries = entry_list es; old = old }) s1)
property_in place property sc other s = Raised fault.NotARecord place s

abbrev pub found_property : Place → (name property : List ℕ) → State → Went Found
found_property place name property s = then_do (look_up place name s) (λ p s1. property_in place property p.0 p.1 s1)

-- a record, measured and written back to its scope
abbrev pub written : Place → Scope → Entries → (name : List ℕ) → State → Did
written place sc entries name s = then_do (result_of place (measured (rec (entries_of entries))) s) (λ r s1. assign place sc name r s1)

-- the record with the property set to a new value, written back
abbrev pub put_back : Place → Found → (property : List ℕ) → Datum → (name : List ℕ) → State → Did
put_back place found property new name s = written place found.scope (with_entry found.entries property new) name s
