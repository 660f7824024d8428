-- The variables that a call gives its caller, as changes of the caller's frame, for proofs alone.
use Rattle.std.specs.Prelude.{ℕ, Bool, List, [], ◌∷◌, Option, Result, Ok, Err, if◌then◌else◌}
use Rattle.std.specs.Option.{option_map}
use Rattle.run_parts.specs.declared.exports.Change as machine_change
use Rattle.run_parts.specs.declared.exports.CopyTime.{CopyTime}
use Rattle.run_parts.specs.declared.exports.CopyTime.TheVariants as time
use Rattle.page_meaning.specs.Context.{Export}
use Rattle.page_meaning.specs.Exports.{is_at_end, is_at_fragment, is_nested, with_or_without}
use Rattle.page_meaning.specs.State.{State, in_scopes}
use Rattle.pg_value.specs.Attrs.{entry_at}
use Rattle.pg_value.specs.Datum.{Datum}
use Rattle.pg_value.specs.Value.{datum_of}
use Rattle.pg_value.specs.declared.fault.RunFault.{RunFault}
use Rattle.scopes.specs.Scopes.{Entries, changed_in}
use Rattle.scopes.specs.declared.held_scope.HeldScope.TheVariants as held
use Rattle.tag_decl.specs.declared.declaration.VarScope.{VarScope}

-- a name with what it gets, or nothing where it goes
pub record Change : Type 0 where
  pub name : List ℕ
  pub value : Option Datum

abbrev pub change_of : machine_change.Change → Change
change_of c = record { name = c.name; value = option_map datum_of c.value }

-- whether a variable is copied at this time
abbrev pub is_copied : CopyTime → VarScope → Bool
is_copied time.AtFragment sc = is_at_fragment sc
is_copied time.AtEnd sc = is_at_end sc

-- what the variables of these times get at the caller: what they are in the call's frame
abbrev pub own_changes : (times : VarScope → Bool) → List Export → (source : Entries) → List Change
own_changes times [] source = []
own_changes times (x ∷ rest) source =
    if times x.scope then record { name = x.outer; value = entry_at x.own source } ∷ own_changes times rest source else own_changes times rest source

-- what brings the NESTED variables back: what stood under their names at the caller
abbrev pub nested_changes : List Export → (before : Entries) → List Change
nested_changes [] before = []
nested_changes (x ∷ rest) before = if is_nested x.scope then record { name = x.outer; value = entry_at x.outer before } ∷ nested_changes rest before else nested_changes rest before

-- one change after the other in the current frame
abbrev pub changed_by : List Change → State → State
changed_by [] s = s
changed_by (c ∷ rest) s = changed_by rest (in_scopes (changed_in s.scopes held.Page (with_or_without c.name c.value)) s)

-- a text, which is empty where it would be too large
abbrev pub unwrap_or_empty : Result (List ℕ) RunFault → List ℕ
unwrap_or_empty (Ok t) = t
unwrap_or_empty (Err fault) = []
