-- The variables that a tag file gives its caller.
use Rattle.std.specs.Prelude.{ℕ, Bool, true, false, List, [], ◌∷◌, fold, filter, not, Option, Some, None, Result, Ok, Err}
use Rattle.el_coercion.specs.Text.{text_of}
use Rattle.el_ops.specs.Indexing.{or_null}
use Rattle.pg_value.specs.Attrs.{entry_at, with_entry, without_entry}
use Rattle.pg_value.specs.Datum.{Datum}
use Rattle.pg_value.specs.declared.fault.RunFault.{RunFault}
use Rattle.scopes.specs.Scopes.{Entries, ScopeState}
use Rattle.tag_decl.specs.declared.declaration.VarDecl.{VarDecl}
use Rattle.tag_decl.specs.declared.declaration.VarScope.{VarScope}
use Rattle.tag_decl.specs.declared.declaration.VarScope.TheVariants as var_scope
use Rattle.page_meaning.specs.Context.{Export}
use Rattle.page_meaning.specs.Variables.{entries_of_frame, with_frame_entries}

-- the name at the caller of a variable: its own, or the text of the attribute that names it
abbrev pub outer_name : Entries → VarDecl → List ℕ
outer_name frame v = from v.from
  where
    text_or_empty : Result (List ℕ) RunFault → List ℕ
    text_or_empty (Ok t) = t
    text_or_empty (Err fault) = []

    from : Option (List ℕ) → List ℕ
    from None = v.name
    from (Some attribute) = text_or_empty (text_of (or_null (entry_at attribute frame)))

-- the variables that a call gives, by the values with which it begins
abbrev pub exports_of : Entries → List VarDecl → List Export
exports_of frame [] = []
exports_of frame (v ∷ rest) = record { own = v.name; outer = outer_name frame v; scope = v.scope } ∷ exports_of frame rest

-- whether a variable is given to fragments alone
abbrev pub is_nested : VarScope → Bool
is_nested var_scope.Nested = true
is_nested var_scope.AtBegin = false
is_nested var_scope.AtEnd = false

-- copied before a fragment runs: AT_BEGIN and NESTED
abbrev pub is_at_fragment : VarScope → Bool
is_at_fragment var_scope.Nested = true
is_at_fragment var_scope.AtBegin = true
is_at_fragment var_scope.AtEnd = false

-- copied at the call's end: AT_BEGIN and AT_END
abbrev pub is_at_end : VarScope → Bool
is_at_end sc = not (is_nested sc)

-- with the value under the name, or without it where there is none
abbrev pub with_or_without : List ℕ → Option Datum → Entries → Entries
with_or_without name (Some d) entries = with_entry entries name d
with_or_without name None entries = without_entry entries name

-- each variable of these times as it stands in the call's frame; one that is absent there is removed
abbrev pub copied : (VarScope → Bool) → List Export → (source : Entries) → Entries → Entries
copied times exports source target = fold (λ es x. with_or_without x.outer (entry_at x.own source) es) target (filter (λ x. times x.scope) exports)

-- each NESTED variable as it stood at the caller at the call's beginning
abbrev pub restored : List Export → (before : Entries) → Entries → Entries
restored exports before target = fold (λ es x. with_or_without x.outer (entry_at x.outer before) es) target (filter (λ x. is_nested x.scope) exports)

-- with the variables of these times copied from the current frame to the caller's
abbrev pub copied_out : (VarScope → Bool) → List Export → (frame : ℕ) → ScopeState → ScopeState
copied_out times exports frame scopes =
    with_frame_entries frame (copied times exports (entries_of_frame scopes scopes.current) (entries_of_frame scopes frame)) scopes

-- with the NESTED variables of the caller's frame as they stood before
abbrev pub given_back : List Export → (before : ScopeState) → (frame : ℕ) → ScopeState → ScopeState
given_back exports before frame scopes = with_frame_entries frame (restored exports (entries_of_frame before frame) (entries_of_frame scopes frame)) scopes
