-- What was set is found, and everything else stands.
use Rattle.std.proofs.Common.{◌≡◌, ◌≢◌, ◌<◌, ℕ, List, [], length, get_or, Option, Some, None, IsSome, refl, ap, ◌∙◌}
use Rattle.std.specs.Prelude.{option_map, option_and_then}
use Rattle.std.proofs.lemmas.List.{get_or-set_same, get_or-set_other, length-set}
use Rattle.pg_value.specs.Attrs.{entry_at, with_entry}
use Rattle.pg_value.specs.Datum.{Datum}
use Rattle.pg_value.proofs.Lookups.{entry_at-with_entry, entry_at-with_entry_other}
use Rattle.scopes.specs.Laws.{SettingIsLocal}
use Rattle.scopes.specs.Scopes.{Entries, ScopeState, entries_in, found_in, with_variable}
use Rattle.scopes.specs.declared.held_scope.HeldScope.{HeldScope}
use Rattle.scopes.specs.declared.held_scope.HeldScope.TheVariants.{Page, Request, Session}

in_session : (session : Option Entries) (name : List ℕ) (d : Datum) → IsSome session
    → option_and_then (entry_at name) (option_map (λ entries. with_entry entries name d) session) ≡ Some d
in_session None name d some = absurd (cc)
in_session (Some entries) name d some = entry_at-with_entry entries name d

other_in_session : (session : Option Entries) (name other : List ℕ) (d : Datum) → other ≢ name
    → option_and_then (entry_at other) (option_map (λ entries. with_entry entries name d) session) ≡ option_and_then (entry_at other) session
other_in_session None name other d ne = refl
other_in_session (Some entries) name other d ne = entry_at-with_entry_other entries other name d ne

set_is_found : (s : ScopeState) (scope : HeldScope) (name : List ℕ) (d : Datum) → s.current < length s.frames → IsSome (entries_in s scope)
    → found_in (with_variable s scope name d) scope name ≡ Some d
set_is_found s Page name d there some = ap (entry_at name) (get_or-set_same s.frames s.current _ [] there) ∙ entry_at-with_entry (get_or s.frames s.current []) name d
set_is_found s Request name d there some = entry_at-with_entry s.request name d
set_is_found s Session name d there some = in_session s.session name d some

other_names : (s : ScopeState) (scope : HeldScope) (name other : List ℕ) (d : Datum) → s.current < length s.frames → other ≢ name
    → found_in (with_variable s scope name d) scope other ≡ found_in s scope other
other_names s Page name other d there ne = ap (entry_at other) (get_or-set_same s.frames s.current _ [] there) ∙ entry_at-with_entry_other (get_or s.frames s.current []) other name d ne
other_names s Request name other d there ne = entry_at-with_entry_other s.request other name d ne
other_names s Session name other d there ne = other_in_session s.session name other d ne

other_scopes : (s : ScopeState) (scope other : HeldScope) (name : List ℕ) (d : Datum) → other ≢ scope
    → entries_in (with_variable s scope name d) other ≡ entries_in s other
other_scopes s Page Page name d ne = absurd (ne refl)
other_scopes s Page Request name d ne = refl
other_scopes s Page Session name d ne = refl
other_scopes s Request Page name d ne = refl
other_scopes s Request Request name d ne = absurd (ne refl)
other_scopes s Request Session name d ne = refl
other_scopes s Session Page name d ne = refl
other_scopes s Session Request name d ne = refl
other_scopes s Session Session name d ne = absurd (ne refl)

other_frames : (s : ScopeState) (scope : HeldScope) (name : List ℕ) (d : Datum) (frame : ℕ) → frame ≢ s.current
    → get_or (with_variable s scope name d).frames frame [] ≡ get_or s.frames frame []
other_frames s Page name d frame ne = get_or-set_other s.frames s.current frame _ [] ne
other_frames s Request name d frame ne = refl
other_frames s Session name d frame ne = refl

same_number : (s : ScopeState) (scope : HeldScope) (name : List ℕ) (d : Datum) → length (with_variable s scope name d).frames ≡ length s.frames
same_number s Page name d = length-set s.frames s.current _
same_number s Request name d = refl
same_number s Session name d = refl

pub local : SettingIsLocal
local = record { set_is_found = set_is_found; other_names = other_names; other_scopes = other_scopes; other_frames = other_frames; same_number = same_number }
