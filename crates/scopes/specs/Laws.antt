-- What setting a variable changes: what stands under its name in its scope, and nothing else.
use Rattle.std.specs.Prelude.{◌≡◌, ◌≢◌, ◌<◌, ℕ, List, [], length, get_or, Some, IsSome}
use Rattle.pg_value.specs.Datum.{Datum}
use Rattle.scopes.specs.Scopes.{ScopeState, entries_in, found_in, with_variable}
use Rattle.scopes.specs.declared.held_scope.HeldScope.{HeldScope}

-- what was set is found, and other names, scopes and frames stand; the current frame is one of the frames, as it is of all scopes
pub record SettingIsLocal : Type 0 where
  pub set_is_found : (s : ScopeState) (scope : HeldScope) (name : List ℕ) (d : Datum) → s.current < length s.frames → IsSome (entries_in s scope)
      → found_in (with_variable s scope name d) scope name ≡ Some d
  pub other_names : (s : ScopeState) (scope : HeldScope) (name other : List ℕ) (d : Datum) → s.current < length s.frames → other ≢ name
      → found_in (with_variable s scope name d) scope other ≡ found_in s scope other
  pub other_scopes : (s : ScopeState) (scope other : HeldScope) (name : List ℕ) (d : Datum) → other ≢ scope
      → entries_in (with_variable s scope name d) other ≡ entries_in s other
  pub other_frames : (s : ScopeState) (scope : HeldScope) (name : List ℕ) (d : Datum) (frame : ℕ) → frame ≢ s.current
      → get_or (with_variable s scope name d).frames frame [] ≡ get_or s.frames frame []
  pub same_number : (s : ScopeState) (scope : HeldScope) (name : List ℕ) (d : Datum) → length (with_variable s scope name d).frames ≡ length s.frames
