-- Variables of all scopes: what is found, set and removed, and what the site is asked for it.
use Rattle.std.specs.Prelude.{ℕ, List, [], Option, Some, None, get_or, set, take, length}
use Rattle.pg_text.specs.declared.place.Place.{Place}
use Rattle.pg_value.specs.Datum.{Datum}
use Rattle.pg_value.specs.Limits.{is_over}
use Rattle.pg_value.specs.Value.{value_of}
use Rattle.pg_value.specs.declared.fault.RunFault.TheVariants as fault
use Rattle.pg_value.specs.declared.scope.Scope.{Scope}
use Rattle.pg_value.specs.declared.scope.Scope.TheVariants as scope
use Rattle.scopes.specs.HeldScope.{held_scope}
use Rattle.scopes.specs.Scopes.{Entries, ScopeState, found_in, with_variable, without_variable, set_answer}
use Rattle.scopes.specs.declared.held_scope.HeldScope.{HeldScope}
use Rattle.scopes.specs.declared.held_scope.HeldScope.TheVariants as held
use Rattle.site_words.specs.declared.words.AppStep.TheVariants as step
use Rattle.page_meaning.specs.Page.{Variable}
use Rattle.page_meaning.specs.State.{State, in_scopes}
use Rattle.site_words.specs.PageSteps.{told_value}
use Rattle.page_meaning.specs.Went.{Did, Went, Well, Raised, then_do, either, result_of}
use Rattle.page_meaning.specs.Work.{ask}

-- sets a variable of a scope that the run holds: X13 or X21 in session scope
abbrev pub set_held : Place → HeldScope → List ℕ → Datum → State → Did
set_held place sc name d s = then_do (result_of place (set_answer s.scopes sc name d) s) (λ u s1. Well tt (in_scopes (with_variable s1.scopes sc name d) s1))

-- sets a variable of application scope by one step: X20 of a value that is too large
abbrev pub set_application : Place → List ℕ → Datum → State → Did
set_application place name d s = either (is_over d) (Raised fault.ValueTooLarge place) (λ s1. then_do (ask place (step.Set name (value_of d)) s1) (λ answer s2. Well tt s2)) s

-- sets a variable of a scope that the run holds, or of application scope
abbrev pub set_in : Place → Option HeldScope → List ℕ → Datum → State → Did
set_in place (Some sc) name d s = set_held place sc name d s
set_in place None name d s = set_application place name d s

-- sets a variable of a scope
abbrev pub assign : Place → Scope → List ℕ → Datum → State → Did
assign place sc name d s = set_in place (held_scope sc) name d s

-- removes a variable of a scope that the run holds, or by one step of application scope
abbrev pub remove_in : Place → Option HeldScope → List ℕ → State → Did
remove_in place (Some sc) name s = Well tt (in_scopes (without_variable s.scopes sc name) s)
remove_in place None name s = then_do (ask place (step.Remove name) s) (λ answer s1. Well tt s1)

-- removes a variable of a scope
abbrev pub unassign : Place → Scope → List ℕ → State → Did
unassign place sc name s = remove_in place (held_scope sc) name s

-- removes a variable of the current frame
abbrev pub without_page_variable : List ℕ → State → State
without_page_variable name s = in_scopes (without_variable s.scopes held.Page name) s

-- sets a variable of the current frame
abbrev pub with_page_variable : List ℕ → Datum → State → State
with_page_variable name d s = in_scopes (with_variable s.scopes held.Page name d) s

-- without the variable in page, request and session scope
abbrev pub without_inner : List ℕ → ScopeState → ScopeState
without_inner name scopes = without_variable (without_variable (without_variable scopes held.Page name) held.Request name) held.Session name

-- removes a variable of all four scopes
abbrev pub unassign_all : Place → List ℕ → State → Did
unassign_all place name s = unassign place scope.Application name (in_scopes (without_inner name s.scopes) s)

-- removes a variable of the scope that is given, or else of all four
abbrev pub unassign_in : Place → Option Scope → List ℕ → State → Did
unassign_in place (Some sc) name s = unassign place sc name s
unassign_in place None name s = unassign_all place name s

-- the scope that is given, or else page scope
abbrev pub scope_or_page : Option Scope → Scope
scope_or_page (Some sc) = sc
scope_or_page None = scope.Page

-- sets a variable in its scope, page scope where none is given
abbrev pub assign_variable : Place → Variable → Datum → State → Did
assign_variable place x d s = assign place (scope_or_page x.scope) x.name d s

-- the first of page, request and session scope that has the variable, with its value
abbrev pub inner_found : ScopeState → List ℕ → Option (Scope × Datum)
inner_found scopes name = first (found_in scopes held.Page name) (found_in scopes held.Request name) (found_in scopes held.Session name)
  where
    first : Option Datum → Option Datum → Option Datum → Option (Scope × Datum)
    first (Some d) q r = Some (scope.Page, d)
    first None (Some d) r = Some (scope.Request, d)
    first None None (Some d) = Some (scope.Session, d)
    first None None None = None

-- what was found, or else what one step of application scope gives
abbrev pub look_up_else : Place → List ℕ → Option (Scope × Datum) → State → Went (Scope × Datum)
look_up_else place name (Some p) s = Well p s
look_up_else place name None s = then_do (ask place (step.Get name) s) (λ answer s1. Well (scope.Application, told_value answer) s1)

-- the scope and the value of a variable of page, request, session or application scope
abbrev pub look_up : Place → List ℕ → State → Went (Scope × Datum)
look_up place name s = look_up_else place name (inner_found s.scopes name) s

-- the entries of a frame
abbrev pub entries_of_frame : ScopeState → ℕ → Entries
entries_of_frame scopes frame = get_or scopes.frames frame []

-- with other entries in a frame
abbrev pub with_frame_entries : ℕ → Entries → ScopeState → ScopeState
with_frame_entries frame entries scopes = record scopes { frames = set scopes.frames frame entries }

-- with the frames, and the current one among them, as they stood in these scopes
abbrev pub back_to : ScopeState → State → State
back_to before s = in_scopes (record s.scopes { frames = take (length before.frames) s.scopes.frames; current = before.current }) s
