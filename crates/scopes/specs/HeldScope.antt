-- The scopes whose variables a page run holds itself.
use Rattle.std.specs.Prelude.{Option, Some, None}
use Rattle.pg_value.specs.declared.scope.Scope.{Scope}
use Rattle.pg_value.specs.declared.scope.Scope.TheVariants as scope
use Rattle.scopes.specs.declared.held_scope.HeldScope.{HeldScope}
use Rattle.scopes.specs.declared.held_scope.HeldScope.TheVariants as held

-- every scope but application scope
abbrev pub held_scope : Scope → Option HeldScope
held_scope scope.Page = Some held.Page
held_scope scope.Request = Some held.Request
held_scope scope.Session = Some held.Session
held_scope scope.Application = None
