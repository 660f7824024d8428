use Rattle.std.proofs.Common.{subst, sym, ◌∙◌}
use Rattle.std.specs.Option.{option_map}
use Rattle.jstl_functions.specs.Functions.{measured}
use Rattle.run_world.specs.Params.{params_of}
use Rattle.run_world.proofs.Parts.{short_at}
use Rattle.run_world.specs.Part.{Doing}
use Rattle.run_world.specs.Seats.{raise_of, seat_of}
use Rattle.run_parts.proofs.ObjectLemmas.{application_doing, implicit_adds, request_doing, scope_doing}
use Rattle.run_parts.proofs.objects.implicit_value.Goals as goal
use Rattle.page_code.specs.declared.operands.Implicit.{Implicit}
use Rattle.page_meaning.specs.Implicit.{implicit_value, scope_entries}
use Rattle.page_table.specs.Operands.{implicit_of}
use Rattle.page_table.specs.Program.{served_of}
use Rattle.page_table.specs.Seat.{here_of}
use Rattle.pg_text.specs.Failure.{AnswersAs}
use Rattle.pg_value.specs.Datum.{entries_of, rec}
use Rattle.pg_value.specs.Value.{datum_of}
use Rattle.scopes.specs.Scopes.{ScopeState}

pub returns-in_err-value-clause-does : goal.returns-in_err-value-clause-does
returns-in_err-value-clause-does g c serving serves =
    short_at c.args.world.now c.from_residual.result c.from_residual.ensures.1 (λ place. implicit_adds serving (here_of (seat_of c.args.seat.now)) place c.args.object)

pub returns-in_default-clause-does : goal.returns-in_default-clause-does
returns-in_default-clause-does g c serving serves =
    request_doing c.args.world.now serving (here_of (seat_of c.args.seat.now)) c.args.object c.args.served.now.request.now (option_map (λ raise. raise_of raise.now) c.args.served.now.exception) (option_map (λ id. id.now) c.id.result) (params_of c.params.result.now) c.in_ok-value.value
    (λ first origin s stands. c.id.ensures first origin s stands) serves.request serves.exception c.params.ensures.list c.in_default.not-Scope c.in_ok-value.ensures.value

pub returns-in-Some-clause-does : goal.returns-in-Some-clause-does
returns-in-Some-clause-does g c serving serves =
    subst (λ (o : Implicit). Doing g.W.World.reached g.W.World.replies datum_of (λ place. implicit_value (served_of serving) (here_of (seat_of c.args.seat.now)) place (implicit_of o)) c.args.world.now c.args.world.now c.scope_value.result)
    (sym c.in-Scope.is)
    (scope_doing g.W.World.variables (λ first w origin s h. (g.met.W.World.tells first w origin s h).0) c.args.world.now c.in-Scope.scope c.in-Some.held serving (here_of (seat_of c.args.seat.now)) c.scope_value.result
    (sym c.of.ensures ∙ c.in-Some.is)
    (subst (λ (scopes : ScopeState). AnswersAs datum_of (measured (rec (entries_of (scope_entries scopes c.in-Some.held)))) c.scope_value.result) c.scopes.ensures c.scope_value.ensures))

pub returns-in-None-clause-does : goal.returns-in-None-clause-does
returns-in-None-clause-does g c serving serves =
    subst (λ (o : Implicit). Doing g.W.World.reached g.W.World.replies datum_of (λ place. implicit_value (served_of serving) (here_of (seat_of c.args.seat.now)) place (implicit_of o)) c.args.world.now c.whole_application.new.world c.whole_application.result)
    (sym c.in-Scope.is)
    (application_doing c.args.world.now c.whole_application.new.world c.in-Scope.scope serving (here_of (seat_of c.args.seat.now)) c.whole_application.result (sym c.of.ensures ∙ c.in-None.is)
    c.whole_application.ensures.does)
