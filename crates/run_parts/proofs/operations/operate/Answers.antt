use Rattle.std.proofs.Common.{◌≡◌, List, ap, arith, length, refl, subst, sym, ◌∙◌, ℕ, Bool}
use Rattle.std.specs.Prelude.{Some, map}
use Rattle.el_ops.specs.Indexing.{or_null}
use Rattle.page_code.specs.Ops.{takes}
use Rattle.page_code.specs.declared.op.Op.TheVariants as op
use Rattle.page_meaning.specs.Attributes.{text_in}
use Rattle.page_meaning.specs.Beans.{property_of}
use Rattle.page_meaning.specs.Bodies.{put_text}
use Rattle.page_meaning.specs.Core.{set_or_remove}
use Rattle.page_meaning.specs.Expressions.{variable_or_step}
use Rattle.page_meaning.specs.Implicit.{entry_of_object}
use Rattle.page_meaning.specs.Variables.{look_up}
use Rattle.page_meaning.specs.Went.{result_of, then_do}
use Rattle.page_table.specs.Operands.{keyed_scope}
use Rattle.page_table.specs.Operations.{value_at}
use Rattle.page_table.specs.Program.{served_of}
use Rattle.pg_text.specs.Escape.{escaped}
use Rattle.pg_text.specs.Failure.{AnswersAs}
use Rattle.pg_value.specs.Datum.{Datum}
use Rattle.pg_value.specs.Value.{datum_of}
use Rattle.run_parts.proofs.Operates.{computed_else, computed_is, first_is, header_is, op_none, op_one, popped}
use Rattle.run_parts.proofs.operations.operate.Goals as goal
use Rattle.run_parts.specs.Operations.{HasOnePlace, computed}
use Rattle.run_values.specs.Objects.{header_answer}
use Rattle.run_world.proofs.Parts.{result_doing}
use Rattle.run_world.specs.Part.{Doing}
use Rattle.run_world.specs.Seats.{seat_of}
use Rattle.scopes.specs.Scopes.{found}

pub returns-in-Write-clause-does : goal.returns-in-Write-clause-does
returns-in-Write-clause-does g c serving serves =
    op_none serving (seat_of c.args.seat.now) c.args.applied.op.now (op.Write c.in-Write.text) (map datum_of c.args.applied.args.now) c.args.world.now c.put.new.self c.none.result c.in-Write.is c.put.result c.none.ensures (λ place s. refl)
    (subst (λ (t : List ℕ). Doing g.W.World.reached g.W.World.replies (λ (u : Unit {0}). u) (λ place. put_text place t) c.args.world.now c.put.new.self c.put.result) c.as_str.ensures c.put.ensures.does)

pub returns-in-Put-clause-does : goal.returns-in-Put-clause-does
returns-in-Put-clause-does g c serving serves =
    let one : length c.args.applied.args.now ≡ 1 = c.requires.args ∙ ap takes c.in-Put.is in
    let first = first_is c.args.applied.args.now c.index-args-0.result (omega (arith, one)) c.index-args-0.is in
    op_none serving (seat_of c.args.seat.now) c.args.applied.op.now (op.Put) (map datum_of c.args.applied.args.now) c.args.world.now c.put-in-Put.new.self c.none-in-Put.result c.in-Put.is c.put-in-Put.result c.none-in-Put.ensures (λ place s. refl)
    (subst (λ (t : List ℕ). Doing g.W.World.reached g.W.World.replies (λ (u : Unit {0}). u) (λ place. put_text place t) c.args.world.now c.put-in-Put.new.self c.put-in-Put.result) (c.text_of.ensures ∙ ap text_in (sym first)) c.put-in-Put.ensures.does)

pub returns-in-PutEscaped-clause-does : goal.returns-in-PutEscaped-clause-does
returns-in-PutEscaped-clause-does g c serving serves =
    let one : length c.args.applied.args.now ≡ 1 = c.requires.args ∙ ap takes c.in-PutEscaped.is in
    let first = first_is c.args.applied.args.now c.index-args-0-in-PutEscaped.result (omega (arith, one)) c.index-args-0-in-PutEscaped.is in
    op_none serving (seat_of c.args.seat.now) c.args.applied.op.now (op.PutEscaped) (map datum_of c.args.applied.args.now) c.args.world.now c.put_escaped.new.world c.none-in-PutEscaped.result c.in-PutEscaped.is c.put_escaped.result c.none-in-PutEscaped.ensures (λ place s. refl)
    (subst (λ (t : List ℕ). Doing g.W.World.reached g.W.World.replies (λ (u : Unit {0}). u) (λ place. put_text place (escaped t)) c.args.world.now c.put_escaped.new.world c.put_escaped.result) (c.text_of-in-PutEscaped.ensures ∙ ap text_in (sym first)) c.put_escaped.ensures.does)

pub returns-in-Visit-clause-does : goal.returns-in-Visit-clause-does
returns-in-Visit-clause-does g c serving serves =
    op_none serving (seat_of c.args.seat.now) c.args.applied.op.now (op.Visit c.in-Visit.count) (map datum_of c.args.applied.args.now) c.args.world.now c.count_visits.new.world c.none-in-Visit.result c.in-Visit.is c.count_visits.result c.none-in-Visit.ensures (λ place s. refl)
    c.count_visits.ensures.does

pub returns-in-Pop-clause-does : goal.returns-in-Pop-clause-does
returns-in-Pop-clause-does g c serving serves =
    popped serving (seat_of c.args.seat.now) c.args.applied.op.now (map datum_of c.args.applied.args.now) c.args.world.now c.in-Pop.is

pub returns-in-SetVar-clause-does : goal.returns-in-SetVar-clause-does
returns-in-SetVar-clause-does g c serving serves =
    let one : length c.args.applied.args.now ≡ 1 = c.requires.args ∙ ap takes c.in-SetVar.is in
    let first = first_is c.args.applied.args.now c.index-args-0-in-SetVar.result (omega (arith, one)) c.index-args-0-in-SetVar.is in
    op_none serving (seat_of c.args.seat.now) c.args.applied.op.now (op.SetVar c.in-SetVar.variable) (map datum_of c.args.applied.args.now) c.args.world.now c.set_or_remove.new.world c.none-in-SetVar.result c.in-SetVar.is c.set_or_remove.result c.none-in-SetVar.ensures (λ place s. refl)
    (subst (λ (d : Datum). Doing g.W.World.reached g.W.World.replies (λ (u : Unit {0}). u) (λ place. set_or_remove place (record { name = c.in-SetVar.variable.name; scope = Some c.in-SetVar.variable.scope }) d) c.args.world.now c.set_or_remove.new.world c.set_or_remove.result) (sym (ap or_null first)) c.set_or_remove.ensures.does)

pub returns-in-RemoveVar-clause-does : goal.returns-in-RemoveVar-clause-does
returns-in-RemoveVar-clause-does g c serving serves =
    op_none serving (seat_of c.args.seat.now) c.args.applied.op.now (op.RemoveVar c.in-RemoveVar.variable) (map datum_of c.args.applied.args.now) c.args.world.now c.unassign.new.world c.none-in-RemoveVar.result c.in-RemoveVar.is c.unassign.result c.none-in-RemoveVar.ensures (λ place s. refl)
    c.unassign.ensures.does

pub returns-in-RemoveAll-clause-does : goal.returns-in-RemoveAll-clause-does
returns-in-RemoveAll-clause-does g c serving serves =
    op_none serving (seat_of c.args.seat.now) c.args.applied.op.now (op.RemoveAll c.in-RemoveAll.name) (map datum_of c.args.applied.args.now) c.args.world.now c.unassign_all.new.world c.none-in-RemoveAll.result c.in-RemoveAll.is c.unassign_all.result c.none-in-RemoveAll.ensures (λ place s. refl)
    c.unassign_all.ensures.does

pub set_property-requires-clause-args : goal.set_property-requires-clause-args
set_property-requires-clause-args g c = c.requires.args ∙ ap takes c.in-SetProperty.is

pub set_property-requires-clause-placed : goal.set_property-requires-clause-placed
set_property-requires-clause-placed g c = subst HasOnePlace c.in-SetProperty.is c.requires.placed

pub returns-in-SetProperty-clause-does : goal.returns-in-SetProperty-clause-does
returns-in-SetProperty-clause-does g c serving serves =
    op_none serving (seat_of c.args.seat.now) c.args.applied.op.now (op.SetProperty c.in-SetProperty.name c.in-SetProperty.mode) (map datum_of c.args.applied.args.now) c.args.world.now c.set_property.new.world c.none-in-SetProperty.result c.in-SetProperty.is c.set_property.result c.none-in-SetProperty.ensures (λ place s. refl)
    c.set_property.ensures.does

pub returns-in-GetProperty-clause-does : goal.returns-in-GetProperty-clause-does
returns-in-GetProperty-clause-does g c serving serves =
    let one : length c.args.applied.args.now ≡ 1 = c.requires.args ∙ ap takes c.in-GetProperty.is in
    let first = first_is c.args.applied.args.now c.index-args-0-in-GetProperty.result (omega (arith, one)) c.index-args-0-in-GetProperty.is in
    op_one serving (seat_of c.args.seat.now) c.args.applied.op.now (op.GetProperty c.in-GetProperty.name) (map datum_of c.args.applied.args.now) c.args.world.now c.get_property.new.world c.one.result c.in-GetProperty.is c.get_property.result c.one.ensures (λ place s. refl)
    (subst (λ (t : List ℕ). Doing g.W.World.reached g.W.World.replies datum_of (λ place s. then_do (look_up place c.in-GetProperty.name s) (λ p s1. result_of place (property_of t p.1) s1)) c.args.world.now c.get_property.new.world c.get_property.result) (c.text_of-in-GetProperty.ensures ∙ ap text_in (sym first)) c.get_property.ensures.does)

pub returns-in-Find-clause-does : goal.returns-in-Find-clause-does
returns-in-Find-clause-does g c serving serves =
    op_one serving (seat_of c.args.seat.now) c.args.applied.op.now (op.Find c.in-Find.name) (map datum_of c.args.applied.args.now) c.args.world.now c.find.new.world c.one-in-Find.result c.in-Find.is c.find.result c.one-in-Find.ensures (λ place s. refl)
    (subst (λ (b : Bool). Doing g.W.World.reached g.W.World.replies datum_of (λ place s. variable_or_step b place c.in-Find.name (found s.scopes c.in-Find.name) s) c.args.world.now c.find.new.world c.find.result) c.is_strict.ensures c.find.ensures.does)

pub returns-in-Implicit-clause-does : goal.returns-in-Implicit-clause-does
returns-in-Implicit-clause-does g c serving serves =
    op_one serving (seat_of c.args.seat.now) c.args.applied.op.now (op.Implicit c.in-Implicit.object) (map datum_of c.args.applied.args.now) c.args.world.now c.implicit_value.new.world c.one-in-Implicit.result c.in-Implicit.is c.implicit_value.result c.one-in-Implicit.ensures (λ place s. refl)
    (c.implicit_value.ensures.does serving serves)

pub returns-in-HeaderIndex-clause-does : goal.returns-in-HeaderIndex-clause-does
returns-in-HeaderIndex-clause-does g c serving serves =
    let one : length c.args.applied.args.now ≡ 1 = c.requires.args ∙ ap takes c.in-HeaderIndex.is in
    let first = first_is c.args.applied.args.now c.index-args-0-in-HeaderIndex.result (omega (arith, one)) c.index-args-0-in-HeaderIndex.is in
    let asks = ap (λ request. header_answer request c.in-HeaderIndex.object (value_at 0 (map datum_of c.args.applied.args.now))) serves.request ∙ ap (λ d. header_answer c.args.served.now.request.now c.in-HeaderIndex.object (or_null d)) first in
    op_one serving (seat_of c.args.seat.now) c.args.applied.op.now (op.HeaderIndex c.in-HeaderIndex.object) (map datum_of c.args.applied.args.now) c.args.world.now c.args.world.now c.one-in-HeaderIndex.result c.in-HeaderIndex.is c.header_entry.result c.one-in-HeaderIndex.ensures
    (λ place s. header_is serving (seat_of c.args.seat.now) place c.in-HeaderIndex.object (map datum_of c.args.applied.args.now) s)
    (result_doing c.args.world.now (header_answer serving.request c.in-HeaderIndex.object (value_at 0 (map datum_of c.args.applied.args.now))) c.header_entry.result
    (subst (λ e. AnswersAs datum_of e c.header_entry.result) (sym asks) c.header_entry.ensures.answer))

pub returns-in-ScopeIndex-clause-does : goal.returns-in-ScopeIndex-clause-does
returns-in-ScopeIndex-clause-does g c serving serves =
    let one : length c.args.applied.args.now ≡ 1 = c.requires.args ∙ ap takes c.in-ScopeIndex.is in
    let first = first_is c.args.applied.args.now c.index-args-0-in-ScopeIndex.result (omega (arith, one)) c.index-args-0-in-ScopeIndex.is in
    op_one serving (seat_of c.args.seat.now) c.args.applied.op.now (op.ScopeIndex c.in-ScopeIndex.scope) (map datum_of c.args.applied.args.now) c.args.world.now c.scope_entry.new.world c.one-in-ScopeIndex.result c.in-ScopeIndex.is c.scope_entry.result c.one-in-ScopeIndex.ensures (λ place s. refl)
    (subst (λ (d : Datum). Doing g.W.World.reached g.W.World.replies datum_of (λ place. entry_of_object (served_of serving) place (keyed_scope c.in-ScopeIndex.scope) d) c.args.world.now c.scope_entry.new.world c.scope_entry.result) (sym (ap or_null first)) (c.scope_entry.ensures.does serving))

pub compute-requires-clause-computed : goal.compute-requires-clause-computed
compute-requires-clause-computed g c = computed_else c.args.applied.op.now c.in_default.not-Write c.in_default.not-Put c.in_default.not-PutEscaped c.in_default.not-Visit c.in_default.not-Pop c.in_default.not-SetVar c.in_default.not-RemoveVar c.in_default.not-RemoveAll c.in_default.not-SetProperty c.in_default.not-GetProperty c.in_default.not-Find c.in_default.not-Implicit c.in_default.not-HeaderIndex c.in_default.not-ScopeIndex

pub returns-in_default-clause-does : goal.returns-in_default-clause-does
returns-in_default-clause-does g c serving serves =
    op_one serving (seat_of c.args.seat.now) c.args.applied.op.now c.args.applied.op.now (map datum_of c.args.applied.args.now) c.args.world.now c.args.world.now c.one-in_default.result refl c.compute.result c.one-in_default.ensures
    (λ place s. computed_is serving (seat_of c.args.seat.now) place c.args.applied.op.now (map datum_of c.args.applied.args.now) s (computed_else c.args.applied.op.now c.in_default.not-Write c.in_default.not-Put c.in_default.not-PutEscaped c.in_default.not-Visit c.in_default.not-Pop c.in_default.not-SetVar c.in_default.not-RemoveVar c.in_default.not-RemoveAll c.in_default.not-SetProperty c.in_default.not-GetProperty c.in_default.not-Find c.in_default.not-Implicit c.in_default.not-HeaderIndex c.in_default.not-ScopeIndex))
    (result_doing c.args.world.now (computed c.args.applied.op.now (map datum_of c.args.applied.args.now)) c.compute.result c.compute.ensures)
