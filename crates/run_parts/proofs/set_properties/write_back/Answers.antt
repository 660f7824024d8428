use Rattle.std.proofs.Common.{List, ap, subst, ◌∙◌, ℕ}
use Rattle.run_world.proofs.Parts.{short_at}
use Rattle.run_world.specs.Part.{Doing}
use Rattle.run_parts.proofs.PropertySets.{written_adds}
use Rattle.run_parts.specs.Properties.{written}
use Rattle.run_parts.proofs.set_properties.write_back.Goals as goal
use Rattle.pg_value.specs.Attrs.{with_entry}
use Rattle.pg_value.specs.Value.{datum_of}
use Rattle.scopes.specs.Scopes.{Entries}

pub returns-in_err-copy-clause-does : goal.returns-in_err-copy-clause-does
returns-in_err-copy-clause-does g c =
    short_at c.args.world.now c.from_residual.result c.from_residual.ensures.1
    (λ place. written_adds place c.args.found.scope (with_entry c.args.found.entries c.args.property.now (datum_of c.args.new)) c.args.name.now)

pub returns-in_err-insert-clause-does : goal.returns-in_err-insert-clause-does
returns-in_err-insert-clause-does g c =
    short_at c.args.world.now c.from_residual-in_err-insert.result c.from_residual-in_err-insert.ensures.1
    (λ place. written_adds place c.args.found.scope (with_entry c.args.found.entries c.args.property.now (datum_of c.args.new)) c.args.name.now)

pub returns-clause-does : goal.returns-clause-does
returns-clause-does g c =
    subst (λ (es : Entries). Doing g.W.World.reached g.W.World.replies (λ (u : Unit {0}). u) (λ place. written place c.args.found.scope es c.args.name.now) c.args.world.now c.write_record.new.world c.write_record.result)
    (c.in_ok-insert.ensures.ok ∙ ap (λ (n : List ℕ). with_entry c.args.found.entries n (datum_of c.args.new)) c.in_ok-copy.ensures) c.write_record.ensures.does
