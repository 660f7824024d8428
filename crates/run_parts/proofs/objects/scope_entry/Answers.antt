use Rattle.std.proofs.Common.{List, ℕ, ap, refl, sym, ◌∙◌}
use Rattle.el_ops.specs.Indexing.{or_null}
use Rattle.run_world.proofs.Exits.{err_as}
use Rattle.run_world.proofs.Parts.{short_at}
use Rattle.run_parts.proofs.ObjectLemmas.{datum_some, entry_adds, entry_asked, entry_failed, held_doing, null_doing}
use Rattle.run_parts.proofs.objects.scope_entry.Goals as goal
use Rattle.page_meaning.specs.Implicit.{scope_entries}
use Rattle.page_table.specs.Operands.{keyed_scope}
use Rattle.page_table.specs.Program.{served_of}
use Rattle.pg_value.specs.Attrs.{entry_at}
use Rattle.pg_value.specs.Value.{datum_of}
use Rattle.pg_value.specs.declared.value.Value.TheVariants as variant
use Rattle.scopes.specs.Scopes.{ScopeState}

pub returns-in-Null-clause-does : goal.returns-in-Null-clause-does
returns-in-Null-clause-does g c serving = null_doing c.args.world.now c.args.scope serving (datum_of c.args.key.now) variant.Null (ap datum_of c.in-Null.is) refl

pub returns-in_err-name-clause-does : goal.returns-in_err-name-clause-does
returns-in_err-name-clause-does g c serving =
    err_as c.from_residual.result c.in_err-name.field-0.0 c.from_residual.ensures.1
    (entry_failed c.args.world.now c.args.scope serving (datum_of c.args.key.now) c.in_err-name.field-0.0 (datum_some c.args.key.now c.in_default.not-Null) c.in_err-name.ensures.text)

pub returns-in_err-held_entry-in-Some-clause-does : goal.returns-in_err-held_entry-in-Some-clause-does
returns-in_err-held_entry-in-Some-clause-does g c serving =
    short_at c.args.world.now c.from_residual-in_err-held_entry-in-Some.result c.from_residual-in_err-held_entry-in-Some.ensures.1
    (λ place. entry_adds (served_of serving) place (keyed_scope c.args.scope) (datum_of c.args.key.now))

pub returns-in_ok-held_entry-in-Some-clause-does : goal.returns-in_ok-held_entry-in-Some-clause-does
returns-in_ok-held_entry-in-Some-clause-does g c serving =
    held_doing g.W.World.variables (λ first w origin s h. (g.met.W.World.tells first w origin s h).0) c.args.world.now c.args.scope c.in-Some.held serving (datum_of c.args.key.now) c.in_ok-name.name
    c.in_ok-held_entry-in-Some.field-0 (datum_some c.args.key.now c.in_default.not-Null) c.in_ok-name.ensures.text (sym c.of.ensures ∙ c.in-Some.is)
    (c.in_ok-held_entry-in-Some.ensures ∙ ap (λ (n : List ℕ). or_null (entry_at n (scope_entries c.scopes.result.now c.in-Some.held))) c.as_str.ensures
    ∙ ap (λ (scopes : ScopeState). or_null (entry_at c.in_ok-name.name (scope_entries scopes c.in-Some.held))) c.scopes.ensures)

pub returns-in-None-clause-does : goal.returns-in-None-clause-does
returns-in-None-clause-does g c serving =
    entry_asked c.args.world.now c.application_entry.new.world c.args.scope serving (datum_of c.args.key.now) c.in_ok-name.name c.application_entry.result (datum_some c.args.key.now c.in_default.not-Null)
    c.in_ok-name.ensures.text (sym c.of.ensures ∙ c.in-None.is) c.application_entry.ensures.does
