use Rattle.std.proofs.Common.{◌≡◌, Some, ap, sym, ◌∙◌}
use Rattle.run_world.proofs.Adds.{variable_adds}
use Rattle.run_parts.proofs.Lookups.{find_found}
use Rattle.run_world.proofs.Parts.{short_at}
use Rattle.run_parts.proofs.variables.find.Goals as goal
use Rattle.pg_value.specs.Value.{datum_of}
use Rattle.scopes.specs.Scopes.{found}

pub returns-in_err-copy-clause-does : goal.returns-in_err-copy-clause-does
returns-in_err-copy-clause-does g c =
    short_at c.args.world.now c.from_residual.result c.from_residual.ensures.1 (λ place s. variable_adds c.args.strict place c.args.name.now (found s.scopes c.args.name.now) s)

pub returns-in-Some-clause-does : goal.returns-in-Some-clause-does
returns-in-Some-clause-does g c =
    let here : found (g.W.World.variables c.args.world.now) c.args.name.now ≡ found c.scopes.result.now c.as_str.result.now =
    ap (λ scopes. found scopes c.args.name.now) (sym c.scopes.ensures) ∙ ap (found c.scopes.result.now) (sym (c.as_str.ensures ∙ c.as_text.ensures.text)) in
    find_found g.W.World.variables (λ first w origin s h. (g.met.W.World.tells first w origin s h).0) c.args.world.now c.args.strict c.args.name.now c.in_ok-copy.field-0
    (here ∙ sym c.in-Some.ensures ∙ ap (λ v. Some (datum_of v)) (sym c.in_ok-copy.ensures))

pub find_in_application-requires-clause-nowhere : goal.find_in_application-requires-clause-nowhere
find_in_application-requires-clause-nowhere g c =
    ap (λ scopes. found scopes c.args.name.now) (sym c.scopes.ensures) ∙ ap (found c.scopes.result.now) (sym (c.as_str.ensures ∙ c.as_text.ensures.text)) ∙ sym c.in_default.ensures
