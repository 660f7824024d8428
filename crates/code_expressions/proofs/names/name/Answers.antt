use Rattle.std.proofs.Common.{◌≡◌, IfOk, option_map, sym, ap, subst, ◌∙◌}
use Rattle.code_lowering.specs.Expressions.{object_of}
use Rattle.page_meaning.specs.Implicit.{implicit_named}
use Rattle.code_expressions.proofs.NameLemmas.{object_named, variable_named}
use Rattle.code_expressions.proofs.names.name.Goals as goal

pub returns-in-Some : goal.returns-in-Some
returns-in-Some c =
    subst (λ cells. IfOk c.operation.result (λ code. code ≡ cells))
    (sym (object_named c.args.ground.now c.args.place.now c.args.name.now (implicit_named c.args.name.now) c.in-Some.object
    (ap (λ n. option_map object_of (implicit_named n)) (sym c.as_str.ensures) ∙ sym c.implicit_named.ensures ∙ c.in-Some.is)))
    c.operation.ensures

pub returns-in-None : goal.returns-in-None
returns-in-None c =
    subst (λ cells. IfOk c.variable.result (λ code. code ≡ cells))
    (sym (variable_named c.args.ground.now c.args.place.now c.args.name.now (implicit_named c.args.name.now)
    (ap (λ n. option_map object_of (implicit_named n)) (sym c.as_str.ensures) ∙ sym c.implicit_named.ensures ∙ c.in-None.is)))
    c.variable.ensures
