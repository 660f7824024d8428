use Rattle.std.proofs.Common.{◌≡◌, IfOk, sym, ◌∙◌, subst}
use Rattle.code_expressions.proofs.NameLemmas.{entry_named}
use Rattle.code_expressions.proofs.names.entry_named.Goals as goal

pub returns-in-Some : goal.returns-in-Some
returns-in-Some c =
    subst (λ entry. IfOk c.entry_of.result (λ code. code ≡ entry))
    (sym (entry_named c.args.ground.now c.args.place.now c.args.name.now _ (sym c.in-Some.is ∙ c.implicit_named.ensures)))
    c.entry_of.ensures

pub returns-in-None : goal.returns-in-None
returns-in-None c = sym (entry_named c.args.ground.now c.args.place.now c.args.name.now _ (sym c.in-None.is ∙ c.implicit_named.ensures))
