use Rattle.std.proofs.Common.{Some, ◌∙◌, ap}
use Rattle.context_names.specs.Targets.{among}
use Rattle.context_names.proofs.names.ContextNames.context_of.Goals as goal

pub returns-in-Some-clause-context : goal.returns-in-Some-clause-context
returns-in-Some-clause-context c =
    c.place_of.ensures.context ∙ (ap (λ ns. among ns (Some (c.in-Some.name.now, c.in-Some.cut))) (c.deref.ensures.value ∙ c.self.view_is) ∙ ap (among c.args.self.now) c.in-Some.ensures.found)

pub returns-in-None-clause-context : goal.returns-in-None-clause-context
returns-in-None-clause-context c = ap (among c.args.self.now) c.in-None.ensures.found
