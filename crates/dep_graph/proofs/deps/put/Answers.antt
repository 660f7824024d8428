use Rattle.std.proofs.Common.{◌∙◌, subst}
use Rattle.pg_text.specs.Order.{IsPlace}
use Rattle.pg_text.proofs.PlaceLemmas.{with_found, with_absent}
use Rattle.dep_graph.specs.Deps.{path_of}
use Rattle.dep_graph.proofs.deps.put.Goals as goal

pub returns-in-Ok : goal.returns-in-Ok
returns-in-Ok c =
    with_found path_of c.args.dependent c.args.dependents.now.items c.in-Ok.at (subst (IsPlace path_of c.args.dependent.path c.args.dependents.now.items) c.in-Ok.is c.requires.place)

pub returns-in-Ok-insert : goal.returns-in-Ok-insert
returns-in-Ok-insert c =
    c.in-Ok-insert.ensures.items
    ∙ with_absent path_of c.args.dependent c.args.dependents.now.items c.in-Err.at (subst (IsPlace path_of c.args.dependent.path c.args.dependents.now.items) c.in-Err.is c.requires.place)
