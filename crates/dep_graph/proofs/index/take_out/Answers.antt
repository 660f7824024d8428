use Rattle.std.proofs.Common.{Ok, Err, ◌∙◌, subst}
use Rattle.pg_text.specs.Order.{IsPlace}
use Rattle.pg_text.proofs.PlaceLemmas.{without_absent, without_found}
use Rattle.dep_graph.specs.Deps.{itself}
use Rattle.dep_graph.proofs.index.take_out.Goals as goal

pub returns-in-Ok : goal.returns-in-Ok
returns-in-Ok c =
    c.remove.ensures.items
    ∙ without_found itself c.args.path.now c.args.users.now.items c.in-Ok.at (subst (λ users. IsPlace itself c.args.path.now users (Ok c.in-Ok.at)) c.deref.ensures.value c.in-Ok.ensures)

pub returns-in_default : goal.returns-in_default
returns-in_default c =
    without_absent itself c.args.path.now c.args.users.now.items c.in_default.field-0
    (subst (λ users. IsPlace itself c.args.path.now users (Err c.in_default.field-0)) c.deref.ensures.value c.in_default.ensures)
