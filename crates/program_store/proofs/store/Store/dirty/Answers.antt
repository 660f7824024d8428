use Rattle.std.proofs.Common.{◌≡◌, ◌∙◌, ap, subst}
use Rattle.std.specs.Prelude.{IfOk}
use Rattle.dep_graph.specs.Deps.{dirty_of}
use Rattle.program_store.proofs.NeedLemmas.{dirty_needing}
use Rattle.program_store.proofs.store.Store.dirty.Goals as goal

pub returns : goal.returns
returns g c =
    subst (λ paths. IfOk c.dirty.result (λ dirty. dirty ≡ paths))
    (ap (dirty_of c.args.names.now) c.args.self.now.in_step ∙ dirty_needing g.P.Compiled.needed c.args.names.now c.args.self.now.shelves.items) c.dirty.ensures
