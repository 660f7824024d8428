use Rattle.std.proofs.Common.{◌≡◌, ◌<◌, get_or, length, subst}
use Rattle.dep_graph.specs.Deps.{path_of}
use Rattle.dep_graph.proofs.TakenLemmas.{none_taken, taken_more}
use Rattle.dep_graph.proofs.deps.Deps.remove_each.Goals as goal

pub loop-path-init : goal.loop-path-init
loop-path-init c = none_taken path_of c.args.self.now

pub loop-path-preserved : goal.loop-path-preserved
loop-path-preserved c =
    taken_more path_of c.args.paths.now c.loop-path.path-index c.path-item.result c.args.self.now c.loop-path.self c.remove.new.self
    (subst (λ l. c.loop-path.path-index < length l) c.as_slice-path-items.ensures.paths c.loop-path-test.true)
    (subst (λ l. c.path-item.result ≡ get_or l c.loop-path.path-index c.path-item.result) c.as_slice-path-items.ensures.paths c.path-item.is)
    c.loop-path.invariant c.remove.ensures
