use Rattle.std.proofs.Common.{◌≡◌, ◌<◌, ◌∙◌, get_or, length, sym, subst}
use Rattle.pg_text.specs.Order.{AreRising}
use Rattle.dep_graph.specs.Deps.{path_of}
use Rattle.dep_graph.proofs.DirtyLemmas.{dirty_more, none_dirty}
use Rattle.dep_graph.proofs.deps.Deps.dirty.Goals as goal

pub loop-name-init : goal.loop-name-init
loop-name-init c = c.empty-paths.ensures ∙ sym (none_dirty c.args.self.now)

pub loop-name-preserved : goal.loop-name-preserved
loop-name-preserved c =
    dirty_more c.args.changed.now c.loop-name.name-index c.name-item.result c.args.self.now c.loop-name.paths c.add_users.new.paths (subst (AreRising path_of) c.self.view_is c.self.invariant.0)
    (subst (λ l. c.loop-name.name-index < length l) c.as_slice-name-items.ensures.paths c.loop-name-test.true)
    (subst (λ l. c.name-item.result ≡ get_or l c.loop-name.name-index c.name-item.result) c.as_slice-name-items.ensures.paths c.name-item.is)
    c.loop-name.invariant c.in_ok-add_users.ensures
