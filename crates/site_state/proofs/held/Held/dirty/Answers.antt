use Rattle.std.proofs.Common.{◌≡◌, ℕ, List, ap, subst, ◌∙◌}
use Rattle.std.specs.Prelude.{IfOk}
use Rattle.source_tree.specs.Changed.{changed}
use Rattle.program_store.specs.Store.{dirty_in, kept_in}
use Rattle.site_state.proofs.held.Held.dirty.Goals as goal

pub returns : goal.returns
returns g c =
    subst (λ names. IfOk c.dirty.result (λ (dirty : List (List ℕ)). dirty ≡ dirty_in g.P.Compiled.needed names (kept_in c.args.self.now.store.shelves.items)))
    (c.in_ok-names.ensures ∙ ap (λ tree. changed c.args.edits.now tree) c.deref.ensures) c.dirty.ensures
