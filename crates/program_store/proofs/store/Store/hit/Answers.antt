use Rattle.std.proofs.Common.{Ok, Err, Some, None, ◌∙◌, sym, subst}
use Rattle.pg_text.specs.Order.{IsPlace}
use Rattle.pg_text.proofs.PlaceLemmas.{item_absent, item_found}
use Rattle.program_store.specs.Store.{shelf_path}
use Rattle.program_store.proofs.KeptLemmas.{hit_at}
use Rattle.program_store.proofs.store.Store.hit.Goals as goal

pub returns-in-Ok : goal.returns-in-Ok
returns-in-Ok g c =
    let shelves = c.args.self.now.shelves.items in
    let place = subst (λ items. IsPlace shelf_path c.args.path.now items (Ok c.in-Ok.at)) c.deref.ensures.value c.in-Ok.ensures in
    c.ready.ensures
    ∙ sym (hit_at g.P.Compiled.needed c.args.path.now c.args.tree.now shelves (Some c.index.result.now) (item_found shelf_path c.args.path.now shelves c.in-Ok.at c.index.result.now place c.index.ensures))

pub returns-in-Err : goal.returns-in-Err
returns-in-Err g c =
    let shelves = c.args.self.now.shelves.items in
    let place = subst (λ items. IsPlace shelf_path c.args.path.now items (Err c.in-Err.field-0)) c.deref.ensures.value c.in-Err.ensures in
    sym (hit_at g.P.Compiled.needed c.args.path.now c.args.tree.now shelves None (item_absent shelf_path c.args.path.now shelves c.in-Err.field-0 place))
