use Rattle.std.proofs.Common.{Ok, Err, ◌∙◌, subst}
use Rattle.pg_text.specs.Order.{IsPlace}
use Rattle.pg_text.proofs.PlaceLemmas.{with_absent, with_found}
use Rattle.program_store.specs.Store.{shelf_path}
use Rattle.program_store.proofs.store.put.Goals as goal

pub returns-in-Ok : goal.returns-in-Ok
returns-in-Ok g c =
    let place = subst (λ items. IsPlace shelf_path c.args.shelf.path items (Ok c.in-Ok.at)) c.deref.ensures.value c.in-Ok.ensures in
    with_found shelf_path c.args.shelf c.args.shelves.now.items c.in-Ok.at place

pub returns-in-Ok-insert : goal.returns-in-Ok-insert
returns-in-Ok-insert g c =
    let place = subst (λ items. IsPlace shelf_path c.args.shelf.path items (Err c.in-Err.at)) c.deref.ensures.value c.in-Err.ensures in
    c.in-Ok-insert.ensures.items ∙ with_absent shelf_path c.args.shelf c.args.shelves.now.items c.in-Err.at place
