use Rattle.std.proofs.Common.{Ok, Err, ◌∙◌, subst}
use Rattle.pg_text.specs.Order.{IsPlace}
use Rattle.pg_text.proofs.PlaceLemmas.{without_absent, without_found}
use Rattle.program_store.specs.Store.{shelf_path}
use Rattle.program_store.proofs.store.take_out.Goals as goal

pub returns-in-Ok : goal.returns-in-Ok
returns-in-Ok g c =
    c.remove.ensures.items
    ∙ without_found shelf_path c.args.path.now c.args.shelves.now.items c.in-Ok.at (subst (λ items. IsPlace shelf_path c.args.path.now items (Ok c.in-Ok.at)) c.deref.ensures.value c.in-Ok.ensures)

pub returns-in_default : goal.returns-in_default
returns-in_default g c =
    without_absent shelf_path c.args.path.now c.args.shelves.now.items c.in_default.field-0
    (subst (λ items. IsPlace shelf_path c.args.path.now items (Err c.in_default.field-0)) c.deref.ensures.value c.in_default.ensures)
