use Rattle.std.proofs.Common.{◌≡◌, Ok, Err, sym, ◌∙◌, arith}
use Rattle.pg_text.specs.Names.{place_in}
use Rattle.pg_text.proofs.NameOrder.{stands, inserts}
use Rattle.pg_text.proofs.names.put.Goals as goal

pub insert-requires : goal.insert-requires
insert-requires c =
    let found : place_in c.args.path c.args.paths.now.items ≡ Err c.in-Err.at = cc (c.in-Err.ensures, c.deref.ensures.value) in
    omega (arith, (inserts c.args.path c.args.paths.now.items c.in-Err.at found).0, c.args.paths.now.ok.0)

pub returns-in-Ok-clause-ok : goal.returns-in-Ok-clause-ok
returns-in-Ok-clause-ok c =
    let found : place_in c.args.path c.args.paths.now.items ≡ Ok c.in-Ok.field-0 = cc (c.in-Ok.ensures, c.deref.ensures.value) in
    sym (stands c.args.path c.args.paths.now.items c.in-Ok.field-0 found)

pub returns-in_ok-insert-in-Err-clause-ok : goal.returns-in_ok-insert-in-Err-clause-ok
returns-in_ok-insert-in-Err-clause-ok c =
    let found : place_in c.args.path c.args.paths.now.items ≡ Err c.in-Err.at = cc (c.in-Err.ensures, c.deref.ensures.value) in
    c.in_ok-insert-in-Err.ensures.items ∙ (inserts c.args.path c.args.paths.now.items c.in-Err.at found).1
