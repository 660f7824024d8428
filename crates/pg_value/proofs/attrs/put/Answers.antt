use Rattle.std.proofs.Common.{◌≡◌, map, Err, ap, ◌∙◌, arith}
use Rattle.pg_value.specs.Attrs.{place_of}
use Rattle.pg_value.specs.Value.{entry_of}
use Rattle.pg_value.proofs.Places.{inserts}
use Rattle.pg_value.proofs.attrs.put.Goals as goal

pub insert-requires : goal.insert-requires
insert-requires c =
    let found : place_of c.args.key c.args.entries.now.items ≡ Err c.in-Err.at = cc (c.in-Err.ensures, c.as_str.ensures, c.deref.ensures.value) in
    omega (arith, (inserts c.args.key c.args.value c.args.entries.now.items c.in-Err.at found).within, c.args.entries.now.ok.0)

pub returns-in_ok-insert-in-Err-clause-ok : goal.returns-in_ok-insert-in-Err-clause-ok
returns-in_ok-insert-in-Err-clause-ok c =
    let found : place_of c.args.key c.args.entries.now.items ≡ Err c.in-Err.at = cc (c.in-Err.ensures, c.as_str.ensures, c.deref.ensures.value) in
    ap (map entry_of) c.in_ok-insert-in-Err.ensures.items ∙ (inserts c.args.key c.args.value c.args.entries.now.items c.in-Err.at found).made
