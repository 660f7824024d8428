use Rattle.std.proofs.Common.{◌≡◌, map, Ok, Err, rules, ap, arith, ◌∙◌}
use Rattle.pg_value.specs.Attrs.{place_of}
use Rattle.pg_value.specs.Value.{entry_of}
use Rattle.pg_value.proofs.Halving.{within}
use Rattle.scopes.proofs.Removing.{removed_at, none_removed}
use Rattle.scopes.proofs.attributes.take_out.Goals as goal

pub remove-requires : goal.remove-requires
remove-requires c =
    let found : place_of c.args.key.now c.args.entries.now.items ≡ Ok c.in-Ok.at = search rules in
    omega (arith, within c.args.key.now c.args.entries.now.items c.in-Ok.at found, c.args.entries.now.ok.0)

pub returns-in-Ok : goal.returns-in-Ok
returns-in-Ok c =
    let found : place_of c.args.key.now c.args.entries.now.items ≡ Ok c.in-Ok.at = search rules in
    ap (map entry_of) c.remove.ensures.items ∙ removed_at c.args.key.now c.args.entries.now.items c.in-Ok.at c.requires found

pub returns-in_default : goal.returns-in_default
returns-in_default c =
    let missing : place_of c.args.key.now c.args.entries.now.items ≡ Err c.in_default.field-0 = search rules in
    none_removed c.args.key.now c.args.entries.now.items c.in_default.field-0 c.requires missing
