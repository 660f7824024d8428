use Rattle.std.proofs.Common.{map, set, ap, ◌∙◌, arith}
use Rattle.pg_value.specs.Value.{entry_of}
use Rattle.pg_value.proofs.Placed.{seen_at, seen_length}
use Rattle.pg_value.proofs.attrs.set_at.Goals as goal

pub index_mut-requires : goal.index_mut-requires
index_mut-requires c = omega (arith, c.requires, seen_length c.args.entries.now.items, c.args.entries.now.ok.0)

pub returns : goal.returns
returns c =
    ap (λ e. map entry_of (set c.args.entries.now.items c.args.at (e.0, c.args.value))) c.index_mut.ensures.value
    ∙ seen_at c.args.entries.now.items c.args.at c.index_mut.result.now c.args.value
