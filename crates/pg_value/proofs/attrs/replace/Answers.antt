use Rattle.std.proofs.Common.{map, set, ap, ◌∙◌, arith}
use Rattle.pg_value.specs.Value.{entry_of}
use Rattle.pg_value.proofs.Places.{replaces}
use Rattle.pg_value.proofs.attrs.replace.Goals as goal

pub index_mut-requires : goal.index_mut-requires
index_mut-requires c =
    omega (arith, (replaces c.args.key.now c.args.value c.args.entries.now.items c.args.at c.requires).within, c.args.entries.now.ok.0)

pub returns : goal.returns
returns c =
    ap (λ e. map entry_of (set c.args.entries.now.items c.args.at (e.0, c.args.value))) c.index_mut.ensures.value
    ∙ (replaces c.args.key.now c.args.value c.args.entries.now.items c.args.at c.requires).made c.index_mut.result.now
