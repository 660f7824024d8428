use Rattle.std.proofs.Common.{◌≡◌, IfOk, subst, sym}
use Rattle.pg_value.specs.ReadEntries.{joined}
use Rattle.pg_value.proofs.BlockLoops.{key_copied}
use Rattle.pg_value.proofs.blocks.key_at.Goals as goal

pub returns : goal.returns
returns c =
    key_copied c.copy.result _ (joined c.args.blocks.now) c.args.at c.index-from-0.result c.from.ensures.same (c.from.ensures.some c.requires) c.index-from-0.is c.requires
    (subst (λ e. IfOk c.copy.result (λ key. key ≡ e.0)) (sym c.index-from-0.is) c.copy.ensures)
