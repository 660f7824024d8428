use Rattle.std.proofs.Common.{[], get_or, length, ◌<◌, ◌≡◌, subst, sym}
use Rattle.pg_value.specs.Datum.{null}
use Rattle.pg_value.specs.ReadEntries.{joined}
use Rattle.pg_value.specs.Value.{datum_of}
use Rattle.pg_value.proofs.BlockLoops.{placed}
use Rattle.pg_value.proofs.blocks.set_at.Goals as goal

pub key_at-requires : goal.key_at-requires
key_at-requires c = subst (λ bs. c.args.at < length (joined bs)) (sym c.deref.ensures.value) c.requires.within

pub returns-clause-ok : goal.returns-clause-ok
returns-clause-ok c =
    let key = subst (λ bs. c.in_ok-key.key ≡ (get_or (joined bs) c.args.at ([], null)).0) c.deref.ensures.value (c.in_ok-key.ensures ([], null)) in
    placed c.put.result (joined c.args.blocks.now.items) (joined c.put.new.blocks.items) c.args.at c.in_ok-key.key ([], null) (datum_of c.args.value) c.requires.kept.order c.requires.within key c.put.ensures.ok
