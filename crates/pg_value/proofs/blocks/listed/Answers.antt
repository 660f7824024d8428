use Rattle.std.proofs.Common.{ap, arith, append-nil, map, sym, ◌∙◌, ◌++◌}
use Rattle.std.proofs.lemmas.List.{drop_all}
use Rattle.pg_value.specs.ReadEntries.{joined}
use Rattle.pg_value.specs.Value.{entry_of}
use Rattle.pg_value.proofs.BlockLoops.{more_listed}
use Rattle.pg_value.proofs.blocks.listed.Goals as goal

pub loop-block-preserved : goal.loop-block-preserved
loop-block-preserved c =
    more_listed c.args.blocks.now c.loop-block.block-index c.block-item.result (joined c.args.blocks.now) c.loop-block.listed.items c.push_copies.new.onto.items c.as_slice.result.now (omega arith) c.block-item.is
    c.as_slice.ensures.entries c.in_ok-push_copies.ensures c.loop-block.invariant

pub returns : goal.returns
returns c =
    sym (append-nil (map entry_of c.loop-block.listed.items)) ∙ ap (λ bs. map entry_of c.loop-block.listed.items ++ joined bs) (sym (drop_all c.loop-block.block-index c.args.blocks.now (omega arith)))
    ∙ c.loop-block.invariant
