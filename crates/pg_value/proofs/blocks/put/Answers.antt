use Rattle.std.proofs.Common.{ap, arith, length, ◌∙◌}
use Rattle.pg_value.specs.Attrs.{with_entry}
use Rattle.pg_value.specs.ReadEntries.{joined}
use Rattle.pg_value.specs.Value.{datum_of}
use Rattle.pg_value.proofs.BlockPlaces.{block_as, blocks_with, place_as, with_in, with_in_filled}
use Rattle.pg_value.proofs.blocks.put.Goals as goal

-- the block of the key is the one that was changed
pub returns-clause-ok : goal.returns-clause-ok
returns-clause-ok c =
    let place = place_as c.as_str-2.result.now c.args.key c.deref-2.result.now c.make_room.new.blocks.items c.in-Some.at c.as_str-2.ensures c.deref-2.ensures.value c.in-Some.ensures.place in
    let block = block_as c.deref-2.result.now c.make_room.new.blocks.items c.in-Some.at c.in-Some.block.now c.deref-2.ensures.value c.in-Some.ensures.block in
    with_in c.args.key c.make_room.new.blocks.items c.in-Some.at c.in-Some.block.now c.make_room.ensures.kept place block (datum_of c.args.value) c.in_ok-changed.changed c.in_ok-changed.ensures
    ∙ ap (λ es. with_entry es c.args.key (datum_of c.args.value)) c.make_room.ensures.same

pub returns-clause-kept : goal.returns-clause-kept
returns-clause-kept c =
    let place = place_as c.as_str-2.result.now c.args.key c.deref-2.result.now c.make_room.new.blocks.items c.in-Some.at c.as_str-2.ensures c.deref-2.ensures.value c.in-Some.ensures.place in
    let block = block_as c.deref-2.result.now c.make_room.new.blocks.items c.in-Some.at c.in-Some.block.now c.deref-2.ensures.value c.in-Some.ensures.block in
    let filled = with_in_filled c.args.key c.make_room.new.blocks.items c.in-Some.at c.in-Some.block.now c.make_room.ensures.kept place block (datum_of c.args.value) c.in_ok-changed.changed c.in_ok-changed.ensures in
    blocks_with c.args.blocks.now.items _ c.args.key (datum_of c.args.value) c.requires (returns-clause-ok c) filled (omega (arith, c.count.ensures, ap (λ bs. length (joined bs)) c.deref.ensures.value))
