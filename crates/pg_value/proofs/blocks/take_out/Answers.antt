use Rattle.std.proofs.Common.{rules, arith, ap, refl, sym, subst, ◌∙◌}
use Rattle.pg_value.specs.ReadEntries.{AreFilled, joined}
use Rattle.pg_value.proofs.BlockPlaces.{AreFilled-removed, AreFilled-set, block_as, blocks_without, left_out, none_left, place_as, without_in}
use Rattle.pg_value.proofs.blocks.take_out.Goals as goal

-- the block is left out
pub returns-then-len-eq0-clause-ok : goal.returns-then-len-eq0-clause-ok
returns-then-len-eq0-clause-ok c =
    let place = place_as c.args.key.now c.args.key.now c.deref.result.now c.args.blocks.now.items c.in-Some.at refl c.deref.ensures.value c.in-Some.ensures.place in
    let block = block_as c.deref.result.now c.args.blocks.now.items c.in-Some.at c.in-Some.block.now c.deref.ensures.value c.in-Some.ensures.block in
    ap joined c.remove.ensures.items
    ∙ left_out c.args.key.now c.args.blocks.now.items c.in-Some.at c.in-Some.block.now c.requires place block c.in_ok-rest.rest c.in_ok-rest.ensures (omega (arith, c.len.ensures, c.if-len-eq0.true))

pub returns-then-len-eq0-clause-kept : goal.returns-then-len-eq0-clause-kept
returns-then-len-eq0-clause-kept c =
    blocks_without c.args.blocks.now.items c.remove.new.self.items c.args.key.now c.requires (returns-then-len-eq0-clause-ok c) (subst AreFilled (sym c.remove.ensures.items) (AreFilled-removed c.args.blocks.now.items c.in-Some.at c.requires.filled))

-- or changed
pub returns-else-len-eq0-clause-ok : goal.returns-else-len-eq0-clause-ok
returns-else-len-eq0-clause-ok c =
    let place = place_as c.args.key.now c.args.key.now c.deref.result.now c.args.blocks.now.items c.in-Some.at refl c.deref.ensures.value c.in-Some.ensures.place in
    let block = block_as c.deref.result.now c.args.blocks.now.items c.in-Some.at c.in-Some.block.now c.deref.ensures.value c.in-Some.ensures.block in
    without_in c.args.key.now c.args.blocks.now.items c.in-Some.at c.in-Some.block.now c.requires place block c.in_ok-rest.rest c.in_ok-rest.ensures

pub returns-else-len-eq0-clause-kept : goal.returns-else-len-eq0-clause-kept
returns-else-len-eq0-clause-kept c =
    blocks_without c.args.blocks.now.items _ c.args.key.now c.requires (returns-else-len-eq0-clause-ok c)
    (AreFilled-set c.args.blocks.now.items c.in-Some.at c.in_ok-rest.rest c.requires.filled (omega (arith, c.len.ensures, c.if-len-eq0.false)))

-- there is none
pub returns-in_default-clause-ok : goal.returns-in_default-clause-ok
returns-in_default-clause-ok c = none_left c.args.blocks.now.items c.args.key.now (search rules)
