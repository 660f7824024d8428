use Rattle.std.proofs.Common.{ap, refl, set, subst, sym, ◌∙◌}
use Rattle.pg_value.specs.ReadEntries.{AreFilled, joined}
use Rattle.pg_value.proofs.BlockPlaces.{block_as, blocks_as, halved, halved_filled, place_as}
use Rattle.pg_value.proofs.blocks.make_room.Goals as goal

pub returns-clause-same : goal.returns-clause-same
returns-clause-same c =
    let place = place_as c.args.key.now c.args.key.now c.deref.result.now c.args.blocks.now.items c.in-Some.at refl c.deref.ensures.value c.in-Some.ensures.place in
    let block = block_as c.deref.result.now c.args.blocks.now.items c.in-Some.at c.in-Some.block.now c.deref.ensures.value c.in-Some.ensures.block in
    ap (λ bs. joined (set bs c.in-Some.at c.in_ok-front.front)) c.in_ok-insert.ensures.items
    ∙ halved c.args.blocks.now.items c.in-Some.at c.in-Some.block.now c.in_ok-front.front c.in_ok-front.back place.within block c.in_ok-front.ensures.joined

pub returns-clause-kept : goal.returns-clause-kept
returns-clause-kept c =
    let filled = halved_filled c.args.blocks.now.items c.in-Some.at c.in_ok-front.front c.in_ok-front.back c.requires.filled c.in_ok-front.ensures.filled.0 c.in_ok-front.ensures.filled.1 in
    blocks_as c.args.blocks.now.items _ c.requires (returns-clause-same c) (subst (λ bs. AreFilled (set bs c.in-Some.at c.in_ok-front.front)) (sym c.in_ok-insert.ensures.items) filled)
