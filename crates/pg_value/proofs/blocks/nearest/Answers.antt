use Rattle.pg_value.proofs.BlockPlaces.{at_default}
use Rattle.pg_value.proofs.blocks.nearest.Goals as goal

pub returns-clause-block : goal.returns-clause-block
returns-clause-block c = at_default c.args.blocks.now c.place-at.result c.index-blocks-at.result c.place-at.ensures.within c.index-blocks-at.is
