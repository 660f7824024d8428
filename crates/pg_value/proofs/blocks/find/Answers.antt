use Rattle.std.proofs.Common.{◌∙◌}
use Rattle.pg_value.proofs.BlockPlaces.{found_in}
use Rattle.pg_value.proofs.blocks.find.Goals as goal

pub returns : goal.returns
returns c = c.get.ensures ∙ found_in c.args.key.now c.args.blocks.now _ _ c.requires c.in_ok-_at.ensures.place c.in_ok-_at.ensures.block
