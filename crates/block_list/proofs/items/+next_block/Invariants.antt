use Rattle.std.proofs.Common.{length}
use Rattle.block_list.proofs.items.+next_block.Given as goal

abbrev pub decreases-next_block : goal.decreases-next_block
decreases-next_block g l = length l.full.now
