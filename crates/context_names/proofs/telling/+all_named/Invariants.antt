use Rattle.std.proofs.Common.{length}
use Rattle.context_names.proofs.telling.+all_named.Given as goal

abbrev pub decreases-all_named : goal.decreases-all_named
decreases-all_named l = length l.list.now
