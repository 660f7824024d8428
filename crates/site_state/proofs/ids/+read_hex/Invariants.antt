use Rattle.std.proofs.Common.{length}
use Rattle.site_state.proofs.ids.+read_hex.Given as goal

abbrev pub decreases-read_hex : goal.decreases-read_hex
decreases-read_hex l = length l.digits.now
