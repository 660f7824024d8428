use Rattle.std.proofs.Common.{◌-◌}
use Rattle.request_pages.proofs.chain.+run_chain.Given as goal

abbrev pub decreases-run_chain : goal.decreases-run_chain
decreases-run_chain g l = 100 - l.state.now.around.depth
