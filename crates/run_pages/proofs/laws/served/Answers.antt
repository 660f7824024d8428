use Rattle.run_pages.proofs.Serving.{pages_served, tells_itself}
use Rattle.run_pages.proofs.laws.served.Goals as goal

pub returns : goal.returns
returns c = λ tree request around. pages_served c.programs.ensures.fit tells_itself tree request around
