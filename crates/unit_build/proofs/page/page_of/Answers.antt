use Rattle.std.proofs.Common.{refl, rules}
use Rattle.unit_build.specs.ReadFound.{state_in}
use Rattle.unit_build.proofs.OkLemmas.{if_ok}
use Rattle.unit_build.proofs.page.page_of.Goals as goal

pub returns : goal.returns
returns c = if_ok c.page_with.result c.page_with.ensures (λ page is before. is (state_in before c.args.found) refl (search rules))
