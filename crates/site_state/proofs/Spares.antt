-- No more requests are under way than there are passes.
use Rattle.std.proofs.Common.{◌≤◌, List, [], ◌∷◌, length, map, Option, Some, None, arith}
use Rattle.site_state.specs.declared.request.Request.{Request}
use Rattle.site_state.specs.Parts.{under_in}
use Rattle.site_state.specs.Spare.{open_runs}

pub few_open : (runs : List (Option Request)) → open_runs (map under_in runs) ≤ length runs
few_open [] = omega arith
few_open (None ∷ runs) = let few = few_open runs in omega (arith, few)
few_open (Some request ∷ runs) = let few = few_open runs in omega (arith, few)
