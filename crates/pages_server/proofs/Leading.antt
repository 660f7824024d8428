-- Steps, one after the other.
use Rattle.std.proofs.Common.{List, [], ◌∷◌, ◌++◌, refl, subst}
use Rattle.pages_server.specs.Worked.{Leads, LeadsThrough}

-- no step leads to what is there
pub stays : {T : Type 0} (step : T → T → Type 0) (token : T) → Leads step token token
stays step token = record { through = []; steps = refl }

through_more : {T : Type 0} (step : T → T → Type 0) (old : T) (mids : List T) (mid new : T) → LeadsThrough step old mids mid → step mid new → LeadsThrough step old (mids ++ new ∷ []) new
through_more step old [] mid new so more = (subst (λ t. step t new) so more, refl)
through_more step old (next ∷ mids) mid new so more = (so.0, through_more step next mids mid new so.1 more)

-- one step more
pub leads_on : {T : Type 0} (step : T → T → Type 0) (old mid new : T) → Leads step old mid → step mid new → Leads step old new
leads_on step old mid new so more = record { through = so.through ++ new ∷ []; steps = through_more step old so.through mid new so.steps more }
