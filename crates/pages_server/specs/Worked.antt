-- What becomes of a worker's token.
use Rattle.std.specs.Prelude.{◌≡◌, List, [], ◌∷◌}

-- one step after the other leads from this token to that one, through these
abbrev pub LeadsThrough : {T : Type 0} → (T → T → Type 0) → T → List T → T → Type 0
LeadsThrough step old [] new = new ≡ old
LeadsThrough step old (mid ∷ mids) new = step old mid × LeadsThrough step mid mids new

-- some steps, or none, lead from this token to that one
pub record Leads {T : Type 0} (step : T → T → Type 0) (old new : T) : Type 0 where
  pub through : List T
  pub steps : LeadsThrough step old through new
