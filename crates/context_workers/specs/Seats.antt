-- The passes of several sites, of each of which one is taken at a time.
use Rattle.std.specs.Prelude.{◌≡◌, ◌<◌, ◌+◌, ℕ, List, [], ◌∷◌, ◌++◌, All, Some, length, set, slice_index_or}
use Rattle.std.specs.List.{slice_get}

-- each site has passes of its own, all of which fit it
pub record AreSeated {S X : Type 0} (Fits : S → X → Type 0) (sites : List S) (passes : List (List X)) : Type 0 where
  pub as_many : length sites ≡ length passes
  pub fit : (context : ℕ) (site : S) → slice_get sites context ≡ Some site → All (Fits site) (slice_index_or passes context [])

-- the last item of the list at this place was taken
pub record LastTaken {X : Type 0} (place : ℕ) (old new : List (List X)) (item : X) : Type 0 where
  pub less : List X
  pub was : slice_index_or old place [] ≡ less ++ item ∷ []
  pub now : new ≡ set old place less

-- so many items of each list were taken
pub record HaveFewer {X : Type 0} (taken : ℕ) (old new : List (List X)) : Type 0 where
  pub as_many : length new ≡ length old
  pub each : (place : ℕ) → place < length old → length (slice_index_or new place []) + taken ≡ length (slice_index_or old place [])
