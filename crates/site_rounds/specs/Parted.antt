-- The passes of a site, by whom their connections are for in a round.
use Rattle.std.specs.Prelude.{◌≡◌, ◌-◌, ℕ, List, drop, length, take}

-- the last passes are for previews, as many as are said; of the others the last is for editors, and those before it are for readers
pub record IsParted {X : Type 0} (shown : ℕ) (all readers editors previews : List X) : Type 0 where
  pub others : List X
  pub others_are : others ≡ take (length all - shown) all
  pub previews_are : previews ≡ drop (length all - shown) all
  pub readers_are : readers ≡ take (length others - 1) others
  pub editors_are : editors ≡ drop (length others - 1) others
