-- Sites that agree on names agree on each part of them.
use Rattle.std.proofs.Common.{ℕ, List, [], ◌∷◌, ◌++◌}
use Rattle.unit_source.specs.Files.{Files}
use Rattle.unit_source.specs.Laws.{Agree}

pub agree_left : (f g : Files) (a b : List (List ℕ)) → Agree f g (a ++ b) → Agree f g a
agree_left f g [] b h = tt
agree_left f g (n ∷ a) b h = (h.0, agree_left f g a b h.1)

pub agree_right : (f g : Files) (a b : List (List ℕ)) → Agree f g (a ++ b) → Agree f g b
agree_right f g [] b h = h
agree_right f g (n ∷ a) b h = agree_right f g a b h.1
