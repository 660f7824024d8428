-- What a sink has taken of a response while it is made.
use Rattle.std.specs.Prelude.{◌≡◌, ◌≤◌, ℕ, Bool, true, List, [], ◌∷◌, ◌++◌, flat_map, Option, if◌then◌else◌}
use Rattle.edges.specs.Faults.{Rose}
use Rattle.http_out.specs.Response.{chunk, opening}
use Rattle.http_out.specs.Sent.{Sent}
use Rattle.http_out.specs.declared.head.Head.{Head}

-- the head of a response in chunks, and a chunk for each of these pieces; where the body isn't shown, as for HEAD, the head alone
abbrev pub opened : Head → Bool → List (List ℕ) → List ℕ
opened head shown pieces = opening head ++ (if shown then flat_map chunk pieces else [])

-- the bytes of a response so far: none before the first piece is committed, then the head and the chunks
abbrev pub so_far : Head → Bool → List (List ℕ) → List ℕ
so_far head shown [] = []
so_far head shown (piece ∷ pieces) = opened head shown (piece ∷ pieces)

-- a text went to a sink that had taken this and counted so many faults before: it took all of it, or, where it failed, a part
pub record HasTaken (start : Option (List ℕ)) (before : ℕ) (text : List ℕ) (failed : Bool) (taken : Option (List ℕ)) (faults : ℕ) : Type 0 where
  pub sent : Sent start taken text failed
  pub later : before ≤ faults
  pub cause : failed ≡ true → Rose before faults
