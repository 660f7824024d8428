-- The head of what is answered, where memory ran out.
use Rattle.std.proofs.Common.{◌≡◌, ℕ, List, [], ◌∷◌}
use Rattle.http_out.specs.declared.head.Head.{Head}
use Rattle.page_answers.specs.Dropped.{HeadsSo}
use Rattle.page_meaning.specs.Response.{Answered}

-- where nothing was committed no head was sent
pub no_head : (head : Head) (pieces : List (List ℕ)) (answered : Answered) → pieces ≡ [] → HeadsSo head pieces answered
no_head head [] answered none = tt
no_head head (piece ∷ pieces) answered none = absurd (cc)
