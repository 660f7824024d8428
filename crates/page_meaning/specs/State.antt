-- What a request keeps while its pages run.
use Rattle.std.specs.Prelude.{ℕ, Bool, List, [], ◌∷◌, ◌++◌, length, Option}
use Rattle.scopes.specs.Scopes.{ScopeState}
use Rattle.site_words.specs.Law.{Answer}
use Rattle.site_words.specs.PageSteps.{Step}
use Rattle.out_buffer.specs.Writer.{Writer}

-- the variables, the writer, the visits and the charge so far, the id of the session and whether this request made it, the answers
-- that are still to be used, the steps that were asked, and for each of these how many pieces stood committed then
pub record State : Type 0 where
  pub scopes : ScopeState
  pub writer : Writer
  pub visits : ℕ
  pub charge : ℕ
  pub id : Option (List ℕ)
  pub is_fresh : Bool
  pub answers : List Answer
  pub asked : List Step
  pub order : List ℕ

-- with these variables
abbrev pub in_scopes : ScopeState → State → State
in_scopes scopes s = record s { scopes = scopes }

-- with this writer
abbrev pub in_writer : Writer → State → State
in_writer writer s = record s { writer = writer }

-- with one step asked more, behind the pieces that are committed
abbrev pub with_asked : Step → State → State
with_asked step s = record s { asked = s.asked ++ step ∷ []; order = s.order ++ length s.writer.pieces ∷ [] }
