-- From where a response is counted.
use Rattle.std.specs.Prelude.{ℕ, List, Option}
use Rattle.site_words.specs.PageSteps.{Step}

-- what the sink had taken and how many faults it had counted when the response began, and the steps that were asked before the port's
pub record Origin : Type 0 where
  pub start : Option (List ℕ)
  pub before : ℕ
  pub asked : List Step
