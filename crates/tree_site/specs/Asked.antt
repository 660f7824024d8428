-- What was asked of a site.
use Rattle.std.specs.Prelude.{ℕ, ◌+◌, ◌-◌, Bool, List, map}
use Rattle.std.specs.List.{sum_by}
use Rattle.tree_site.specs.Prepared.{answer_claim, answer_of}
use Rattle.tree_site.specs.declared.asked.Asked.{Asked}
use Rattle.tree_site.specs.declared.asked.Asked.TheVariants as asked
use Rattle.tree_site.specs.declared.prepared.Prepared.{Prepared}
use Rattle.site_words.specs.PageSteps as asks
use Rattle.site_words.specs.Running.{Asking}
use Rattle.site_words.specs.Weights.{promise, step_weight}

-- a step
abbrev pub step_of : Asked → asks.Step
step_of (asked.App step) = asks.app step
step_of asked.Fresh = asks.fresh
step_of (asked.Fetch path) = asks.fetch path

-- what a step takes of a request's promise, without its answer
abbrev pub step_claim : Asked → ℕ
step_claim (asked.App step) = 64 + step_weight step
step_claim asked.Fresh = 64
step_claim (asked.Fetch path) = 0

-- what was asked, what was answered, and what is left of the promise
abbrev pub asking_by : List Asked → (used : List Prepared) → (has_session : Bool) → Asking
asking_by steps used has_session = record {
  asked = map step_of steps;
  answers = map answer_of used;
  has_session = has_session;
  left = promise - (sum_by step_claim steps + sum_by answer_claim used);
}
