-- What a run has looked for where it ends by a forward.
use Rattle.std.specs.Prelude.{◌≡◌, ℕ, ⊤, List, [], ◌∷◌, ◌++◌}
use Rattle.http_in.specs.declared.params.Param.{Param}
use Rattle.page_meaning.specs.State.{State}
use Rattle.page_meaning.specs.Went.{Went, Did, Well, Raised, Ended, Awaits, Leaving, forwards, redirects}
use Rattle.page_table.specs.Program.{Program, Stored, absent, plain, bad, good, Serving}
use Rattle.page_table.specs.Runs.{PageRuns}
use Rattle.site_words.specs.PageSteps.{Step, fetch}

-- a page was the last that was looked for
pub record IsLast (path : List ℕ) (asked : List Step) : Type 0 where
  pub before : List Step
  pub last : asked ≡ before ++ fetch path ∷ []

-- what stands there was looked for last: a page, or another file, which asks no step
abbrev pub IsTarget : Stored → (path : List ℕ) → State → Type 0
IsTarget absent path s = ⊥
IsTarget (plain content) path s = ⊤
IsTarget (bad fault) path s = ⊥
IsTarget (good program) path s = IsLast path s.asked

-- so was the target of a forward; a redirect has none
abbrev pub LeavesSo : Serving → Leaving → State → Type 0
LeavesSo serving (forwards path params left) s = IsTarget (serving.stored path) path s
LeavesSo serving (redirects location) s = ⊤

-- so was the target of what ended by a forward
abbrev pub LooksLast : {A : Type 0} → Serving → Went A → Type 0
LooksLast serving (Well a s) = ⊤
LooksLast serving (Raised fault place s) = ⊤
LooksLast serving (Ended leaving s) = LeavesSo serving leaving s
LooksLast serving (Awaits step s) = ⊤

-- a page's run that ended by a forward has looked for its target last
abbrev pub RunsLookLast : Type 0
RunsLookLast = (serving : Serving) (program : Program) (params : List Param) (left : ℕ) (s : State) (d : Did) → PageRuns serving program params left s d → LooksLast serving d
