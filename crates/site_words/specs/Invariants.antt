-- What stands after every legal history.
use Rattle.std.specs.Prelude.{◌≡◌, ◌≢◌, ℕ, ◌+◌, ◌-◌, ◌<◌, ◌≤◌, Bool, true, not, ◌==◌, List, length, Option, Some, None, slice_get, ⊤}
use Rattle.std.specs.List.{list_any}
use Rattle.pg_value.specs.Datum.{Datum}
use Rattle.pg_value.specs.Limits.{is_over}
use Rattle.source_tree.specs.declared.file.File.{File}
use Rattle.source_tree.specs.Limits.{tree_fault}
use Rattle.site_words.specs.declared.words.Entry.{Entry}
use Rattle.site_words.specs.declared.words.KeptSession.{KeptSession}
use Rattle.site_words.specs.declared.words.Opening.{Opening}
use Rattle.site_words.specs.declared.words.Run.{Run}
use Rattle.site_words.specs.Law.{latest_of, own, run_of}
use Rattle.site_words.specs.Opening.{are_distinct}
use Rattle.site_words.specs.Runs.{UnderWay, promised, run_at, run_in, session_in}
use Rattle.site_words.specs.Sessions.{most_sessions}
use Rattle.site_words.specs.State.{State}
use Rattle.site_words.specs.Trees.{Each}
use Rattle.site_words.specs.Weights.{attrs_weight, attrs_limit, end_weight}

-- promises

-- an application value keeps the limits of a value
abbrev pub IsFit : (List ℕ × Datum) → Type 0
IsFit e = not (is_over e.1) ≡ true

-- enough is left of the promise for the request's end
abbrev pub HasEnd : Option Run → Type 0
HasEnd None = ⊤
HasEnd (Some run) = end_weight ≤ run.left

-- the journal has room for all that is promised, each request can end, and the application's values keep their limits
pub record IsWithin (x : Opening) (s : State) : Type 0 where
  pub total : s.weight + promised s.runs ≤ x.limit
  pub ends : Each (λ (under : Option UnderWay). HasEnd (run_in under)) s.runs
  pub app : Each IsFit s.app
  pub len : length s.runs ≡ x.passes

-- sessions

-- a session has this number
abbrev pub has_number : ℕ → List KeptSession → Bool
has_number n sessions = list_any (λ (other : KeptSession). other.number == n) sessions

-- a session was made before, was used by now at the latest, and is light enough
abbrev pub IsKept : ℕ → ℕ → KeptSession → Type 0
IsKept freshes moment kept = (kept.number < freshes) × (kept.used ≤ moment) × (attrs_weight kept.attrs ≤ attrs_limit)

-- the session that a request holds is there
abbrev pub HeldIn : List KeptSession → Option ℕ → Type 0
HeldIn sessions None = ⊤
HeldIn sessions (Some n) = has_number n sessions ≡ true

-- the sessions are distinct, as many as there may be, each as it should be, and each that is held among them
pub record IsGood (freshes moment : ℕ) (runs : List (Option UnderWay)) (sessions : List KeptSession) : Type 0 where
  pub distinct : are_distinct sessions ≡ true
  pub few : length sessions ≤ most_sessions
  pub each : Each (IsKept freshes moment) sessions
  pub held : Each (λ (under : Option UnderWay). HeldIn sessions (session_in (run_in under))) runs

-- the sessions of a state are good
pub record HasSessions (x : Opening) (s : State) : Type 0 where
  pub good : IsGood s.freshes s.moment s.runs s.sessions
  pub len : length s.runs ≡ x.passes

-- no two requests under way hold one session
abbrev pub AreApart : List (Option UnderWay) → Type 0
AreApart runs = (j k n : ℕ) → j ≢ k → session_in (run_at runs j) ≡ Some n → session_in (run_at runs k) ≢ Some n

-- no pass has a request under way
abbrev pub AllRest : Opening → List Entry → Type 0
AllRest x history = (k : ℕ) → k < x.passes → run_of (own k history) ≡ None

-- trees

-- no file has a later stamp
abbrev pub StampsUpTo : ℕ → List File → Type 0
StampsUpTo n files = Each (λ (file : File). file.stamp ≤ n) files

-- the latest tree keeps its limits, and its stamps are versions that there were
pub record HasSoundTree (s : State) : Type 0 where
  pub limits : tree_fault s.tree ≡ None
  pub stamps : StampsUpTo s.version s.tree

-- these are the published trees: the latest is the last, and their number says the version
pub record IsTreeOf (version : ℕ) (s : State) (trees : List (List File)) : Type 0 where
  pub latest : s.tree ≡ latest_of trees
  pub count : s.version + 1 ≡ version + length trees

-- the request's tree is that of its version
abbrev pub HasTree : ℕ → List (List File) → Option UnderWay → Type 0
HasTree version trees None = ⊤
HasTree version trees (Some under) = (version ≤ under.run.version) × (slice_get trees (under.run.version - version) ≡ Some under.tree)

-- these are the published trees, and each request has that of its version
pub record HasTrees (version : ℕ) (s : State) (trees : List (List File)) : Type 0 where
  pub latest : s.tree ≡ latest_of trees
  pub count : s.version + 1 ≡ version + length trees
  pub some : 0 < length trees
  pub bases : Each (HasTree version trees) s.runs
