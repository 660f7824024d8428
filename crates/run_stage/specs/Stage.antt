-- What a page run is lent, and the state of the meaning for which it stands.
use Rattle.std.specs.Prelude.{◌≡◌, ◌+◌, ◌≤◌, ℕ, List, ◌++◌, false, Option, is_some, ⊤}
use Rattle.out_buffer.specs.Held.{Stands}
use Rattle.run_world.specs.Origin.{Origin}
use Rattle.run_world.specs.Programs.{stored_of}
use Rattle.run_stage.specs.Keeping.{HasCharged, KeepsResponse, KeepsSession, session_weight}
use Rattle.run_world.specs.declared.program.Program.{Program}
use Rattle.run_stage.specs.declared.stage.Stage.{Stage}
use Rattle.run_stage.specs.declared.limits.TheConstants.{MAX_CHARGE, RUN_PROMISE, SESSION_RUN_PROMISE}
use Rattle.page_meaning.specs.declared.limits.TheConstants.{VISIT_LIMIT}
use Rattle.page_meaning.specs.Growth.{IsOrdered}
use Rattle.page_meaning.specs.State.{State}
use Rattle.run_world.specs.Program.{Stored, absent, plain, bad, good}
use Rattle.pg_text.specs.declared.place.PageFault.{PageFault}
use Rattle.scopes.specs.Limits.{max_session_weight}
use Rattle.scopes.specs.Scopes.{Entries}
use Rattle.site_words.specs.Running.{Asking, IsPaged, IsPageFile}
use Rattle.site_words.specs.declared.app_port.Paged.{Paged}
use Rattle.source_tree.specs.Edits.{file_at}
use Rattle.source_tree.specs.declared.file.File.{File}

-- both are lent the same
pub record IsSameStage {P K : Type 0} (first w : Stage P K) : Type 0 where
  pub scopes : w.scopes.ghost_name ≡ first.scopes.ghost_name
  pub writer : w.writer.ghost_name ≡ first.writer.ghost_name
  pub sink : w.sink.ghost_name ≡ first.sink.ghost_name
  pub around : w.around.ghost_name ≡ first.around.ghost_name
  pub port : w.port.ghost_name ≡ first.port.ghost_name

-- the second was reached from the first, and stands for this state
pub record Reached {P K : Type 0} (taken : K → Option (List ℕ)) (faults : K → ℕ) (leads_to : P → P → Type 0) (asking : P → Asking) (tree_of : P → List File)
    (first : Stage P K) (origin : Origin) (w : Stage P K) (s : State) : Type 0 where
  pub same : IsSameStage first w
  pub leads : leads_to first.port.now w.port.now
  pub tree : tree_of w.port.now ≡ tree_of first.port.now
  pub writer : Stands origin.start origin.before w.writer.now (taken w.sink.now) (faults w.sink.now) s.writer
  pub scopes : s.scopes ≡ w.scopes.now
  pub asked : s.asked ≡ origin.asked ++ (asking w.port.now).asked
  pub ordered : IsOrdered s
  pub depth : w.around.now.depth ≡ first.around.now.depth
  pub visits : s.visits ≡ w.around.now.visits
  pub charge : s.charge ≡ w.around.now.charge
  pub id : s.id ≡ w.around.now.id
  pub fresh : s.is_fresh ≡ w.around.now.fresh
  pub session : KeepsSession first.around.now w.around.now
  pub response : KeepsResponse first.writer.now w.writer.now first.around.now w.around.now
  pub charged : HasCharged first.around.now w.around.now (asking first.port.now) (asking w.port.now)

-- what stands there is a page, or the fault of one
abbrev pub IsPageStored : Stored → Type 0
IsPageStored absent = ⊥
IsPageStored (plain content) = ⊥
IsPageStored (bad fault) = ⊤
IsPageStored (good program) = ⊤

-- what the port may tell of a path is what stands there, and where a page's file stands there is the page or its fault
pub record StoresSo (made : Program → List File → List ℕ → Type 0) (faulty : PageFault → List File → List ℕ → Type 0) (tree : List File) (stored : (path : List ℕ) → Stored) : Type 0 where
  pub told : (path : List ℕ) (found : Paged Program) → IsPaged made faulty tree path found → stored path ≡ stored_of found
  pub pages : (path : List ℕ) → IsPageFile path (file_at path tree) → IsPageStored (stored path)

-- the session is one for the scopes, the request and the port; its attributes, the charge and what is left of the promise are within their limits. A session
-- that was made in this run took 64 more of the promise
pub record Covered (attributes : Option Entries) (id : Option (List ℕ)) (visited charged : ℕ) (asking : Asking) : Type 0 where
  pub session : is_some attributes ≡ is_some id
  pub asked : asking.has_session ≡ is_some id
  pub weight : session_weight attributes ≤ max_session_weight
  pub visits : visited ≤ VISIT_LIMIT
  pub charge : charged ≤ MAX_CHARGE
  pub promise : SESSION_RUN_PROMISE ≤ charged + asking.left
  pub before : is_some id ≡ false → RUN_PROMISE ≤ charged + asking.left
