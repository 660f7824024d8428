-- A pass between its requests, and while one is under way.
use Rattle.std.specs.Prelude.{◌≡◌, ℕ, ◌<◌, ◌≤◌, List, Option, Some, None}
use Rattle.pass_course.specs.Course.{IsIdle}
use Rattle.site_words.specs.declared.port.Begun.{Begun}
use Rattle.site_words.specs.declared.words.Entry.{Entry}
use Rattle.site_words.specs.declared.words.Opening.{Opening}
use Rattle.site_words.specs.declared.words.Run.{Run}
use Rattle.site_words.specs.Law.{own, run_of}

-- by these entries of a pass a request of this number is under way, with this session, and so much at least is left of its promise
pub record Serves (entries : List (ℕ × Entry)) (request : ℕ) (session : Option ℕ) (left : ℕ) : Type 0 where
  pub run : Run
  pub found : run_of entries ≡ Some run
  pub numbered : run.request ≡ request
  pub holds : run.session ≡ session
  pub roomy : left ≤ run.left

-- the number is that of a pass, which has this request under way by what it has seen
abbrev pub IsServing : Opening → ℕ → List Entry → ℕ → Option ℕ → ℕ → Type 0
IsServing x pass seen request session left = (pass < x.passes) × Serves (own pass seen) request session left

-- the request that has begun is under way, and without one the pass is idle
abbrev pub HasBegun : Opening → ℕ → List Entry → Option Begun → Type 0
HasBegun x pass seen None = IsIdle x pass seen
HasBegun x pass seen (Some begun) = IsServing x pass seen begun.request begun.session 4325000
