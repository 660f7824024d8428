-- The requests under way.
use Rattle.std.specs.Prelude.{ℕ, ◌+◌, ◌-◌, List, [], ◌∷◌, Option, Some, None, slice_index_or}
use Rattle.source_tree.specs.declared.file.File.{File}
use Rattle.site_words.specs.declared.words.Run.{Run}
use Rattle.site_words.specs.declared.words.Op.{Op}
use Rattle.site_words.specs.declared.words.Op.TheVariants as op
use Rattle.site_words.specs.declared.words.Reply.{Reply}
use Rattle.site_words.specs.declared.words.Reply.TheVariants as reply
use Rattle.site_words.specs.Weights.{promise, op_weight, weight_with}

-- a request under way with its tree
pub record UnderWay : Type 0 where
  pub run : Run
  pub tree : List File

-- the request that a pass has under way
abbrev pub under_at : List (Option UnderWay) → ℕ → Option UnderWay
under_at runs pass = slice_index_or runs pass None

-- the request without its tree
abbrev pub run_in : Option UnderWay → Option Run
run_in None = None
run_in (Some under) = Some under.run

-- the request that a pass has under way, without its tree
abbrev pub run_at : List (Option UnderWay) → ℕ → Option Run
run_at runs pass = run_in (under_at runs pass)

-- the request's tree
abbrev pub tree_in : Option UnderWay → List File
tree_in None = []
tree_in (Some under) = under.tree

-- the session of a request, where it has one
abbrev pub session_in : Option Run → Option ℕ
session_in None = None
session_in (Some run) = run.session

-- what is left of all promises
abbrev pub promised : List (Option UnderWay) → ℕ
promised [] = 0
promised (None ∷ runs) = promised runs
promised (Some under ∷ runs) = under.run.left + promised runs

-- the request that a pass has under way, which that pass's own entries decide

-- the request, with so much less left of its promise
abbrev pub spent : ℕ → Option Run → Option Run
spent weight None = None
spent weight (Some run) = Some (record { request = run.request; version = run.version; session = run.session; left = run.left - weight })

-- the request that a Begin's reply tells
abbrev pub begun : ℕ → Option Run → Reply → Option Run
begun weight run (reply.Begun request version session) = Some (record { request = request; version = version; session = session; left = promise - weight })
begun weight run other = run

-- the request with the session that a Fresh's reply tells
abbrev pub freshened : Option Run → Reply → Option Run
freshened None r = None
freshened (Some run) (reply.Made session) = Some (record { request = run.request; version = run.version; session = Some session; left = run.left - 64 })
freshened (Some run) other = Some run

-- the request that a pass has under way after an operation of its own
abbrev pub run_after : Option Run → Op → Reply → Option Run
run_after run (op.Publish base edits) r = run
run_after run (op.Begin cookie moment) r = begun (op_weight (op.Begin cookie moment)) run r
run_after run (op.App request step) r = spent (weight_with (op.App request step) r) run
run_after run (op.Fresh request) r = freshened run r
run_after run (op.Fetch request path) r = spent (op_weight (op.Fetch request path)) run
run_after run (op.Offer request path) r = spent (op_weight (op.Offer request path)) run
run_after run (op.End request attrs) r = None
run_after run (op.Abandon request) r = None
run_after run (op.Snapshot cookie) r = run
run_after run op.Roll r = run

-- a request keeps the tree that was the latest at its Begin

-- the tree that a request has: the latest one at its Begin
abbrev pub base_after : List File → List File → Op → List File
base_after latest base (op.Begin cookie moment) = latest
base_after latest base other = base

-- a request with its tree, where there is one
abbrev pub seated : Option Run → List File → Option UnderWay
seated None tree = None
seated (Some run) tree = Some (record { run = run; tree = tree })

-- the request with its tree after an operation of its own pass
abbrev pub under_after : List File → Option UnderWay → Op → Reply → Option UnderWay
under_after latest under o r = seated (run_after (run_in under) o r) (base_after latest (tree_in under) o)
