-- The state of a site, and what an entry makes of it, part by part.
use Rattle.std.specs.Prelude.{ℕ, ◌+◌, List, [], set, replicate, Option, None}
use Rattle.std.specs.List.{fold}
use Rattle.pg_value.specs.Datum.{Datum}
use Rattle.source_tree.specs.declared.file.File.{File}
use Rattle.source_tree.specs.Edits.{after_edits}
use Rattle.site_words.specs.declared.words.KeptSession.{KeptSession}
use Rattle.site_words.specs.declared.words.Entry.{Entry}
use Rattle.site_words.specs.declared.words.Opening.{Opening}
use Rattle.site_words.specs.declared.words.Op.{Op}
use Rattle.site_words.specs.declared.words.Op.TheVariants as op
use Rattle.site_words.specs.App.{app_after}
use Rattle.site_words.specs.Ready.{ready_after}
use Rattle.site_words.specs.Runs.{UnderWay, under_at, run_in, under_after}
use Rattle.site_words.specs.Sessions.{sessions_after, moment_after}
use Rattle.site_words.specs.Trees.{Needs}
use Rattle.site_words.specs.Weights.{weight_after}

-- a site: the latest tree and its version, the application's attributes, all sessions, the request under way of each pass, the counts of Begins and of sessions made, the moment, the ready paths, and the weight of the history
pub record State : Type 0 where
  pub tree : List File
  pub version : ℕ
  pub app : List (List ℕ × Datum)
  pub sessions : List KeptSession
  pub runs : List (Option UnderWay)
  pub begins : ℕ
  pub freshes : ℕ
  pub moment : ℕ
  pub ready : List (List ℕ)
  pub weight : ℕ

-- the latest tree after an operation; what a publishing puts has the new version as its stamp
abbrev pub tree_after : List File → ℕ → Op → List File
tree_after latest version (op.Publish base edits) = after_edits edits (version + 1) latest
tree_after latest version other = latest

-- the version after an operation
abbrev pub version_after : ℕ → Op → ℕ
version_after version (op.Publish base edits) = version + 1
version_after version other = version

-- the count of Begins after an operation
abbrev pub begins_after : ℕ → Op → ℕ
begins_after n (op.Begin cookie moment) = n + 1
begins_after n other = n

-- the count of sessions made after an operation
abbrev pub freshes_after : ℕ → Op → ℕ
freshes_after n (op.Fresh request) = n + 1
freshes_after n other = n

-- what an entry makes of a state
abbrev pub moved : Needs → Opening → State → Entry → State
moved needs x s e = record {
  tree = tree_after s.tree s.version e.op;
  version = version_after s.version e.op;
  app = app_after s.app e.op;
  sessions = sessions_after x.seed (moment_after s.moment e.op) s.runs (run_in (under_at s.runs e.pass)) s.sessions e.op e.reply;
  runs = set s.runs e.pass (under_after s.tree (under_at s.runs e.pass) e.op e.reply);
  begins = begins_after s.begins e.op;
  freshes = freshes_after s.freshes e.op;
  moment = moment_after s.moment e.op;
  ready = ready_after needs s.tree s.ready e.op e.reply;
  weight = weight_after s.weight e.op e.reply;
}

-- the state of an opening: no request under way, no ready path, no weight
abbrev pub start_of : Opening → State
start_of x = record {
  tree = x.tree;
  version = x.version;
  app = x.app;
  sessions = x.sessions;
  runs = replicate x.passes None;
  begins = x.begins;
  freshes = x.freshes;
  moment = x.moment;
  ready = [];
  weight = 0;
}

-- the state that a history makes of an opening
abbrev pub after : Needs → Opening → List Entry → State
after needs x history = fold (moved needs x) (start_of x) history
