-- What a site holds beside its opening and its history, and the state that it is.
use Rattle.std.specs.Prelude.{ℕ, List, map, Option, Some, None}
use Rattle.std.specs.Arc.{arc_value}
use Rattle.pg_value.specs.Datum.{Datum}
use Rattle.source_tree.specs.declared.file.File.{File}
use Rattle.program_store.specs.Store.{kept_in, kept_path}
use Rattle.site_words.specs.declared.compiled.Compiled.{Ghosts}
use Rattle.site_words.specs.declared.words.Entry.{Entry}
use Rattle.site_words.specs.declared.words.Opening.{Opening}
use Rattle.site_words.specs.Runs.{UnderWay}
use Rattle.site_words.specs.State.{State}
use Rattle.site_state.specs.declared.held.Held.{Held}
use Rattle.site_state.specs.declared.request.Request.{Request}
use Rattle.site_state.specs.declared.session.Session.{Session}
use Rattle.site_state.specs.Sources.{sessions_of}

-- what is held: the parts of a state, with the sessions by where their attributes stand, and the values of the ready paths
pub record Parts (P : Type 0) : Type 0 where
  pub tree : List File
  pub version : ℕ
  pub app : List (List ℕ × Datum)
  pub sessions : List Session
  pub runs : List (Option UnderWay)
  pub begins : ℕ
  pub freshes : ℕ
  pub moment : ℕ
  pub weight : ℕ
  pub kept : List (List ℕ × P)

-- a request under way, where there is one
abbrev pub under_in : Option Request → Option UnderWay
under_in None = None
under_in (Some request) = Some (record { run = request.run; tree = arc_value request.tree })

-- what is held
abbrev pub parts_of : {P : Type 0} {ghosts : Ghosts P} → Held P ghosts → Parts P
parts_of held = record {
  tree = arc_value held.tree;
  version = held.version;
  app = held.app;
  sessions = held.sessions;
  runs = map under_in held.runs.items;
  begins = held.begins;
  freshes = held.freshes;
  moment = held.moment;
  weight = held.weight;
  kept = kept_in held.store.shelves.items;
}

-- the state that is held, by the opening and the history
abbrev pub state_of : {P : Type 0} → Opening → List Entry → Parts P → State
state_of x history parts = record {
  tree = parts.tree;
  version = parts.version;
  app = parts.app;
  sessions = sessions_of x.sessions history parts.sessions;
  runs = parts.runs;
  begins = parts.begins;
  freshes = parts.freshes;
  moment = parts.moment;
  ready = map kept_path parts.kept;
  weight = parts.weight;
}
