-- The picture that is taken of a site, and the site of its own on which a preview runs.
use Rattle.std.specs.Prelude.{ℕ, ◌+◌, List, [], ◌∷◌, replicate, Option, Some, None}
use Rattle.std.specs.Arc.{arc_value}
use Rattle.http_in.specs.declared.request.Request.{Request}
use Rattle.pg_value.specs.Datum.{Datum}
use Rattle.site_words.specs.Ids.{id_of}
use Rattle.site_words.specs.Sessions.{session_attrs}
use Rattle.site_words.specs.State.{State}
use Rattle.site_words.specs.declared.port.Snapped.{Snapped}
use Rattle.site_words.specs.declared.words.KeptSession.{KeptSession}
use Rattle.site_words.specs.declared.words.Opening.{Opening}
use Rattle.site_words.specs.declared.limits.TheConstants.{IDLE_SECONDS, JOURNAL_LIMIT}
use Rattle.source_tree.specs.Edits.{after_edits}
use Rattle.source_tree.specs.declared.edit.Edit.{Edit}
use Rattle.source_tree.specs.declared.file.File.{File}

-- a picture of a site: its version and tree, the application's attributes, and the session, where there is one, with its
-- attributes
pub record Picture : Type 0 where
  pub version : ℕ
  pub tree : List File
  pub app : List (List ℕ × Datum)
  pub session : Option ℕ
  pub attrs : List (List ℕ × Datum)

-- the picture of a site in this state, with the version and the session that are told
abbrev pub picture_of : State → (version : ℕ) → (session : Option ℕ) → Picture
picture_of s version session = record {
  version = version;
  tree = s.tree;
  app = s.app;
  session = session;
  attrs = session_attrs session s.sessions;
}

-- the picture that a port answers
abbrev pub picture_in : Snapped → Picture
picture_in snapped = record {
  version = snapped.version;
  tree = arc_value snapped.tree;
  app = snapped.app;
  session = snapped.session;
  attrs = snapped.attrs;
}

-- the tree of a picture with the edits of a draft, under the version behind the picture's
abbrev pub drafted_tree : List Edit → Picture → List File
drafted_tree edits picture = after_edits edits (picture.version + 1) picture.tree

-- the seed of the site: 32 bytes 255
abbrev pub own_seed : List ℕ
own_seed = replicate 32 255

-- its sessions: that of the picture, where there is one, with number 0
abbrev pub own_sessions : Option ℕ → List (List ℕ × Datum) → List KeptSession
own_sessions None attrs = []
own_sessions (Some number) attrs = record { number = 0; used = 0; attrs = attrs } ∷ []

-- how many sessions were made
abbrev pub own_freshes : Option ℕ → ℕ
own_freshes None = 0
own_freshes (Some number) = 1

-- its opening: this tree under the version behind the picture's, and the picture's application and session
abbrev pub own_opening : List File → Picture → Opening
own_opening tree picture = record {
  seed = own_seed;
  limit = JOURNAL_LIMIT;
  passes = 1;
  idle = IDLE_SECONDS;
  version = picture.version + 1;
  begins = 0;
  freshes = own_freshes picture.session;
  moment = 0;
  app = picture.app;
  tree = tree;
  sessions = own_sessions picture.session picture.attrs;
}

-- the id of its session, or no bytes
abbrev pub own_cookie : Option ℕ → List ℕ
own_cookie None = []
own_cookie (Some number) = id_of own_seed 0

-- the request as it comes to that site: it names that session, and its fields show what was sent
abbrev pub own_request : Option ℕ → Request → Request
own_request session request = record request { cookie = own_cookie session }
