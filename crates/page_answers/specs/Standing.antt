-- What a request finds and leaves, and when it begins.
use Rattle.std.specs.Prelude.{◌≡◌, ℕ, ◌+◌, List, Option, Some, None}
use Rattle.edges.specs.Clock.{Answers, Moments}
use Rattle.page_meaning.specs.Respond.{FoundSession}
use Rattle.pg_value.specs.Datum.{Datum}
use Rattle.site_words.specs.Calls.{Acts}
use Rattle.site_words.specs.History.{publishes}
use Rattle.site_words.specs.Sessions.{session_attrs}
use Rattle.site_words.specs.State.{after}
use Rattle.site_words.specs.Trees.{Needs}
use Rattle.site_words.specs.declared.words.Entry.{Entry}
use Rattle.site_words.specs.declared.words.Op.TheVariants as op
use Rattle.site_words.specs.declared.words.Opening.{Opening}
use Rattle.site_words.specs.declared.words.Reply.TheVariants as reply
use Rattle.source_tree.specs.declared.file.File.{File}

-- what the pass has seen of the history, what the clock tells of its moments, and the bytes read so far
pub record Standing : Type 0 where
  pub seen : List Entry
  pub moments : Moments
  pub steps : ℕ

-- these three as a standing
abbrev pub standing_of : List Entry → Moments → ℕ → Standing
standing_of seen moments steps = record { seen = seen; moments = moments; steps = steps }

-- the clock answered a moment, and what is said of that moment holds
pub record AtMoment (old new : Standing) (comes : ℕ → Type 0) : Type 0 where
  pub moment : ℕ
  pub told : Answers old.moments new.moments moment
  pub done : comes moment

-- the request has begun at a front of the history: its number, the version that is the latest there, and the session that it found
pub record Begins (needs : Needs) (x : Opening) (pass : ℕ) (cookie : List ℕ) (moment : ℕ) (old begun : List Entry) : Type 0 where
  pub request : ℕ
  pub version : ℕ
  pub session : Option ℕ
  pub acts : Acts needs x pass old begun (op.Begin cookie moment) (reply.Begun request version session)
  pub latest : version ≡ x.version + publishes acts.front

-- the tree of a request that has just begun
abbrev pub tree_at : Needs → Opening → List Entry → List File
tree_at needs x begun = (after needs x begun).tree

-- the session that a request found: the cookie is its id
abbrev pub found : (cookie : List ℕ) → Option ℕ → List (List ℕ × Datum) → Option FoundSession
found cookie None attrs = None
found cookie (Some number) attrs = Some (cookie, attrs)

-- the session of a request that has just begun
abbrev pub session_found : Needs → Opening → (cookie : List ℕ) → List Entry → Option ℕ → Option FoundSession
session_found needs x cookie begun session = found cookie session (session_attrs session (after needs x begun).sessions)
