-- The sessions of a site, whose attributes stand once: in the opening, or in the End entry that wrote them.
use Rattle.std.specs.Prelude.{◌<◌, ℕ, List, [], map, slice_get, Option, Some, None, ⊤}
use Rattle.pg_value.specs.Datum.{Datum}
use Rattle.site_words.specs.declared.words.Entry.{Entry}
use Rattle.site_words.specs.declared.words.KeptSession.{KeptSession}
use Rattle.site_words.specs.declared.words.Op.{Op}
use Rattle.site_words.specs.declared.words.Op.TheVariants as op
use Rattle.site_words.specs.Sessions.{attrs_of}
use Rattle.site_words.specs.Trees.{Each}
use Rattle.site_state.specs.declared.session.Session.{Session}
use Rattle.site_state.specs.declared.session.Source.{Source}
use Rattle.site_state.specs.declared.session.Source.TheVariants.{Nowhere, Opened, Ended}

-- the attributes that an operation writes
abbrev pub written_by : Op → List (List ℕ × Datum)
written_by (op.End request attrs) = attrs
written_by other = []

-- the attributes that an entry writes, none where there is no entry
abbrev pub written_in : Option Entry → List (List ℕ × Datum)
written_in None = []
written_in (Some e) = written_by e.op

-- the attributes that stand there, by the opening's sessions and the history
abbrev pub attrs_at : List KeptSession → List Entry → Source → List (List ℕ × Datum)
attrs_at opened history Nowhere = []
attrs_at opened history (Opened index) = attrs_of (slice_get opened index)
attrs_at opened history (Ended place) = written_in (slice_get history place)

-- a session with its attributes
abbrev pub session_of : List KeptSession → List Entry → Session → KeptSession
session_of opened history session = record { number = session.number; used = session.used; attrs = attrs_at opened history session.source }

-- sessions with their attributes
abbrev pub sessions_of : List KeptSession → List Entry → List Session → List KeptSession
sessions_of opened history sessions = map (session_of opened history) sessions

-- an entry that is named is one of the first n
abbrev pub IsThere : ℕ → Source → Type 0
IsThere n Nowhere = ⊤
IsThere n (Opened index) = ⊤
IsThere n (Ended place) = place < n

-- each session's attributes stand in the opening or in one of the first n entries
abbrev pub AreThere : ℕ → List Session → Type 0
AreThere n sessions = Each (λ (session : Session). IsThere n session.source) sessions
