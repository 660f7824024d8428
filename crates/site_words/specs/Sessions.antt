-- The sessions: a list of all, the free ones in the order of their last end.
use Rattle.std.specs.Prelude.{ℕ, ◌-◌, max, Bool, false, not, ◌==◌, nat_lt, nat_le, List, [], ◌∷◌, ◌++◌, map, filter, length, Option, Some, None, if◌then◌else◌}
use Rattle.pg_value.specs.Datum.{Datum}
use Rattle.site_words.specs.declared.limits.TheConstants.{MAX_SESSIONS}
use Rattle.site_words.specs.declared.words.KeptSession.{KeptSession}
use Rattle.site_words.specs.declared.words.Run.{Run}
use Rattle.site_words.specs.declared.words.Op.{Op}
use Rattle.site_words.specs.declared.words.Op.TheVariants as op
use Rattle.site_words.specs.declared.words.Reply.{Reply}
use Rattle.site_words.specs.declared.words.Reply.TheVariants as reply
use Rattle.site_words.specs.Ids.{is_id}
use Rattle.site_words.specs.Runs.{UnderWay, session_in}

-- how many sessions there are at most
abbrev pub most_sessions : ℕ
most_sessions = MAX_SESSIONS

-- the session whose id is the cookie
abbrev pub session_at : List ℕ → List ℕ → List KeptSession → Option KeptSession
session_at seed cookie [] = None
session_at seed cookie (kept ∷ sessions) = if is_id seed kept.number cookie then Some kept else session_at seed cookie sessions

-- the session with this number
abbrev pub numbered : ℕ → List KeptSession → Option KeptSession
numbered number [] = None
numbered number (kept ∷ sessions) = if kept.number == number then Some kept else numbered number sessions

-- the number of the session, where there is one
abbrev pub number_of : Option KeptSession → Option ℕ
number_of None = None
number_of (Some kept) = Some kept.number

-- the attributes of the session, none where there is none
abbrev pub attrs_of : Option KeptSession → List (List ℕ × Datum)
attrs_of None = []
attrs_of (Some kept) = kept.attrs

-- the attributes of the session that a reply names
abbrev pub session_attrs : Option ℕ → List KeptSession → List (List ℕ × Datum)
session_attrs None sessions = []
session_attrs (Some number) sessions = attrs_of (numbered number sessions)

-- the session has this number
abbrev pub is_session : ℕ → Option ℕ → Bool
is_session number None = false
is_session number (Some other) = other == number

-- the number of the request that holds the session
abbrev pub holder_of : ℕ → List (Option UnderWay) → Option ℕ
holder_of number [] = None
holder_of number (None ∷ runs) = holder_of number runs
holder_of number (Some under ∷ runs) = if is_session number under.run.session then Some under.run.request else holder_of number runs

-- the number of the request that holds the session, where one does
abbrev pub holder : Option KeptSession → List (Option UnderWay) → Option ℕ
holder None runs = None
holder (Some kept) runs = holder_of kept.number runs

-- the session wasn't used for more than the idle time
abbrev pub is_idle : ℕ → ℕ → KeptSession → Bool
is_idle idle moment kept = nat_lt idle (moment - kept.used)

-- the free session that a request gets at this moment: none where it has ended
abbrev pub awake : ℕ → ℕ → Option KeptSession → Option KeptSession
awake idle moment None = None
awake idle moment (Some kept) = if is_idle idle moment kept then None else Some kept

-- the moment after an operation: that of a Begin, unless it is earlier
abbrev pub moment_after : ℕ → Op → ℕ
moment_after moment (op.Begin cookie now) = max moment now
moment_after moment other = moment

-- the sessions without the one of this number
abbrev pub without : ℕ → List KeptSession → List KeptSession
without number sessions = filter (λ (kept : KeptSession). not (kept.number == number)) sessions

-- the sessions, of which the one of this number is used at this moment, and stays where it is
abbrev pub used_at : ℕ → ℕ → List KeptSession → List KeptSession
used_at number moment sessions = map (λ (kept : KeptSession). if kept.number == number then record { number = kept.number; used = moment; attrs = kept.attrs } else kept) sessions

-- the sessions, of which the one of this number comes to the end
abbrev pub freed : ℕ → ℕ → List (List ℕ × Datum) → List KeptSession → List KeptSession
freed number moment attrs sessions = without number sessions ++ record { number = number; used = moment; attrs = attrs } ∷ []

-- the sessions without the one of this number, where there is a number
abbrev pub unless_none : Option ℕ → List KeptSession → List KeptSession
unless_none None sessions = sessions
unless_none (Some number) sessions = without number sessions

-- a request has begun: its session is used now; the one of the cookie that it did not get has ended
abbrev pub begun_sessions : List ℕ → ℕ → List ℕ → List KeptSession → Reply → List KeptSession
begun_sessions seed moment cookie sessions (reply.Begun request version (Some number)) = used_at number moment sessions
begun_sessions seed moment cookie sessions (reply.Begun request version None) = unless_none (number_of (session_at seed cookie sessions)) sessions
begun_sessions seed moment cookie sessions other = sessions

-- this number, where no request holds the session, or else a later one
abbrev pub unheld : Option ℕ → ℕ → Option ℕ → Option ℕ
unheld None number later = Some number
unheld (Some request) number later = later

-- the first free session
abbrev pub first_free : List (Option UnderWay) → List KeptSession → Option ℕ
first_free runs [] = None
first_free runs (kept ∷ sessions) = unheld (holder_of kept.number runs) kept.number (first_free runs sessions)

-- the sessions, of which the first free one is dropped where there are as many as there may be
abbrev pub with_room : List (Option UnderWay) → List KeptSession → List KeptSession
with_room runs sessions = if nat_le most_sessions (length sessions) then unless_none (first_free runs sessions) sessions else sessions

-- a session was made: it is held and empty, and used now
abbrev pub fresh_sessions : List (Option UnderWay) → ℕ → List KeptSession → Reply → List KeptSession
fresh_sessions runs moment sessions (reply.Made number) = with_room runs sessions ++ record { number = number; used = moment; attrs = [] } ∷ []
fresh_sessions runs moment sessions other = sessions

-- a request with this session has ended: the session is free, with these attributes
abbrev pub ended_sessions : Option ℕ → ℕ → List (List ℕ × Datum) → List KeptSession → List KeptSession
ended_sessions None moment attrs sessions = sessions
ended_sessions (Some number) moment attrs sessions = freed number moment attrs sessions

-- a request with this session was abandoned: the session is free, as it was
abbrev pub dropped_sessions : Option ℕ → ℕ → List KeptSession → List KeptSession
dropped_sessions None moment sessions = sessions
dropped_sessions (Some number) moment sessions = freed number moment (attrs_of (numbered number sessions)) sessions

-- the sessions after an operation at this moment, of a pass that has this request under way
abbrev pub sessions_after : List ℕ → ℕ → List (Option UnderWay) → Option Run → List KeptSession → Op → Reply → List KeptSession
sessions_after seed moment runs run sessions (op.Begin cookie now) r = begun_sessions seed moment cookie sessions r
sessions_after seed moment runs run sessions (op.Fresh request) r = fresh_sessions runs moment sessions r
sessions_after seed moment runs run sessions (op.End request attrs) r = ended_sessions (session_in run) moment attrs sessions
sessions_after seed moment runs run sessions (op.Abandon request) r = dropped_sessions (session_in run) moment sessions
sessions_after seed moment runs run sessions other r = sessions
