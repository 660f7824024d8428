-- What the code does to the list of sessions, said of where their attributes stand.
use Rattle.std.specs.Prelude.{ℕ, ◌-◌, Bool, not, ◌==◌, nat_lt, nat_le, List, [], ◌∷◌, ◌++◌, map, filter, length, Option, Some, None, if◌then◌else◌}
use Rattle.std.specs.List.{list_any}
use Rattle.site_words.specs.Ids.{is_id}
use Rattle.site_words.specs.Runs.{UnderWay}
use Rattle.site_words.specs.Sessions.{holder_of, most_sessions, unheld}
use Rattle.site_state.specs.declared.session.Session.{Session}
use Rattle.site_state.specs.declared.session.Source.{Source}
use Rattle.site_state.specs.declared.session.Source.TheVariants.{Nowhere}

-- the session whose id is the cookie
abbrev pub found_at : List ℕ → List ℕ → List Session → Option Session
found_at seed cookie [] = None
found_at seed cookie (session ∷ sessions) = if is_id seed session.number cookie then Some session else found_at seed cookie sessions

-- the session with this number
abbrev pub named : ℕ → List Session → Option Session
named number [] = None
named number (session ∷ sessions) = if session.number == number then Some session else named number sessions

-- a session has this number
abbrev pub has_named : ℕ → List Session → Bool
has_named number sessions = list_any (λ (session : Session). session.number == number) sessions

-- without the one of this number
abbrev pub others : ℕ → List Session → List Session
others number sessions = filter (λ (session : Session). not (session.number == number)) sessions

-- the one of this number is used at this moment
abbrev pub touch : ℕ → ℕ → Session → Session
touch number moment session = if session.number == number then record { number = session.number; used = moment; source = session.source } else session

-- the one of this number is used at this moment, and stays where it is
abbrev pub touched : ℕ → ℕ → List Session → List Session
touched number moment sessions = map (touch number moment) sessions

-- the number of the first free session
abbrev pub first_unheld : List (Option UnderWay) → List Session → Option ℕ
first_unheld runs [] = None
first_unheld runs (session ∷ sessions) = unheld (holder_of session.number runs) session.number (first_unheld runs sessions)

-- without the one of this number, where there is a number
abbrev pub others_if : Option ℕ → List Session → List Session
others_if None sessions = sessions
others_if (Some number) sessions = others number sessions

-- where there are as many as there may be, the first free one is dropped
abbrev pub roomy : List (Option UnderWay) → List Session → List Session
roomy runs sessions = if nat_le most_sessions (length sessions) then others_if (first_unheld runs sessions) sessions else sessions

-- the number of the session, where there is one
abbrev pub number_in : Option Session → Option ℕ
number_in None = None
number_in (Some session) = Some session.number

-- the number of the request that holds the session
abbrev pub held_by : Option Session → List (Option UnderWay) → Option ℕ
held_by None runs = None
held_by (Some session) runs = holder_of session.number runs

-- the session, unless it has ended at this moment
abbrev pub still_awake : ℕ → ℕ → Option Session → Option Session
still_awake idle moment None = None
still_awake idle moment (Some session) = if nat_lt idle (moment - session.used) then None else Some session

-- a request has begun with this session: it is used now; the one that was found and that it did not get has ended
abbrev pub begun_list : ℕ → Option Session → Option Session → List Session → List Session
begun_list moment found (Some session) sessions = touched session.number moment sessions
begun_list moment found None sessions = others_if (number_in found) sessions

-- the session is freed, where there is one: it comes to the end of the list
abbrev pub freed_list : Option ℕ → ℕ → Source → List Session → List Session
freed_list None moment source sessions = sessions
freed_list (Some number) moment source sessions = others number sessions ++ record { number = number; used = moment; source = source } ∷ []

-- where the attributes of the session stand
abbrev pub source_in : Option Session → Source
source_in None = Nowhere
source_in (Some session) = session.source

-- the session is freed as it was
abbrev pub dropped_list : Option ℕ → ℕ → List Session → List Session
dropped_list None moment sessions = sessions
dropped_list (Some number) moment sessions = freed_list (Some number) moment (source_in (named number sessions)) sessions

-- the session of a picture: a session that is held is there whatever the moment
abbrev pub shown_one : Option ℕ → ℕ → ℕ → Option Session → Option Session
shown_one (Some request) idle moment session = session
shown_one None idle moment session = still_awake idle moment session
