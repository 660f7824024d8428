-- How the sessions are kept: under their numbers, those that came to the end of the list last first.
use Rattle.std.specs.Prelude.{◌≡◌, ℕ, ◌-◌, ◌^◌, ◌<◌, nat_eq, List, [], ◌∷◌, ◌++◌, All}
use Rattle.std.specs.List.{IsDistinct}
use Rattle.std.specs.Map.{keys_of}
use Rattle.lru.specs.LruCache.{LruCache}
use Rattle.site_state.specs.declared.session.LastUse.{LastUse}
use Rattle.site_state.specs.declared.session.Session.{Session}

-- the session of a number with this last use
abbrev pub session_with : ℕ → LastUse → Session
session_with number last = record { number = number; used = last.moment; source = last.source }

-- the session that is kept by an entry
abbrev pub session_in : ℕ × LastUse → Session
session_in entry = session_with entry.0 entry.1

-- the sessions in the order of the list, which is that of the entries from the last on
abbrev pub sessions_in : List (ℕ × LastUse) → List Session
sessions_in [] = []
sessions_in (entry ∷ entries) = sessions_in entries ++ session_in entry ∷ []

-- no two have one number, the numbers are those of the program, and none is ever pushed out
pub record AreListed (cache : LruCache ℕ LastUse) : Type 0 where
  pub apart : IsDistinct nat_eq (keys_of cache.entries)
  pub numbers : All (λ number. number < 2 ^ 64) (keys_of cache.entries)
  pub unbounded : cache.cap ≡ 2 ^ 64 - 1
