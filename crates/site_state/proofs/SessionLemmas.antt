-- The list of sessions: the one whose id a cookie is, and those that are not there.
use Rattle.std.proofs.Common.{◌≡◌, ℕ, ◌<◌, ◌^◌, Bool, true, false, List, [], ◌∷◌, Option, Some, None, refl, sym, if◌then◌else◌, arith}
use Rattle.std.specs.Prelude.{◌==◌}
use Rattle.std.specs.List.{All}
use Rattle.std.proofs.lemmas.Bool.{eq-eqb, eqb-true}
use Rattle.std.proofs.lemmas.List.Elements.{All-tail}
use Rattle.site_words.specs.Ids.{is_id}
use Rattle.site_state.specs.declared.session.Session.{Session}
use Rattle.site_state.specs.ReadSessions.{found_at, named}

-- the sessions' numbers are those of the program
abbrev AreNumbers : List Session → Type 0
AreNumbers sessions = All (λ (session : Session). session.number < 2 ^ 64) sessions

-- the session of a cookie has the number with which that begins
pub found_by : (seed cookie : List ℕ) (n : ℕ) (sessions : List Session) → AreNumbers sessions → ((m : ℕ) → m < 2 ^ 64 → is_id seed m cookie ≡ true → n ≡ m)
    → (if is_id seed n cookie then named n sessions else None) ≡ found_at seed cookie sessions
found_by seed cookie n [] small one = go (is_id seed n cookie)
  where
    nothing : Option Session
    nothing = None

    go : (b : Bool) → (if b then nothing else nothing) ≡ nothing
    go true = refl
    go false = refl
found_by seed cookie n (session ∷ sessions) small one =
    go (is_id seed session.number cookie) refl (session.number == n) refl (is_id seed n cookie) refl (found_by seed cookie n sessions (All-tail (λ (session : Session). session.number < 2 ^ 64) session sessions small) one)
  where
    go : (b : Bool) → is_id seed session.number cookie ≡ b → (s : Bool) → (session.number == n) ≡ s → (c : Bool) → is_id seed n cookie ≡ c
        → (if c then named n sessions else None) ≡ found_at seed cookie sessions
        → (if c then (if s then Some session else named n sessions) else None) ≡ (if b then Some session else found_at seed cookie sessions)
    go true is true same true here more = refl
    go true is true same false here more = let e = eqb-true session.number n same in absurd (cc)
    go true is false other c here more =
        let same = eq-eqb session.number n (sym (one session.number (small 0 session (omega arith)) is)) in
        absurd (cc)
    go false is true same true here more = let e = eqb-true session.number n same in absurd (cc)
    go false is true same false here more = more
    go false is false other true here more = more
    go false is false other false here more = more

-- what is found under a test

pub none_either : (b : Bool) (found : Option Session) → None ≡ found → None ≡ (if b then found else None)
none_either true found none = none
none_either false found none = refl

pub some_if : (b c : Bool) (some found : Option Session) → c ≡ b → c ≡ true → some ≡ found → some ≡ (if b then found else None)
some_if true c some found same passes is = is
some_if false c some found same passes is = absurd (cc)

pub none_if : (b c : Bool) (found : Option Session) → c ≡ b → c ≡ false → None ≡ (if b then found else None)
none_if true c found same fails = absurd (cc)
none_if false c found same fails = refl
