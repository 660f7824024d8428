-- The sessions that entries keep, as a list, and what an edit of the entries is to that list.
use Rattle.std.proofs.Common.{◌≡◌, ℕ, ◌-◌, ◌<◌, ◌≤◌, ◌^◌, append_assoc, le-leb, Bool, true, false, not, cond, nat_eq, List, [], ◌∷◌, ◌++◌, append-nil, eq-eqb, eqb-true, length, length-append, take, take_all, option_map, is_some, IfSome, Option, Some, None, refl, sym, ap, subst, ◌∙◌, if◌then◌else◌, All, arith}
use Rattle.std.specs.Prelude.{◌==◌, ◌||◌}
use Rattle.std.specs.Cmp.{nat_eq_equiv}
use Rattle.std.specs.List.{AllByRecursion, IsDistinct}
use Rattle.std.specs.Map.{keys_of, lookup, lookup_entry, remove_entry, set_value}
use Rattle.std.specs.Option.{option_map_or}
use Rattle.std.proofs.lemmas.Bool.{lt-leb}
use Rattle.std.proofs.lemmas.List.{map-append}
use Rattle.std.proofs.lemmas.List.Elements.{All-cons, All-push, All-tail, filter-append}
use Rattle.std.proofs.lemmas.List.Folds.{list_any-append}
use Rattle.std.proofs.lemmas.Map.{NonePasses, keys-set_value, lookup-remove_entry, none_passes_from_lookup}
use Rattle.std.proofs.lemmas.Map.Entries.{none_past_head}
use Rattle.std.proofs.lemmas.Map.Keys.{IsDistinct-cons, IsDistinct-head, IsDistinct-tail}
use Rattle.std.proofs.lemmas.Map.Views.{All-map-remove_entry}
use Rattle.lru.specs.LruCache.{LruCache, lru_cache, put_entries}
use Rattle.lru.proofs.CallerLemmas.{Contains-lookup_entry}
use Rattle.lru.proofs.Pairs.{lookup-lookup_entry}
use Rattle.pg_value.specs.Datum.{Datum}
use Rattle.site_words.specs.declared.words.Entry.{Entry}
use Rattle.site_words.specs.declared.words.KeptSession.{KeptSession}
use Rattle.site_words.specs.Runs.{UnderWay}
use Rattle.site_words.specs.Sessions.{holder_of, most_sessions, unheld}
use Rattle.site_state.specs.declared.session.LastUse.{LastUse}
use Rattle.site_state.specs.declared.session.Session.{Session}
use Rattle.site_state.specs.LastUses.{AreListed, session_in, session_with, sessions_in}
use Rattle.site_state.specs.ReadSessions.{first_unheld, has_named, named, others, others_if, roomy, touch, touched}
use Rattle.site_state.specs.Sources.{attrs_at, sessions_of}

abbrev Entries : Type 0
Entries = List (ℕ × LastUse)

flip : (n m : ℕ) (b : Bool) → nat_eq n m ≡ b → (m == n) ≡ b
flip n m b is = nat_eq_equiv.symm m n ∙ is

-- the session with a number

named_among : (n : ℕ) (ss : List Session) (s : Session) → (s.number == n) ≡ false → named n (ss ++ s ∷ []) ≡ named n ss
named_among n [] s other = rw other refl
named_among n (t ∷ ss) s other = ap (λ (found : Option Session). if t.number == n then Some t else found) (named_among n ss s other)

named_last : (n : ℕ) (ss : List Session) (s : Session) → named n ss ≡ None → (s.number == n) ≡ true → named n (ss ++ s ∷ []) ≡ Some s
named_last n [] s none here = rw here refl
named_last n (t ∷ ss) s none here = go (t.number == n) none (λ more. named_last n ss s more here)
  where
    go : (b : Bool) → (if b then Some t else named n ss) ≡ None → (named n ss ≡ None → named n (ss ++ s ∷ []) ≡ Some s) → (if b then Some t else named n (ss ++ s ∷ [])) ≡ Some s
    go true none more = absurd (cc)
    go false none more = more none

none_named : (n : ℕ) (es : Entries) → NonePasses (nat_eq n) es → named n (sessions_in es) ≡ None
none_named n [] none = refl
none_named n (e ∷ es) none = named_among n (sessions_in es) (session_in e) (flip n e.0 false none.0) ∙ none_named n es none.1

-- it is what is kept under the number
pub found : (n : ℕ) (es : Entries) → IsDistinct nat_eq (keys_of es) → option_map (session_with n) (lookup (nat_eq n) es) ≡ named n (sessions_in es)
found n [] apart = refl
found n (e ∷ es) apart = go (nat_eq n e.0) refl (found n es (IsDistinct-tail nat_eq e.0 (keys_of es) apart))
  where
    go : (b : Bool) → nat_eq n e.0 ≡ b → option_map (session_with n) (lookup (nat_eq n) es) ≡ named n (sessions_in es)
        → option_map (session_with n) (cond b (Some e.1) (lookup (nat_eq n) es)) ≡ named n (sessions_in es ++ session_in e ∷ [])
    go true is more =
        ap (λ m. Some (session_with m e.1)) (eqb-true n e.0 is)
        ∙ sym (named_last n (sessions_in es) (session_in e) (none_named n es (none_past_head nat_eq_equiv n e es apart is)) (flip n e.0 true is))
    go false is more = more ∙ sym (named_among n (sessions_in es) (session_in e) (flip n e.0 false is))

-- it is there where something is kept under it
is_there : (n : ℕ) (es : Entries) → has_named n (sessions_in es) ≡ is_some (lookup (nat_eq n) es)
is_there n [] = refl
is_there n (e ∷ es) = list_any-append (λ (session : Session). session.number == n) (sessions_in es) (session_in e ∷ []) ∙ go (nat_eq n e.0) refl (is_there n es)
  where
    with_true : (a : Bool) → (a || (true || false)) ≡ true
    with_true true = refl
    with_true false = refl

    with_false : (a : Bool) → (a || (false || false)) ≡ a
    with_false true = refl
    with_false false = refl

    go : (b : Bool) → nat_eq n e.0 ≡ b → has_named n (sessions_in es) ≡ is_some (lookup (nat_eq n) es)
        → (has_named n (sessions_in es) || ((e.0 == n) || false)) ≡ is_some (cond b (Some e.1) (lookup (nat_eq n) es))
    go true is more = rw (flip n e.0 true is) (with_true (has_named n (sessions_in es)))
    go false is more = rw (flip n e.0 false is) (with_false (has_named n (sessions_in es)) ∙ more)

pub there : (n : ℕ) (es : Entries) → has_named n (sessions_in es) ≡ true → is_some (lookup (nat_eq n) es) ≡ true
there n es has = sym (is_there n es) ∙ has

-- the others

none_others : (n : ℕ) (es : Entries) → NonePasses (nat_eq n) es → others n (sessions_in es) ≡ sessions_in es
none_others n [] none = refl
none_others n (e ∷ es) none =
    filter-append (λ (session : Session). not (session.number == n)) (sessions_in es) (session_in e ∷ [])
    ∙ rw (flip n e.0 false none.0) (ap (λ l. l ++ session_in e ∷ []) (none_others n es none.1))

pub removed : (n : ℕ) (es : Entries) → IsDistinct nat_eq (keys_of es) → sessions_in (remove_entry (nat_eq n) es) ≡ others n (sessions_in es)
removed n [] apart = refl
removed n (e ∷ es) apart = go (nat_eq n e.0) refl (removed n es (IsDistinct-tail nat_eq e.0 (keys_of es) apart)) ∙ sym (filter-append (λ (session : Session). not (session.number == n)) (sessions_in es) (session_in e ∷ []))
  where
    go : (b : Bool) → nat_eq n e.0 ≡ b → sessions_in (remove_entry (nat_eq n) es) ≡ others n (sessions_in es)
        → sessions_in (cond b es (e ∷ remove_entry (nat_eq n) es)) ≡ others n (sessions_in es) ++ others n (session_in e ∷ [])
    go true is more = rw (flip n e.0 true is) (sym (append-nil (others n (sessions_in es)) ∙ none_others n es (none_past_head nat_eq_equiv n e es apart is)))
    go false is more = rw (flip n e.0 false is) (ap (λ l. l ++ session_in e ∷ []) more)

-- the one that is used

none_touched : (n moment : ℕ) (es : Entries) → NonePasses (nat_eq n) es → touched n moment (sessions_in es) ≡ sessions_in es
none_touched n moment [] none = refl
none_touched n moment (e ∷ es) none =
    map-append (touch n moment) (sessions_in es) (session_in e ∷ []) ∙ rw (flip n e.0 false none.0) (ap (λ l. l ++ session_in e ∷ []) (none_touched n moment es none.1))

pub touched_none : (n moment : ℕ) (es : Entries) → lookup (nat_eq n) es ≡ None → sessions_in es ≡ touched n moment (sessions_in es)
touched_none n moment es none = sym (none_touched n moment es (none_passes_from_lookup (nat_eq n) es none))

pub touched_at : (n moment : ℕ) (es : Entries) (last : LastUse) → IsDistinct nat_eq (keys_of es) → lookup (nat_eq n) es ≡ Some last
    → sessions_in (set_value (nat_eq n) es (record { moment = moment; source = last.source })) ≡ touched n moment (sessions_in es)
touched_at n moment [] last apart has = absurd (cc)
touched_at n moment (e ∷ es) last apart has =
    go (nat_eq n e.0) refl has (λ more. touched_at n moment es last (IsDistinct-tail nat_eq e.0 (keys_of es) apart) more)
    ∙ sym (map-append (touch n moment) (sessions_in es) (session_in e ∷ []))
  where
    go : (b : Bool) → nat_eq n e.0 ≡ b → cond b (Some e.1) (lookup (nat_eq n) es) ≡ Some last
        → (lookup (nat_eq n) es ≡ Some last → sessions_in (set_value (nat_eq n) es (record { moment = moment; source = last.source })) ≡ touched n moment (sessions_in es))
        → sessions_in (cond b ((e.0, record { moment = moment; source = last.source }) ∷ es) (e ∷ set_value (nat_eq n) es (record { moment = moment; source = last.source })))
        ≡ touched n moment (sessions_in es) ++ touched n moment (session_in e ∷ [])
    go true is has more =
        let same : last ≡ e.1 = cc in
        rw (flip n e.0 true is)
        (ap (λ (from : LastUse). sessions_in es ++ record { number = e.0; used = moment; source = from.source } ∷ []) same
        ∙ ap (λ l. l ++ record { number = e.0; used = moment; source = e.1.source } ∷ []) (sym (none_touched n moment es (none_past_head nat_eq_equiv n e es apart is))))
    go false is has more = rw (flip n e.0 false is) (ap (λ l. l ++ session_in e ∷ []) (more has))

-- the one that comes to the end

no_entry : (n : ℕ) (es : Entries) → lookup_entry (nat_eq n) es ≡ None → lookup (nat_eq n) es ≡ None
no_entry n es none = sym (lookup-lookup_entry (nat_eq n) es) ∙ ap (option_map (λ e. e.1)) none

-- it takes the place of the one with its number
put_again : (n : ℕ) (c : LruCache ℕ LastUse) (last : LastUse) → is_some (lookup (nat_eq n) c.entries) ≡ true → put_entries nat_eq c n last ≡ (n, last) ∷ remove_entry (nat_eq n) c.entries
put_again n c last has = go (lookup_entry (nat_eq n) c.entries) refl
  where
    go : (o : Option (ℕ × LastUse)) → lookup_entry (nat_eq n) c.entries ≡ o
        → option_map_or (λ e. (e.0, last) ∷ remove_entry (nat_eq n) c.entries) o ((n, last) ∷ take (c.cap - 1) c.entries) ≡ (n, last) ∷ remove_entry (nat_eq n) c.entries
    go None lost = let none = sym has ∙ ap is_some (no_entry n c.entries lost) in absurd (cc)
    go (Some e) some = ap (λ m. (m, last) ∷ remove_entry (nat_eq n) c.entries) (sym (eqb-true n e.0 (Contains-lookup_entry (nat_eq n) c.entries e some).1))

-- or it is new
put_new : (n : ℕ) (c : LruCache ℕ LastUse) (last : LastUse) → lookup (nat_eq n) c.entries ≡ None → length c.entries < c.cap → put_entries nat_eq c n last ≡ (n, last) ∷ c.entries
put_new n c last none short = go (lookup_entry (nat_eq n) c.entries) refl
  where
    go : (o : Option (ℕ × LastUse)) → lookup_entry (nat_eq n) c.entries ≡ o
        → option_map_or (λ e. (e.0, last) ∷ remove_entry (nat_eq n) c.entries) o ((n, last) ∷ take (c.cap - 1) c.entries) ≡ (n, last) ∷ c.entries
    go None lost = ap (λ l. (n, last) ∷ l) (take_all (c.cap - 1) c.entries (omega arith))
    go (Some e) some = let has : Some e.1 ≡ None = ap (option_map (λ e. e.1)) (sym some) ∙ (lookup-lookup_entry (nat_eq n) c.entries ∙ none) in absurd (cc)

none_at : (o : Option LastUse) → is_some o ≡ false → o ≡ None
none_at None none = refl
none_at (Some last) none = absurd (cc)

absent_at : (n : ℕ) (es : Entries) → has_named n (sessions_in es) ≡ false → lookup (nat_eq n) es ≡ None
absent_at n es none = none_at (lookup (nat_eq n) es) (sym (is_there n es) ∙ none)

pub sessions_again : (n : ℕ) (c : LruCache ℕ LastUse) (last : LastUse) → AreListed c → has_named n (sessions_in c.entries) ≡ true
    → sessions_in (put_entries nat_eq c n last) ≡ others n (sessions_in c.entries) ++ session_with n last ∷ []
sessions_again n c last listed has = ap sessions_in (put_again n c last (sym (is_there n c.entries) ∙ has)) ∙ ap (λ l. l ++ session_with n last ∷ []) (removed n c.entries listed.apart)

pub sessions_new : (n : ℕ) (c : LruCache ℕ LastUse) (last : LastUse) → AreListed c → has_named n (sessions_in c.entries) ≡ false → length c.entries < 2 ^ 63
    → sessions_in (put_entries nat_eq c n last) ≡ sessions_in c.entries ++ session_with n last ∷ []
sessions_new n c last listed none short = let unbounded = listed.unbounded in ap sessions_in (put_new n c last (absent_at n c.entries none) (omega arith))

-- that the entries stay listed

keys_other : (n : ℕ) (es : Entries) → NonePasses (nat_eq n) es → AllByRecursion (λ m. nat_eq n m ≡ false) (keys_of es)
keys_other n [] none = tt
keys_other n (e ∷ es) none = (none.0, keys_other n es none.1)

-- an entry before the others
listed_with : (n : ℕ) (last : LastUse) (es : Entries) (cap : ℕ) → AreListed (lru_cache es cap) → lookup (nat_eq n) es ≡ None → n < 2 ^ 64 → AreListed (lru_cache ((n, last) ∷ es) cap)
listed_with n last es cap listed none small = record {
  apart = IsDistinct-cons nat_eq n (keys_of es) (keys_other n es (none_passes_from_lookup (nat_eq n) es none)) listed.apart;
  numbers = All-cons (λ m. m < 2 ^ 64) n (keys_of es) small listed.numbers;
  unbounded = listed.unbounded;
}

others_other : (k n : ℕ) (es : Entries) → AllByRecursion (λ m. nat_eq k m ≡ false) (keys_of es) → AllByRecursion (λ m. nat_eq k m ≡ false) (keys_of (remove_entry (nat_eq n) es))
others_other k n [] all = tt
others_other k n (e ∷ es) all = go (nat_eq n e.0) (others_other k n es all.1)
  where
    go : (b : Bool) → AllByRecursion (λ m. nat_eq k m ≡ false) (keys_of (remove_entry (nat_eq n) es)) → AllByRecursion (λ m. nat_eq k m ≡ false) (keys_of (cond b es (e ∷ remove_entry (nat_eq n) es)))
    go true more = all.1
    go false more = (all.0, more)

others_apart : (n : ℕ) (es : Entries) → IsDistinct nat_eq (keys_of es) → IsDistinct nat_eq (keys_of (remove_entry (nat_eq n) es))
others_apart n [] apart = apart
others_apart n (e ∷ es) apart = go (nat_eq n e.0) (others_apart n es (IsDistinct-tail nat_eq e.0 (keys_of es) apart))
  where
    go : (b : Bool) → IsDistinct nat_eq (keys_of (remove_entry (nat_eq n) es)) → IsDistinct nat_eq (keys_of (cond b es (e ∷ remove_entry (nat_eq n) es)))
    go true more = IsDistinct-tail nat_eq e.0 (keys_of es) apart
    go false more = IsDistinct-cons nat_eq e.0 (keys_of (remove_entry (nat_eq n) es)) (others_other e.0 n es (IsDistinct-head nat_eq e.0 (keys_of es) apart)) more

-- without one
pub listed_without : (n : ℕ) (c : LruCache ℕ LastUse) → AreListed c → AreListed (lru_cache (remove_entry (nat_eq n) c.entries) c.cap)
listed_without n c listed = record {
  apart = others_apart n c.entries listed.apart;
  numbers = All-map-remove_entry (nat_eq n) (λ e. e.0) (λ m. m < 2 ^ 64) c.entries listed.numbers;
  unbounded = listed.unbounded;
}

-- that one is then gone
gone : (n : ℕ) (es : Entries) → IsDistinct nat_eq (keys_of es) → lookup (nat_eq n) (remove_entry (nat_eq n) es) ≡ None
gone n es apart = lookup-remove_entry nat_eq_equiv (nat_eq n) (λ x y same. nat_eq_equiv.congr n x y same) n es apart ∙ rw (eq-eqb n n refl) refl

-- with the one that comes to the end

pub listed_again : (n : ℕ) (c : LruCache ℕ LastUse) (last : LastUse) → AreListed c → has_named n (sessions_in c.entries) ≡ true → n < 2 ^ 64 → AreListed (lru_cache (put_entries nat_eq c n last) c.cap)
listed_again n c last listed has small =
    subst (λ es. AreListed (lru_cache es c.cap)) (sym (put_again n c last (sym (is_there n c.entries) ∙ has)))
    (listed_with n last (remove_entry (nat_eq n) c.entries) c.cap (listed_without n c listed) (gone n c.entries listed.apart) small)

pub listed_new : (n : ℕ) (c : LruCache ℕ LastUse) (last : LastUse) → AreListed c → has_named n (sessions_in c.entries) ≡ false → length c.entries < 2 ^ 63 → n < 2 ^ 64
    → AreListed (lru_cache (put_entries nat_eq c n last) c.cap)
listed_new n c last listed none short small =
    let unbounded = listed.unbounded in
    subst (λ es. AreListed (lru_cache es c.cap)) (sym (put_new n c last (absent_at n c.entries none) (omega arith))) (listed_with n last c.entries c.cap listed (absent_at n c.entries none) small)

-- a last use over another
pub listed_set : (n : ℕ) (c : LruCache ℕ LastUse) (last : LastUse) → AreListed c → AreListed (lru_cache (set_value (nat_eq n) c.entries last) c.cap)
listed_set n c last listed = record {
  apart = subst (IsDistinct nat_eq) (sym (keys-set_value (nat_eq n) c.entries last)) listed.apart;
  numbers = subst (All (λ m. m < 2 ^ 64)) (sym (keys-set_value (nat_eq n) c.entries last)) listed.numbers;
  unbounded = listed.unbounded;
}

-- from the end on

from_end : (es : Entries) (e : ℕ × LastUse) → sessions_in (es ++ e ∷ []) ≡ session_in e ∷ sessions_in es
from_end [] e = refl
from_end (first ∷ es) e = ap (λ l. l ++ session_in first ∷ []) (from_end es e)

length_is : (es : Entries) → length (sessions_in es) ≡ length es
length_is [] = refl
length_is (e ∷ es) = let more = length_is es in omega (arith, length-append (sessions_in es) (session_in e ∷ []))

-- the first of those that are left
first_left : (runs : List (Option UnderWay)) (s t : Entries) (e : ℕ × LastUse) → s ≡ t ++ e ∷ [] → first_unheld runs (sessions_in s) ≡ unheld (holder_of e.0 runs) e.0 (first_unheld runs (sessions_in t))
first_left runs s t e is = ap (λ l. first_unheld runs (sessions_in l)) is ∙ ap (first_unheld runs) (from_end t e)

pub first_free : (runs : List (Option UnderWay)) (s t : Entries) (e : ℕ × LastUse) → s ≡ t ++ e ∷ [] → is_some (holder_of e.0 runs) ≡ false → Some e.0 ≡ first_unheld runs (sessions_in s)
first_free runs s t e is free = go (holder_of e.0 runs) free ∙ sym (first_left runs s t e is)
  where
    go : (held : Option ℕ) → is_some held ≡ false → Some e.0 ≡ unheld held e.0 (first_unheld runs (sessions_in t))
    go None free = refl
    go (Some request) free = absurd (cc)

pub first_held : (runs : List (Option UnderWay)) (s t : Entries) (e : ℕ × LastUse) → s ≡ t ++ e ∷ [] → is_some (holder_of e.0 runs) ≡ true → first_unheld runs (sessions_in t) ≡ first_unheld runs (sessions_in s)
first_held runs s t e is held = go (holder_of e.0 runs) held ∙ sym (first_left runs s t e is)
  where
    go : (held : Option ℕ) → is_some held ≡ true → first_unheld runs (sessions_in t) ≡ unheld held e.0 (first_unheld runs (sessions_in t))
    go None free = absurd (cc)
    go (Some request) free = refl

-- one more with its attributes
pub kept_more : (opened : List KeptSession) (history : List Entry) (kept new : List KeptSession) (s t : Entries) (e : ℕ × LastUse) (attrs : List (List ℕ × Datum)) → s ≡ t ++ e ∷ []
    → new ≡ kept ++ record { number = e.0; used = e.1.moment; attrs = attrs } ∷ [] → attrs ≡ attrs_at opened history e.1.source
    → new ++ sessions_of opened history (sessions_in t) ≡ kept ++ sessions_of opened history (sessions_in s)
kept_more opened history kept new s t e attrs is more same =
    ap (λ l. l ++ sessions_of opened history (sessions_in t)) more
    ∙ (append_assoc kept (record { number = e.0; used = e.1.moment; attrs = attrs } ∷ []) (sessions_of opened history (sessions_in t))
    ∙ ap (λ l. kept ++ l)
    (ap (λ (a : List (List ℕ × Datum)). record { number = e.0; used = e.1.moment; attrs = a } ∷ sessions_of opened history (sessions_in t)) same
    ∙ sym (ap (λ l. sessions_of opened history (sessions_in l)) is ∙ ap (sessions_of opened history) (from_end t e))))

-- the numbers are those of the program
pub numbers_in : (es : Entries) → All (λ m. m < 2 ^ 64) (keys_of es) → All (λ (session : Session). session.number < 2 ^ 64) (sessions_in es)
numbers_in [] small = λ k d within. absurd (omega arith)
numbers_in (e ∷ es) small = All-push (λ (session : Session). session.number < 2 ^ 64) (sessions_in es) (session_in e) (numbers_in es (All-tail (λ m. m < 2 ^ 64) e.0 (keys_of es) small)) (small 0 e.0 (omega arith))

-- where there are as many as there may be

pub first_there : (runs : List (Option UnderWay)) (ss : List Session) → IfSome (first_unheld runs ss) (λ n. has_named n ss ≡ true)
first_there runs [] = tt
first_there runs (s ∷ ss) = go (holder_of s.number runs) (first_unheld runs ss) (first_there runs ss)
  where
    behind : (b a : Bool) → a ≡ true → (b || a) ≡ true
    behind true a is = refl
    behind false a is = is

    go : (held first : Option ℕ) → IfSome first (λ n. has_named n ss ≡ true) → IfSome (unheld held s.number first) (λ n. ((s.number == n) || has_named n ss) ≡ true)
    go None first more = rw (eq-eqb s.number s.number refl) refl
    go (Some request) None more = tt
    go (Some request) (Some n) more = behind (s.number == n) (has_named n ss) more

pub room_short : (runs : List (Option UnderWay)) (es : Entries) (n : ℕ) → n ≡ length es → n < most_sessions → sessions_in es ≡ roomy runs (sessions_in es)
room_short runs es n long few = let same = length_is es in rw (lt-leb most_sessions (length (sessions_in es)) (omega arith)) refl

pub room_full : (runs : List (Option UnderWay)) (es : Entries) (n : ℕ) → n ≡ length es → most_sessions ≤ n → others_if (first_unheld runs (sessions_in es)) (sessions_in es) ≡ roomy runs (sessions_in es)
room_full runs es n long many = let same = length_is es in rw (le-leb most_sessions (length (sessions_in es)) (omega arith)) refl

-- one that is there makes room for one that is not
pub room_before : (surplus : Option ℕ) (ss : List Session) (s : Session) → has_named s.number ss ≡ false → IfSome surplus (λ n. has_named n ss ≡ true) → others_if surplus (ss ++ s ∷ []) ≡ others_if surplus ss ++ s ∷ []
room_before None ss s absent there = refl
room_before (Some n) ss s absent there = filter-append (λ (session : Session). not (session.number == n)) ss (s ∷ []) ∙ go (s.number == n) refl
  where
    go : (b : Bool) → (s.number == n) ≡ b → others n ss ++ cond (not b) (s ∷ []) [] ≡ others n ss ++ s ∷ []
    go true is = let same = eqb-true s.number n is in let no = sym there ∙ ap (λ m. has_named m ss) (sym same) ∙ absent in absurd (cc)
    go false is = refl
