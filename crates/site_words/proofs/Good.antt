-- Sessions stay distinct, few and within their bounds, and those that requests hold are there.
use Rattle.std.proofs.Common.{◌≡◌, ◌≢◌, ℕ, zero, suc, ◌+◌, ◌<◌, ◌≤◌, List, [], ◌∷◌, ◌++◌, length, Option, Some, None, refl, sym, ap, subst, ◌∙◌, arith, true, false, set, replicate}
use Rattle.std.specs.Prelude.{Bool, ◌==◌, ◌&&◌, ◌||◌, not, if◌then◌else◌, max, nat_le, nat_lt}
use Rattle.std.specs.List.{fold}
use Rattle.std.proofs.lemmas.Bool.Decides.{nat_tests}
use Rattle.std.proofs.lemmas.List.{length_push}
use Rattle.std.proofs.Math.ListN.{length-set, length-replicate}
use Rattle.pg_value.specs.Datum.{Datum}
use Rattle.edges.specs.declared.acted.Acted.TheVariants.{Did}
use Rattle.site_words.specs.declared.words.KeptSession.{KeptSession}
use Rattle.site_words.specs.declared.words.Run.{Run}
use Rattle.site_words.specs.declared.words.Entry.{Entry}
use Rattle.site_words.specs.declared.words.Opening.{Opening}
use Rattle.site_words.specs.declared.words.Op.{Op}
use Rattle.site_words.specs.declared.words.Op.TheVariants as op
use Rattle.site_words.specs.declared.words.Reply.{Reply}
use Rattle.site_words.specs.declared.words.Reply.TheVariants as reply
use Rattle.site_words.specs.declared.words.Refusal.{Refusal}
use Rattle.site_words.specs.Fits.{asks, finds, rests, has_run, has_session, is_empty}
use Rattle.site_words.specs.Law.{Follows, LegalFrom, Legal}
use Rattle.site_words.specs.Opening.{are_distinct, is_sound_session, sound_sessions}
use Rattle.site_words.specs.Runs.{UnderWay, under_at, run_in, run_at, session_in, tree_in, run_after, under_after, base_after, spent, freshened}
use Rattle.site_words.specs.Sessions.{session_at, numbered, number_of, attrs_of, holder, awake, is_idle, without, used_at, freed, first_free, unless_none, with_room, begun_sessions, ended_sessions, dropped_sessions, sessions_after, moment_after}
use Rattle.site_words.specs.State.{State, after, moved, start_of, freshes_after}
use Rattle.site_words.specs.Step.{step, refusal_of, reply_to, busy, or_else}
use Rattle.site_words.specs.Trees.{Needs, Each, every}
use Rattle.site_words.specs.Weights.{attrs_weight}
use Rattle.site_words.proofs.Items.{each_map, each_push, each_filter, each_set, each_at, every_each, and_left, and_right, le_of, lt_of}
use Rattle.site_words.proofs.Lasting.{seated_run}
use Rattle.site_words.proofs.Numbers.{has_used, distinct_used, length_used, each_used, gone, stays_other, distinct_without, length_without, one_less, has_push, distinct_push, found_number, numbered_all, unheld_all, first_unheld, first_there, some_free}
use Rattle.site_words.proofs.Trees.{did_reply}
use Rattle.site_words.specs.Invariants.{has_number, IsKept, HeldIn, IsGood, HasSessions}

held_as : (ss tt' : List KeptSession) (runs : List (Option UnderWay)) → ((k : ℕ) → has_number k ss ≡ true → has_number k tt' ≡ true) → Each (λ (u : Option UnderWay). HeldIn ss (session_in (run_in u))) runs → Each (λ (u : Option UnderWay). HeldIn tt' (session_in (run_in u))) runs
held_as ss tt' runs more all = each_map _ _ runs (λ u h. one (session_in (run_in u)) h) all
  where
    one : (o : Option ℕ) → HeldIn ss o → HeldIn tt' o
    one None h = tt
    one (Some k) h = more k h

held_without : (n : ℕ) (ss : List KeptSession) (runs : List (Option UnderWay)) → Each (λ u. session_in (run_in u) ≢ Some n) runs → Each (λ (u : Option UnderWay). HeldIn ss (session_in (run_in u))) runs → Each (λ (u : Option UnderWay). HeldIn (without n ss) (session_in (run_in u))) runs
held_without n ss [] none all = tt
held_without n ss (u ∷ runs) none all = (one (session_in (run_in u)) none.0 all.0, held_without n ss runs none.1 all.1)
  where
    one : (o : Option ℕ) → o ≢ Some n → HeldIn ss o → HeldIn (without n ss) o
    one None other h = tt
    one (Some k) other h = stays_other k n ss (λ e. other (ap Some e)) ∙ h

pub good_moment : (f m m' : ℕ) (runs : List (Option UnderWay)) (ss : List KeptSession) → m ≤ m' → IsGood f m runs ss → IsGood f m' runs ss
good_moment f m m' runs ss later good = record { distinct = good.distinct; few = good.few; each = each_map (IsKept f m) (IsKept f m') ss (λ k h. let a = h.1 in (h.0, (let b : k.used ≤ m' = omega arith in b), h.2)) good.each; held = good.held }

pub good_used : (f m n m' : ℕ) (runs : List (Option UnderWay)) (ss : List KeptSession) → m ≤ m' → IsGood f m runs ss → IsGood f m' runs (used_at n m' ss)
good_used f m n m' runs ss later good = record {
  distinct = distinct_used n m' ss good.distinct;
  few = (let a = length_used n m' ss in let b = good.few in omega arith);
  each = each_used (IsKept f m) (IsKept f m') n m' ss (λ k h. let a = h.1 in (h.0, (let b : k.used ≤ m' = omega arith in b), h.2)) (λ k h. (h.0, (let b : m' ≤ m' = omega arith in b), h.2)) good.each;
  held = held_as ss (used_at n m' ss) runs (λ k h. has_used k n m' ss ∙ h) good.held;
}

pub good_without : (f m n : ℕ) (runs : List (Option UnderWay)) (ss : List KeptSession) → Each (λ u. session_in (run_in u) ≢ Some n) runs → IsGood f m runs ss → IsGood f m runs (without n ss)
good_without f m n runs ss none good = record {
  distinct = distinct_without n ss good.distinct;
  few = (let a = length_without n ss in let b = good.few in omega arith);
  each = each_filter (IsKept f m) (λ (kept : KeptSession). not (kept.number == n)) ss good.each;
  held = held_without n ss runs none good.held;
}

number_below : (f m n : ℕ) (ss : List KeptSession) → Each (IsKept f m) ss → has_number n ss ≡ true → n < f
number_below f m n [] all h = absurd (cc)
number_below f m n (kept ∷ ss) all h = go (kept.number == n) refl h (λ h. number_below f m n ss all.1 h)
  where
    go : (b : Bool) → (kept.number == n) ≡ b → (b || has_number n ss) ≡ true → (has_number n ss ≡ true → n < f) → n < f
    go true is h rest = let same : kept.number ≡ n = grind (arith, nat_tests) in let below = all.0.0 in omega arith
    go false is h rest = rest h

pub not_there : (f m : ℕ) (ss : List KeptSession) → Each (IsKept f m) ss → has_number f ss ≡ false
not_there f m ss all = go (has_number f ss) refl
  where
    go : (b : Bool) → has_number f ss ≡ b → b ≡ false
    go true is = let below = number_below f m f ss all is in absurd (let bad : ⊥ = omega arith in bad)
    go false is = refl

or_second : (a b : Bool) → b ≡ true → (a || b) ≡ true
or_second true b h = refl
or_second false b h = h

or_first : (a b : Bool) → a ≡ true → (a || b) ≡ true
or_first true b h = refl
or_first false b h = absurd (cc)

pub good_freed : (f m n : ℕ) (attrs : List (List ℕ × Datum)) (runs : List (Option UnderWay)) (ss : List KeptSession) → has_number n ss ≡ true → attrs_weight attrs ≤ 65536 → IsGood f m runs ss → IsGood f m runs (freed n m attrs ss)
good_freed f m n attrs runs ss there small good =
    let kept : KeptSession = record { number = n; used = m; attrs = attrs } in
    record {
      distinct = distinct_push (without n ss) kept (distinct_without n ss good.distinct) (gone n ss);
      few = (let a = one_less n ss there in let b = good.few in let c = length_push (without n ss) kept in omega arith);
      each = each_push (IsKept f m) (without n ss) kept (each_filter (IsKept f m) (λ (kept : KeptSession). not (kept.number == n)) ss good.each) (number_below f m n ss good.each there, (let b : m ≤ m = omega arith in b), small);
      held = held_as ss (freed n m attrs ss) runs (λ k h. has_push k (without n ss) kept ∙ one k h (n == k) refl) good.held;
    }
  where
    one : (k : ℕ) → has_number k ss ≡ true → (b : Bool) → (n == k) ≡ b → (has_number k (without n ss) || b) ≡ true
    one k h true is = or_second (has_number k (without n ss)) true refl
    one k h false is = let other : k ≢ n = grind (arith, nat_tests) in or_first (has_number k (without n ss)) false (stays_other k n ss other ∙ h)

pub good_fresh : (f m : ℕ) (runs : List (Option UnderWay)) (ss : List KeptSession) → length ss ≤ 4095 → IsGood f m runs ss → IsGood (f + 1) m runs (ss ++ record { number = f; used = m; attrs = [] } ∷ [])
good_fresh f m runs ss room good =
    let kept : KeptSession = record { number = f; used = m; attrs = [] } in
    record {
      distinct = distinct_push ss kept good.distinct (not_there f m ss good.each);
      few = (let c = length_push ss kept in omega arith);
      each = each_push (IsKept (f + 1) m) ss kept (each_map (IsKept f m) (IsKept (f + 1) m) ss (λ k h. let a = h.0 in ((let b : k.number < f + 1 = omega arith in b), h.1, h.2)) good.each)
          ((let b : f < f + 1 = omega arith in b), (let b : m ≤ m = omega arith in b), (let b : 16 ≤ 65536 = omega arith in b));
      held = held_as ss (ss ++ kept ∷ []) runs (λ k h. has_push k ss kept ∙ or_first (has_number k ss) (f == k) h) good.held;
    }

pub good_room : (f m : ℕ) (runs : List (Option UnderWay)) (ss : List KeptSession) → length runs ≤ 64 → IsGood f m runs ss → IsGood f m runs (with_room runs ss) × (length (with_room runs ss) ≤ 4095)
good_room f m runs ss passes good = go (nat_le 4096 (length ss)) refl
  where
    dropped : (o : Option ℕ) → first_free runs ss ≡ o → 4096 ≤ length ss → IsGood f m runs (unless_none o ss) × (length (unless_none o ss) ≤ 4095)
    dropped None is many = absurd (some_free runs ss good.distinct (let b : length runs < length ss = omega arith in b) is)
    dropped (Some n) is many =
        let less = one_less n ss (first_there runs ss n is) in
        let few = good.few in
        (good_without f m n runs ss (first_unheld runs ss n is) good, omega arith)

    go : (b : Bool) → nat_le 4096 (length ss) ≡ b → IsGood f m runs (if b then unless_none (first_free runs ss) ss else ss) × (length (if b then unless_none (first_free runs ss) ss else ss) ≤ 4095)
    go true is = dropped (first_free runs ss) refl (le_of 4096 (length ss) is)
    go false is = (good, (let less : length ss ≤ 4095 = grind (arith, nat_tests) in less))

pub good_set : (f m k : ℕ) (u : Option UnderWay) (runs : List (Option UnderWay)) (ss : List KeptSession) → HeldIn ss (session_in (run_in u)) → IsGood f m runs ss → IsGood f m (set runs k u) ss
good_set f m k u runs ss here good = record { distinct = good.distinct; few = good.few; each = good.each; held = each_set (λ (u : Option UnderWay). HeldIn ss (session_in (run_in u))) runs k u here good.held }

-- one operation

spent_session : (w : ℕ) (run : Option Run) → session_in (spent w run) ≡ session_in run
spent_session w None = refl
spent_session w (Some run) = refl

fresh_held : (ss : List KeptSession) (run : Option Run) (n : ℕ) → has_number n ss ≡ true → HeldIn ss (session_in (freshened run (reply.Made n)))
fresh_held ss None n h = tt
fresh_held ss (Some run) n h = h

or_first_none : (a b : Option Refusal) → or_else a b ≡ None → a ≡ None
or_first_none None b h = refl
or_first_none (Some r) b h = absurd (cc)

busy_none : (o : Option ℕ) → busy o ≡ None → o ≡ None
busy_none None h = refl
busy_none (Some r) h = absurd (cc)

later_moment : (a b : ℕ) → a ≤ max a b
later_moment a b = grind arith

-- what a Begin leaves of the sessions
begun_good : (seed cookie : List ℕ) (idle f m m' request version : ℕ) (runs : List (Option UnderWay)) (ss : List KeptSession) (o : Option KeptSession) → session_at seed cookie ss ≡ o → m ≤ m' → holder o runs ≡ None → IsGood f m runs ss
    → IsGood f m' runs (begun_sessions seed m' cookie ss (reply.Begun request version (number_of (awake idle m' o)))) × HeldIn (begun_sessions seed m' cookie ss (reply.Begun request version (number_of (awake idle m' o)))) (number_of (awake idle m' o))
begun_good seed cookie idle f m m' request version runs ss None at later free good =
    (subst (λ found. IsGood f m' runs (unless_none (number_of found) ss)) (sym at) (good_moment f m m' runs ss later good), tt)
begun_good seed cookie idle f m m' request version runs ss (Some kept) at later free good = go (is_idle idle m' kept)
  where
    go : (b : Bool) → IsGood f m' runs (begun_sessions seed m' cookie ss (reply.Begun request version (number_of (if b then None else Some kept)))) × HeldIn (begun_sessions seed m' cookie ss (reply.Begun request version (number_of (if b then None else Some kept)))) (number_of (if b then None else Some kept))
    go true = (subst (λ found. IsGood f m' runs (unless_none (number_of found) ss)) (sym at) (good_without f m' kept.number runs ss (unheld_all kept.number runs free) (good_moment f m m' runs ss later good)), tt)
    go false = (good_used f m kept.number m' runs ss later good, has_used kept.number kept.number m' ss ∙ found_number seed cookie kept.number ss (ap number_of at))

ended_good : (f m : ℕ) (o : Option ℕ) (attrs : List (List ℕ × Datum)) (runs : List (Option UnderWay)) (ss : List KeptSession) → HeldIn ss o → attrs_weight attrs ≤ 65536 → IsGood f m runs ss → IsGood f m runs (ended_sessions o m attrs ss)
ended_good f m None attrs runs ss held small good = good
ended_good f m (Some n) attrs runs ss held small good = good_freed f m n attrs runs ss held small good

dropped_good : (f m : ℕ) (o : Option ℕ) (runs : List (Option UnderWay)) (ss : List KeptSession) → HeldIn ss o → IsGood f m runs ss → IsGood f m runs (dropped_sessions o m ss)
dropped_good f m None runs ss held good = good
dropped_good f m (Some n) runs ss held good =
    good_freed f m n (attrs_of (numbered n ss)) runs ss held
    (numbered_all (IsKept f m) n ss (λ attrs. attrs_weight attrs ≤ 65536) (let b : 16 ≤ 65536 = omega arith in b) (λ kept h. h.2) good.each) good

-- the sessions and the request of one operation that was done
pub step_good : (needs : Needs) (x : Opening) (s : State) (pass : ℕ) (o : Op) (r : Reply) → length s.runs ≤ 64 → IsGood s.freshes s.moment s.runs s.sessions → asks (run_at s.runs pass) o ≡ true → step needs x s pass o ≡ Did r
    → IsGood (freshes_after s.freshes o) (moment_after s.moment o) s.runs (sessions_after x.seed (moment_after s.moment o) s.runs (run_at s.runs pass) s.sessions o r)
    × HeldIn (sessions_after x.seed (moment_after s.moment o) s.runs (run_at s.runs pass) s.sessions o r) (session_in (run_after (run_at s.runs pass) o r))
step_good needs x s pass o r passes good ask did =
    let both = did_reply (refusal_of needs x s pass o) (reply_to needs x s pass o) r did in
    subst (λ r. IsGood (freshes_after s.freshes o) (moment_after s.moment o) s.runs (sessions_after x.seed (moment_after s.moment o) s.runs (run_at s.runs pass) s.sessions o r)
    × HeldIn (sessions_after x.seed (moment_after s.moment o) s.runs (run_at s.runs pass) s.sessions o r) (session_in (run_after (run_at s.runs pass) o r))) both.0 (go o ask both.1)
  where
    here : HeldIn s.sessions (session_in (run_at s.runs pass))
    here = each_at (λ (u : Option UnderWay). HeldIn s.sessions (session_in (run_in u))) s.runs pass None tt good.held

    kept : (w : ℕ) → HeldIn s.sessions (session_in (spent w (run_at s.runs pass)))
    kept w = subst (HeldIn s.sessions) (sym (spent_session w (run_at s.runs pass))) here

    go : (o : Op) → asks (run_at s.runs pass) o ≡ true → refusal_of needs x s pass o ≡ None
        → IsGood (freshes_after s.freshes o) (moment_after s.moment o) s.runs (sessions_after x.seed (moment_after s.moment o) s.runs (run_at s.runs pass) s.sessions o (reply_to needs x s pass o))
        × HeldIn (sessions_after x.seed (moment_after s.moment o) s.runs (run_at s.runs pass) s.sessions o (reply_to needs x s pass o)) (session_in (run_after (run_at s.runs pass) o (reply_to needs x s pass o)))
    go (op.Publish base edits) ask none = (good, here)
    go (op.Begin cookie moment) ask none =
        begun_good x.seed cookie x.idle s.freshes s.moment (max s.moment moment) s.begins s.version s.runs s.sessions (session_at x.seed cookie s.sessions) refl (later_moment s.moment moment)
        (busy_none _ (or_first_none _ _ none)) good
    go (op.App request st) ask none = (good, kept _)
    go (op.Fresh request) ask none =
        let room = good_room s.freshes s.moment s.runs s.sessions passes good in
        let kept' : KeptSession = record { number = s.freshes; used = s.moment; attrs = [] } in (
          good_fresh s.freshes s.moment s.runs (with_room s.runs s.sessions) room.1 room.0,
          fresh_held (with_room s.runs s.sessions ++ kept' ∷ []) (run_at s.runs pass) s.freshes
              (has_push s.freshes (with_room s.runs s.sessions) kept' ∙ or_second (has_number s.freshes (with_room s.runs s.sessions)) (s.freshes == s.freshes) (let e : (s.freshes == s.freshes) ≡ true = grind (arith, nat_tests) in e)),
        )
    go (op.Fetch request path) ask none = (good, kept _)
    go (op.Offer request path) ask none = (good, kept _)
    go (op.End request attrs) ask none = (
      ended_good s.freshes s.moment (session_in (run_at s.runs pass)) attrs s.runs s.sessions here
          (le_of (attrs_weight attrs) 65536 (and_left (nat_le (attrs_weight attrs) 65536) (has_session (run_at s.runs pass) || is_empty attrs) (and_right (has_run (run_at s.runs pass) request 0) (nat_le (attrs_weight attrs) 65536 && (has_session (run_at s.runs pass) || is_empty attrs)) ask))) good,
      tt,
    )
    go (op.Abandon request) ask none = (dropped_good s.freshes s.moment (session_in (run_at s.runs pass)) s.runs s.sessions here good, tt)
    go (op.Snapshot cookie) ask none = (good, here)
    go op.Roll ask none = (good, here)

pub step_sessions : (needs : Needs) (x : Opening) (s : State) (e : Entry) → x.passes ≤ 64 → HasSessions x s → Follows needs x s e → HasSessions x (moved needs x s e)
step_sessions needs x s e passes has follows =
    let more = and_right (nat_lt e.pass x.passes) (asks (run_at s.runs e.pass) e.op && (finds (under_at s.runs e.pass) e.op && rests s.runs e.op)) follows.fit in
    let ask : asks (run_at s.runs e.pass) e.op ≡ true = and_left (asks (run_at s.runs e.pass) e.op) (finds (under_at s.runs e.pass) e.op && rests s.runs e.op) more in
    let len = has.len in
    let few : length s.runs ≤ 64 = omega arith in
    let next = step_good needs x s e.pass e.op e.reply few has.good ask follows.did in
    let new : Option UnderWay = under_after s.tree (under_at s.runs e.pass) e.op e.reply in
    let ss : List KeptSession = sessions_after x.seed (moment_after s.moment e.op) s.runs (run_at s.runs e.pass) s.sessions e.op e.reply in
    let run_is : run_in new ≡ run_after (run_at s.runs e.pass) e.op e.reply = seated_run (run_after (run_at s.runs e.pass) e.op e.reply) (base_after s.tree (tree_in (under_at s.runs e.pass)) e.op) in
    record {
      good = good_set (freshes_after s.freshes e.op) (moment_after s.moment e.op) e.pass new s.runs ss (subst (λ run. HeldIn ss (session_in run)) (sym run_is) next.1) next.0;
      len = length-set s.runs e.pass new ∙ has.len;
    }

fold_sessions : (needs : Needs) (x : Opening) (s : State) (entries : List Entry) → x.passes ≤ 64 → HasSessions x s → LegalFrom needs x s entries → HasSessions x (fold (moved needs x) s entries)
fold_sessions needs x s [] passes has legal = has
fold_sessions needs x s (e ∷ entries) passes has legal = fold_sessions needs x (moved needs x s e) entries passes (step_sessions needs x s e passes has legal.0) legal.1

none_held : (n : ℕ) (ss : List KeptSession) → Each (λ (u : Option UnderWay). HeldIn ss (session_in (run_in u))) (replicate n None)
none_held zero ss = tt
none_held (suc n) ss = (tt, none_held n ss)

pub kept_of : (x : Opening) → sound_sessions x ≡ true → Each (IsKept x.freshes x.moment) x.sessions
kept_of x sound =
    let each = every_each (is_sound_session x) x.sessions (and_right (are_distinct x.sessions) (every (is_sound_session x) x.sessions) (and_right (nat_le (length x.sessions) 4096) (are_distinct x.sessions && every (is_sound_session x) x.sessions) sound)) in
    each_map (λ k. is_sound_session x k ≡ true) (IsKept x.freshes x.moment) x.sessions (λ k h.
    let rest = and_right (nat_lt k.number x.freshes) (nat_le k.used x.moment && nat_le (attrs_weight k.attrs) 65536) h in (
      lt_of k.number x.freshes (and_left (nat_lt k.number x.freshes) (nat_le k.used x.moment && nat_le (attrs_weight k.attrs) 65536) h),
      le_of k.used x.moment (and_left (nat_le k.used x.moment) (nat_le (attrs_weight k.attrs) 65536) rest),
      le_of (attrs_weight k.attrs) 65536 (and_right (nat_le k.used x.moment) (nat_le (attrs_weight k.attrs) 65536) rest),
    )) each

-- the sessions of a legal history
pub sessions_good : (needs : Needs) (x : Opening) (history : List Entry) → x.passes ≤ 64 → sound_sessions x ≡ true → Legal needs x history → HasSessions x (after needs x history)
sessions_good needs x history passes sound legal =
    fold_sessions needs x (start_of x) history passes
    (record {
      good = record {
        distinct = and_left (are_distinct x.sessions) (every (is_sound_session x) x.sessions) (and_right (nat_le (length x.sessions) 4096) (are_distinct x.sessions && every (is_sound_session x) x.sessions) sound);
        few = le_of (length x.sessions) 4096 (and_left (nat_le (length x.sessions) 4096) (are_distinct x.sessions && every (is_sound_session x) x.sessions) sound);
        each = kept_of x sound;
        held = none_held x.passes x.sessions;
      };
      len = length-replicate x.passes None;
    }) legal
