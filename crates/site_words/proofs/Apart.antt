-- A session is held by one request at most; and the latest tree and its version are those of the operations, in any history.
use Rattle.std.proofs.Common.{◌≡◌, ◌≢◌, ℕ, ◌+◌, ◌-◌, ◌<◌, ◌≤◌, List, [], ◌∷◌, ◌++◌, length, Option, Some, None, refl, sym, ap, subst, ◌∙◌, arith, true, false, set, replicate}
use Rattle.std.specs.Prelude.{Bool, ◌==◌, ◌&&◌, nat_lt, if◌then◌else◌}
use Rattle.std.specs.List.{fold}
use Rattle.std.proofs.lemmas.Bool.Decides.{nat_tests}
use Rattle.std.proofs.lemmas.List.{length_push, get_or-set_same, get_or-set_other}
use Rattle.source_tree.specs.declared.file.File.{File}
use Rattle.source_tree.specs.Edits.{after_edits}
use Rattle.edges.specs.declared.acted.Acted.TheVariants.{Did}
use Rattle.site_words.specs.declared.words.KeptSession.{KeptSession}
use Rattle.site_words.specs.declared.words.Run.{Run}
use Rattle.site_words.specs.declared.words.Entry.{Entry}
use Rattle.site_words.specs.declared.words.Opening.{Opening}
use Rattle.site_words.specs.declared.words.Op.{Op}
use Rattle.site_words.specs.declared.words.Op.TheVariants as op
use Rattle.site_words.specs.declared.words.Reply.{Reply}
use Rattle.site_words.specs.declared.words.Reply.TheVariants as reply
use Rattle.site_words.specs.declared.words.Refusal.{Refusal}
use Rattle.site_words.specs.Fits.{asks, finds, rests}
use Rattle.site_words.specs.Law.{LegalFrom, Legal, trees_of, trees_after, latest_of}
use Rattle.site_words.specs.Opening.{sound_sessions}
use Rattle.site_words.specs.Runs.{UnderWay, under_at, run_in, run_at, session_in, tree_in, run_after, under_after, base_after, spent, freshened}
use Rattle.site_words.specs.Sessions.{session_at, number_of, holder, awake, is_idle}
use Rattle.site_words.specs.State.{State, after, moved, start_of}
use Rattle.site_words.specs.Step.{step, refusal_of, reply_to, busy, or_else}
use Rattle.site_words.specs.Trees.{Needs, Each}
use Rattle.site_words.proofs.Good.{step_sessions, sessions_good, not_there}
use Rattle.site_words.proofs.Items.{each_at, and_left, lt_of, at_pushed}
use Rattle.site_words.proofs.Lasting.{seated_run, replicate_none}
use Rattle.site_words.proofs.Numbers.{unheld_all}
use Rattle.site_words.proofs.Trees.{did_reply}
use Rattle.site_words.specs.Invariants.{has_number, HeldIn, HasSessions, AreApart, IsTreeOf}

not_some : (n : ℕ) → session_in None ≢ Some n
not_some n h = absurd (cc)

nowhere : (runs : List (Option UnderWay)) (n : ℕ) → Each (λ u. session_in (run_in u) ≢ Some n) runs → (k : ℕ) → session_in (run_at runs k) ≢ Some n
nowhere runs n all k = each_at (λ u. session_in (run_in u) ≢ Some n) runs k None (not_some n) all

apart_set : (runs : List (Option UnderWay)) (p : ℕ) (new : Option UnderWay) → p < length runs → AreApart runs
    → ((n : ℕ) → session_in (run_in new) ≡ Some n → (k : ℕ) → k ≢ p → session_in (run_at runs k) ≢ Some n) → AreApart (set runs p new)
apart_set runs p new within apart fresh j k n other at_j at_k = go (j == p) (k == p) refl refl
  where
    same : (i : ℕ) → i ≡ p → run_at (set runs p new) i ≡ run_in new
    same i is = ap (λ m. run_at (set runs p new) m) is ∙ ap run_in (get_or-set_same runs p new None within)

    kept : (i : ℕ) → i ≢ p → run_at (set runs p new) i ≡ run_at runs i
    kept i is = ap run_in (get_or-set_other runs p i new None is)

    go : (a b : Bool) → (j == p) ≡ a → (k == p) ≡ b → ⊥
    go true true is_j is_k = let one : j ≡ p = grind (arith, nat_tests) in let two : k ≡ p = grind (arith, nat_tests) in other (one ∙ sym two)
    go true false is_j is_k =
        let one : j ≡ p = grind (arith, nat_tests) in
        let two : k ≢ p = grind (arith, nat_tests) in
        fresh n (sym (ap session_in (same j one)) ∙ at_j) k two (sym (ap session_in (kept k two)) ∙ at_k)
    go false true is_j is_k =
        let one : j ≢ p = grind (arith, nat_tests) in
        let two : k ≡ p = grind (arith, nat_tests) in
        fresh n (sym (ap session_in (same k two)) ∙ at_k) j one (sym (ap session_in (kept j one)) ∙ at_j)
    go false false is_j is_k =
        let one : j ≢ p = grind (arith, nat_tests) in
        let two : k ≢ p = grind (arith, nat_tests) in
        apart j k n other (sym (ap session_in (kept j one)) ∙ at_j) (sym (ap session_in (kept k two)) ∙ at_k)

first_none : (a b : Option Refusal) → or_else a b ≡ None → a ≡ None
first_none None b h = refl
first_none (Some r) b h = absurd (cc)

busy_none : (o : Option ℕ) → busy o ≡ None → o ≡ None
busy_none None h = refl
busy_none (Some r) h = absurd (cc)

spent_same : (w : ℕ) (run : Option Run) → session_in (spent w run) ≡ session_in run
spent_same w None = refl
spent_same w (Some run) = refl

fresh_is : (run : Option Run) (m n : ℕ) → session_in (freshened run (reply.Made m)) ≡ Some n → m ≡ n
fresh_is None m n h = absurd (cc)
fresh_is (Some run) m n h = cc

begun_free : (runs : List (Option UnderWay)) (idle m n : ℕ) (o : Option KeptSession) → holder o runs ≡ None → number_of (awake idle m o) ≡ Some n → Each (λ u. session_in (run_in u) ≢ Some n) runs
begun_free runs idle m n None free h = absurd (cc)
begun_free runs idle m n (Some kept) free h = go (is_idle idle m kept) h
  where
    go : (b : Bool) → number_of (if b then None else Some kept) ≡ Some n → Each (λ u. session_in (run_in u) ≢ Some n) runs
    go true h = absurd (cc)
    go false h = let same : kept.number ≡ n = cc in subst (λ k. Each (λ u. session_in (run_in u) ≢ Some k) runs) same (unheld_all kept.number runs free)

-- the session of a request after an operation is its old one, or one that nobody else holds
step_apart : (needs : Needs) (x : Opening) (s : State) (pass : ℕ) (o : Op) (r : Reply) → HasSessions x s → AreApart s.runs → step needs x s pass o ≡ Did r
    → (n : ℕ) → session_in (run_after (run_at s.runs pass) o r) ≡ Some n → (k : ℕ) → k ≢ pass → session_in (run_at s.runs k) ≢ Some n
step_apart needs x s pass o r has apart did n holds k other =
    let both = did_reply (refusal_of needs x s pass o) (reply_to needs x s pass o) r did in
    go o both.1 (subst (λ r. session_in (run_after (run_at s.runs pass) o r) ≡ Some n) (sym both.0) holds)
  where
    before : session_in (run_at s.runs pass) ≡ Some n → session_in (run_at s.runs k) ≢ Some n
    before h = apart pass k n (λ e. other (sym e)) h

    new_one : s.freshes ≡ n → session_in (run_at s.runs k) ≢ Some n
    new_one same held =
        let there : HeldIn s.sessions (session_in (run_at s.runs k)) = each_at (λ (u : Option UnderWay). HeldIn s.sessions (session_in (run_in u))) s.runs k None tt has.good.held in
        let is : has_number n s.sessions ≡ true = subst (HeldIn s.sessions) held there in
        let none : has_number s.freshes s.sessions ≡ false = not_there s.freshes s.moment s.sessions has.good.each in
        let none' : has_number n s.sessions ≡ false = subst (λ m. has_number m s.sessions ≡ false) same none in
        absurd (cc)

    go : (o : Op) → refusal_of needs x s pass o ≡ None → session_in (run_after (run_at s.runs pass) o (reply_to needs x s pass o)) ≡ Some n → session_in (run_at s.runs k) ≢ Some n
    go (op.Publish base edits) none h = before h
    go (op.Begin cookie moment) none h = nowhere s.runs n (begun_free s.runs x.idle _ n (session_at x.seed cookie s.sessions) (busy_none _ (first_none _ _ none)) h) k
    go (op.App request st) none h = before (sym (spent_same _ (run_at s.runs pass)) ∙ h)
    go (op.Fresh request) none h = new_one (fresh_is (run_at s.runs pass) s.freshes n h)
    go (op.Fetch request path) none h = before (sym (spent_same _ (run_at s.runs pass)) ∙ h)
    go (op.Offer request path) none h = before (sym (spent_same _ (run_at s.runs pass)) ∙ h)
    go (op.End request attrs) none h = absurd (not_some n h)
    go (op.Abandon request) none h = absurd (not_some n h)
    go (op.Snapshot cookie) none h = before h
    go op.Roll none h = before h

fold_apart : (needs : Needs) (x : Opening) (s : State) (entries : List Entry) → x.passes ≤ 64 → HasSessions x s → AreApart s.runs → LegalFrom needs x s entries → AreApart (fold (moved needs x) s entries).runs
fold_apart needs x s [] passes has apart legal = apart
fold_apart needs x s (e ∷ entries) passes has apart legal =
    let below = lt_of e.pass x.passes (and_left (nat_lt e.pass x.passes) (asks (run_at s.runs e.pass) e.op && (finds (under_at s.runs e.pass) e.op && rests s.runs e.op)) legal.0.fit) in
    let len = has.len in
    let within : e.pass < length s.runs = omega arith in
    let new : Option UnderWay = under_after s.tree (under_at s.runs e.pass) e.op e.reply in
    let run_is : run_in new ≡ run_after (run_at s.runs e.pass) e.op e.reply = seated_run (run_after (run_at s.runs e.pass) e.op e.reply) (base_after s.tree (tree_in (under_at s.runs e.pass)) e.op) in
    fold_apart needs x (moved needs x s e) entries passes (step_sessions needs x s e passes has legal.0)
    (apart_set s.runs e.pass new within apart (λ n h. step_apart needs x s e.pass e.op e.reply has apart legal.0.did n (sym (ap session_in run_is) ∙ h))) legal.1

none_apart : (m : ℕ) → AreApart (replicate m None)
none_apart m j k n other at_j at_k = not_some n (sym (ap session_in (replicate_none m j)) ∙ at_j)

-- a session is held by one request at most
pub apart : (needs : Needs) (x : Opening) (history : List Entry) → x.passes ≤ 64 → sound_sessions x ≡ true → Legal needs x history → AreApart (after needs x history).runs
apart needs x history passes sound legal = fold_apart needs x (start_of x) history passes (sessions_good needs x [] passes sound tt) (none_apart x.passes) legal

-- trees

step_is : (needs : Needs) (x : Opening) (s : State) (trees : List (List File)) (e : Entry) → IsTreeOf x.version s trees → IsTreeOf x.version (moved needs x s e) (trees_after x.version trees e.op)
step_is needs x s trees e is = go e.op
  where
    go : (o : Op) → IsTreeOf x.version (moved needs x s (record { pass = e.pass; op = o; reply = e.reply })) (trees_after x.version trees o)
    go (op.Publish base edits) =
        let new : List File = after_edits edits (x.version + length trees) (latest_of trees) in
        let len : length (trees ++ new ∷ []) ≡ length trees + 1 = length_push trees new in
        let last : length (trees ++ new ∷ []) - 1 ≡ length trees = omega arith in
        record {
          latest = (ap (λ n. after_edits edits n s.tree) is.count ∙ ap (after_edits edits (x.version + length trees)) is.latest) ∙ sym (at_pushed trees new [] (length (trees ++ new ∷ []) - 1) last);
          count = (let c = is.count in omega arith);
        }
    go (op.Begin cookie moment) = record { latest = is.latest; count = is.count }
    go (op.App request st) = record { latest = is.latest; count = is.count }
    go (op.Fresh request) = record { latest = is.latest; count = is.count }
    go (op.Fetch request path) = record { latest = is.latest; count = is.count }
    go (op.Offer request path) = record { latest = is.latest; count = is.count }
    go (op.End request attrs) = record { latest = is.latest; count = is.count }
    go (op.Abandon request) = record { latest = is.latest; count = is.count }
    go (op.Snapshot cookie) = record { latest = is.latest; count = is.count }
    go op.Roll = record { latest = is.latest; count = is.count }

fold_is : (needs : Needs) (x : Opening) (s : State) (trees : List (List File)) (entries : List Entry) → IsTreeOf x.version s trees
    → IsTreeOf x.version (fold (moved needs x) s entries) (fold (λ trees (e : Entry). trees_after x.version trees e.op) trees entries)
fold_is needs x s trees [] is = is
fold_is needs x s trees (e ∷ entries) is = fold_is needs x (moved needs x s e) (trees_after x.version trees e.op) entries (step_is needs x s trees e is)

-- the latest tree and its version, whether the history is legal or not
pub trees_is : (needs : Needs) (x : Opening) (history : List Entry) → IsTreeOf x.version (after needs x history) (trees_of x history)
trees_is needs x history = fold_is needs x (start_of x) (x.tree ∷ []) history (record { latest = refl; count = refl })
