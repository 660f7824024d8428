-- The attributes that a Begin gives are those that its session still has after it; and a Begin where nothing is under way is refused by a full journal alone.
use Rattle.std.proofs.Common.{◌≡◌, ◌≢◌, ℕ, suc, ◌<◌, List, [], ◌∷◌, ◌++◌, length, Option, Some, None, refl, ap, subst, ◌∙◌, arith, true, false}
use Rattle.std.specs.Prelude.{Bool, ◌==◌, if◌then◌else◌, max}
use Rattle.std.proofs.lemmas.Bool.Decides.{nat_tests}
use Rattle.edges.proofs.Own.{own-push_other}
use Rattle.edges.specs.Calls as Generic
use Rattle.site_words.specs.declared.words.KeptSession.{KeptSession}
use Rattle.site_words.specs.declared.words.Entry.{Entry}
use Rattle.site_words.specs.declared.words.Opening.{Opening}
use Rattle.site_words.specs.declared.words.Op.TheVariants as op
use Rattle.site_words.specs.declared.words.Reply.TheVariants as reply
use Rattle.site_words.specs.Ids.{is_id}
use Rattle.site_words.specs.Law.{pass_of, own, run_of}
use Rattle.site_words.specs.Runs.{UnderWay, run_at}
use Rattle.site_words.specs.Sessions.{session_at, numbered, number_of, attrs_of, session_attrs, awake, is_idle, used_at, holder, holder_of, begun_sessions}
use Rattle.site_words.specs.State.{State, after, moved}
use Rattle.site_words.specs.Step.{refusal_of, or_else, busy, full, begun_session}
use Rattle.site_words.specs.Trees.{Needs}
use Rattle.site_words.specs.Weights.{promise}
use Rattle.site_words.proofs.Lasting.{run_is_own}
use Rattle.site_words.proofs.Legal.{passes_len}
use Rattle.site_words.specs.Invariants.{AllRest}

found_id : (seed cookie : List ℕ) (ss : List KeptSession) (kept : KeptSession) → session_at seed cookie ss ≡ Some kept → is_id seed kept.number cookie ≡ true
found_id seed cookie [] kept h = absurd (cc)
found_id seed cookie (f ∷ ss) kept h = go (is_id seed f.number cookie) refl h (λ h. found_id seed cookie ss kept h)
  where
    go : (b : Bool) → is_id seed f.number cookie ≡ b → (if b then Some f else session_at seed cookie ss) ≡ Some kept → (session_at seed cookie ss ≡ Some kept → is_id seed kept.number cookie ≡ true) → is_id seed kept.number cookie ≡ true
    go true is h rest = let same : f ≡ kept = cc in subst (λ (k : KeptSession). is_id seed k.number cookie ≡ true) same is
    go false is h rest = rest h

-- the session of a cookie is the one of its number
pub found_numbered : (seed cookie : List ℕ) (ss : List KeptSession) (kept : KeptSession) → session_at seed cookie ss ≡ Some kept → numbered kept.number ss ≡ Some kept
found_numbered seed cookie [] kept h = absurd (cc)
found_numbered seed cookie (f ∷ ss) kept h = go (is_id seed f.number cookie) refl h (λ h. found_numbered seed cookie ss kept h)
  where
    other : (b : Bool) → (f.number == kept.number) ≡ b → is_id seed f.number cookie ≡ false → is_id seed kept.number cookie ≡ true → numbered kept.number ss ≡ Some kept → (if b then Some f else numbered kept.number ss) ≡ Some kept
    other true is out within rest = let same : f.number ≡ kept.number = grind (arith, nat_tests) in let both = ap (λ (n : ℕ). is_id seed n cookie) same in absurd (cc)
    other false is out within rest = rest

    go : (b : Bool) → is_id seed f.number cookie ≡ b → (if b then Some f else session_at seed cookie ss) ≡ Some kept → (session_at seed cookie ss ≡ Some kept → numbered kept.number ss ≡ Some kept) → (if f.number == kept.number then Some f else numbered kept.number ss) ≡ Some kept
    go true is h rest =
        let same : f ≡ kept = cc in
        let one : (f.number == kept.number) ≡ true = subst (λ (k : KeptSession). (f.number == k.number) ≡ true) same (let e : (f.number == f.number) ≡ true = grind (arith, nat_tests) in e) in
        ap (λ b. if b then Some f else numbered kept.number ss) one ∙ ap Some same
    go false is h rest = other (f.number == kept.number) refl is (found_id seed cookie ss kept h) (rest h)

used_attrs : (k n m : ℕ) (ss : List KeptSession) → attrs_of (numbered k (used_at n m ss)) ≡ attrs_of (numbered k ss)
used_attrs k n m [] = refl
used_attrs k n m (f ∷ ss) = go (f.number == n) (used_attrs k n m ss)
  where
    pick : (b : Bool) (a : KeptSession) (x y : Option KeptSession) → attrs_of x ≡ attrs_of y → a.attrs ≡ f.attrs → attrs_of (if b then Some a else x) ≡ attrs_of (if b then Some f else y)
    pick true a x y h same = same
    pick false a x y h same = h

    go : (b : Bool) → attrs_of (numbered k (used_at n m ss)) ≡ attrs_of (numbered k ss)
        → attrs_of (numbered k ((if b then record { number = f.number; used = m; attrs = f.attrs } else f) ∷ used_at n m ss)) ≡ attrs_of (numbered k (f ∷ ss))
    go true rest = pick (f.number == k) (record { number = f.number; used = m; attrs = f.attrs }) _ _ rest refl
    go false rest = pick (f.number == k) f _ _ rest refl

begun_attrs : (seed cookie : List ℕ) (idle m request version : ℕ) (ss : List KeptSession) (o : Option KeptSession) → session_at seed cookie ss ≡ o
    → session_attrs (number_of (awake idle m o)) (begun_sessions seed m cookie ss (reply.Begun request version (number_of (awake idle m o)))) ≡ attrs_of (awake idle m o)
begun_attrs seed cookie idle m request version ss None at = refl
begun_attrs seed cookie idle m request version ss (Some kept) at = go (is_idle idle m kept)
  where
    go : (b : Bool) → session_attrs (number_of (if b then None else Some kept)) (begun_sessions seed m cookie ss (reply.Begun request version (number_of (if b then None else Some kept)))) ≡ attrs_of (if b then None else Some kept)
    go true = refl
    go false = used_attrs kept.number kept.number m ss ∙ ap attrs_of (found_numbered seed cookie ss kept at)

-- what a Begin gives at its front is what stands after it
pub begun_gift : (needs : Needs) (x : Opening) (s : State) (pass : ℕ) (cookie : List ℕ) (moment : ℕ)
    → session_attrs (number_of (begun_session x s cookie (max s.moment moment)))
    (moved needs x s (record { pass = pass; op = op.Begin cookie moment; reply = reply.Begun s.begins s.version (number_of (begun_session x s cookie (max s.moment moment))) })).sessions
    ≡ attrs_of (begun_session x s cookie (max s.moment moment))
begun_gift needs x s pass cookie moment = begun_attrs x.seed cookie x.idle (max s.moment moment) s.begins s.version s.sessions (session_at x.seed cookie s.sessions) refl

-- alone

no_holder_of : (number : ℕ) (runs : List (Option UnderWay)) → ((k : ℕ) → k < length runs → run_at runs k ≡ None) → holder_of number runs ≡ None
no_holder_of number [] none = refl
no_holder_of number (None ∷ runs) none = no_holder_of number runs (λ k h. none (suc k) (omega arith))
no_holder_of number (Some under ∷ runs) none = let h : Some under.run ≡ None = none 0 (omega arith) in absurd (cc)

no_holder : (kept : Option KeptSession) (runs : List (Option UnderWay)) → ((k : ℕ) → k < length runs → run_at runs k ≡ None) → holder kept runs ≡ None
no_holder None runs none = refl
no_holder (Some kept) runs none = no_holder_of kept.number runs none

pub never_busy : (needs : Needs) (x : Opening) (history : List Entry) (pass moment : ℕ) (cookie : List ℕ) → AllRest x history
    → refusal_of needs x (after needs x history) pass (op.Begin cookie moment) ≡ full x (after needs x history) promise
never_busy needs x history pass moment cookie rest =
    let len : length (after needs x history).runs ≡ x.passes = passes_len needs x history in
    ap (λ h. or_else (busy h) (full x (after needs x history) promise))
    (no_holder (session_at x.seed cookie (after needs x history).sessions) (after needs x history).runs
    (λ k within. let inside : k < x.passes = omega arith in run_is_own needs x history k inside ∙ rest k inside))

-- what one pass does leaves the others as they are
pub others_rest : (history : List Entry) (e : Entry) (k : ℕ) → e.pass ≢ k → run_of (own k (history ++ e ∷ [])) ≡ run_of (own k history)
others_rest history e k other = ap (λ l. run_of l) (own-push_other pass_of k history e other)

-- once all passes are back, each with no request under way, none is under way in the history
pub closed_rests : (x : Opening) (history seen : List Entry) (k : ℕ) (legal : List Entry → Type 0) → Generic.Stays pass_of legal k seen history → run_of (own k seen) ≡ None → run_of (own k history) ≡ None
closed_rests x history seen k legal stays none = ap (λ l. run_of l) stays.same ∙ none
