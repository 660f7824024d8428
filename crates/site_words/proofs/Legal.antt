-- Legal histories: one entry more, two parts, what a pass may ask, and what follows a Roll.
use Rattle.std.proofs.Common.{◌≡◌, ◌≢◌, ℕ, zero, suc, List, [], ◌∷◌, ◌++◌, length, Option, Some, None, refl, sym, ap, subst, ◌∙◌, true, set, replicate}
use Rattle.std.specs.Prelude.{IsSomeAnd, ◌&&◌, nat_lt}
use Rattle.std.specs.List.{fold}
use Rattle.std.proofs.Math.ListN.{length-replicate}
use Rattle.source_tree.specs.declared.file.File.{File}
use Rattle.edges.specs.declared.acted.Acted.TheVariants.{Did}
use Rattle.site_words.specs.declared.words.Entry.{Entry}
use Rattle.site_words.specs.declared.words.Opening.{Opening}
use Rattle.site_words.specs.declared.words.Op.{Op}
use Rattle.site_words.specs.declared.words.Op.TheVariants as op
use Rattle.site_words.specs.declared.words.Reply.{Reply}
use Rattle.site_words.specs.declared.words.Reply.TheVariants as reply
use Rattle.site_words.specs.Fits.{asks, fits, finds, rests, at_rest}
use Rattle.site_words.specs.Law.{Follows, LegalFrom, Legal, own, trees_of, Finds, FindsFile, May}
use Rattle.site_words.specs.Opening.{next_opening}
use Rattle.site_words.specs.Runs.{UnderWay, under_at, run_in, run_at, tree_in, under_after}
use Rattle.site_words.specs.State.{State, after, moved, start_of}
use Rattle.site_words.specs.Step.{step}
use Rattle.source_tree.specs.Changed.{has_file}
use Rattle.site_words.specs.Trees.{Needs}
use Rattle.site_words.proofs.Items.{each_at, and_left, and_right, and_both, lt_of, to_lt, fold-push}
use Rattle.site_words.proofs.Lasting.{run_is_own, runs_len}
use Rattle.site_words.proofs.Trees.{trees_are}
use Rattle.site_words.specs.Invariants.{HasTree}

-- a history is legal where its front is and the rest from there
pub legal_both : (needs : Needs) (x : Opening) (s : State) (a b : List Entry) → LegalFrom needs x s a → LegalFrom needs x (fold (moved needs x) s a) b → LegalFrom needs x s (a ++ b)
legal_both needs x s [] b one two = two
legal_both needs x s (e ∷ a) b one two = (one.0, legal_both needs x (moved needs x s e) a b one.1 two)

pub legal_front : (needs : Needs) (x : Opening) (s : State) (a b : List Entry) → LegalFrom needs x s (a ++ b) → LegalFrom needs x s a
legal_front needs x s [] b legal = tt
legal_front needs x s (e ∷ a) b legal = (legal.0, legal_front needs x (moved needs x s e) a b legal.1)

pub legal_rest : (needs : Needs) (x : Opening) (s : State) (a b : List Entry) → LegalFrom needs x s (a ++ b) → LegalFrom needs x (fold (moved needs x) s a) b
legal_rest needs x s [] b legal = legal
legal_rest needs x s (e ∷ a) b legal = legal_rest needs x (moved needs x s e) a b legal.1

pub legal_push : (needs : Needs) (x : Opening) (history : List Entry) (e : Entry) → Legal needs x history → Follows needs x (after needs x history) e → Legal needs x (history ++ e ∷ [])
legal_push needs x history e legal follows = legal_both needs x (start_of x) history (e ∷ []) legal (follows, tt)

pub after_push : (needs : Needs) (x : Opening) (history : List Entry) (e : Entry) → after needs x (history ++ e ∷ []) ≡ moved needs x (after needs x history) e
after_push needs x history e = fold-push (moved needs x) (start_of x) history e

-- what a pass may ask by its own entries fits the state

file_there : (version : ℕ) (trees : List (List File)) (under : Option UnderWay) (path : List ℕ) → HasTree version trees under → FindsFile version trees (run_in under) path → has_file path (tree_in under) ≡ true
file_there version trees None path has h = absurd h
file_there version trees (Some under) path has h = subst (λ o. IsSomeAnd o (λ tree. has_file path tree ≡ true)) has.1 h

there_file : (version : ℕ) (trees : List (List File)) (under : Option UnderWay) (path : List ℕ) → HasTree version trees under → has_file path (tree_in under) ≡ true → FindsFile version trees (run_in under) path
there_file version trees None path has h = absurd (cc)
there_file version trees (Some under) path has h = subst (λ o. IsSomeAnd o (λ tree. has_file path tree ≡ true)) (sym has.1) h

finds_by : (version : ℕ) (trees : List (List File)) (runs : List (Option UnderWay)) (under : Option UnderWay) (o : Op) → HasTree version trees under → Finds version trees (run_in under) o → (finds under o && rests runs o) ≡ true
finds_by version trees runs under (op.Publish base edits) has h = refl
finds_by version trees runs under (op.Begin cookie moment) has h = refl
finds_by version trees runs under (op.App request step) has h = refl
finds_by version trees runs under (op.Fresh request) has h = refl
finds_by version trees runs under (op.Fetch request path) has h = refl
finds_by version trees runs under (op.Offer request path) has h = and_both (has_file path (tree_in under)) true (file_there version trees under path has h) refl
finds_by version trees runs under (op.End request attrs) has h = refl
finds_by version trees runs under (op.Abandon request) has h = refl
finds_by version trees runs under (op.Snapshot cookie) has h = refl
finds_by version trees runs under op.Roll has h = absurd h

by_finds : (version : ℕ) (trees : List (List File)) (under : Option UnderWay) (o : Op) → o ≢ op.Roll → HasTree version trees under → finds under o ≡ true → Finds version trees (run_in under) o
by_finds version trees under (op.Publish base edits) other has h = tt
by_finds version trees under (op.Begin cookie moment) other has h = tt
by_finds version trees under (op.App request step) other has h = tt
by_finds version trees under (op.Fresh request) other has h = tt
by_finds version trees under (op.Fetch request path) other has h = tt
by_finds version trees under (op.Offer request path) other has h = there_file version trees under path has h
by_finds version trees under (op.End request attrs) other has h = tt
by_finds version trees under (op.Abandon request) other has h = tt
by_finds version trees under (op.Snapshot cookie) other has h = tt
by_finds version trees under op.Roll other has h = absurd (other refl)

pub may_fits : (needs : Needs) (x : Opening) (front : List Entry) (pass : ℕ) (o : Op) → Legal needs x front → May x front pass (own pass front) o → fits x (after needs x front) pass o ≡ true
may_fits needs x front pass o legal may =
    let s : State = after needs x front in
    let trees = trees_are needs x front legal in
    let own_is = run_is_own needs x front pass may.0 in
    let has : HasTree x.version (trees_of x front) (under_at s.runs pass) = each_at (HasTree x.version (trees_of x front)) s.runs pass None tt trees.bases in
    and_both (nat_lt pass x.passes) (asks (run_at s.runs pass) o && (finds (under_at s.runs pass) o && rests s.runs o)) (to_lt pass x.passes may.0)
    (and_both (asks (run_at s.runs pass) o) (finds (under_at s.runs pass) o && rests s.runs o)
    (ap (λ run. asks run o) own_is ∙ may.1)
    (finds_by x.version (trees_of x front) s.runs (under_at s.runs pass) o has (subst (λ run. Finds x.version (trees_of x front) run o) (sym own_is) may.2)))

pub fits_may : (needs : Needs) (x : Opening) (front : List Entry) (pass : ℕ) (o : Op) → Legal needs x front → o ≢ op.Roll → fits x (after needs x front) pass o ≡ true → May x front pass (own pass front) o
fits_may needs x front pass o legal other fit =
    let s : State = after needs x front in
    let trees = trees_are needs x front legal in
    let rest = and_right (nat_lt pass x.passes) (asks (run_at s.runs pass) o && (finds (under_at s.runs pass) o && rests s.runs o)) fit in
    let below = lt_of pass x.passes (and_left (nat_lt pass x.passes) (asks (run_at s.runs pass) o && (finds (under_at s.runs pass) o && rests s.runs o)) fit) in
    let own_is = run_is_own needs x front pass below in
    let has : HasTree x.version (trees_of x front) (under_at s.runs pass) = each_at (HasTree x.version (trees_of x front)) s.runs pass None tt trees.bases in
    let found = and_left (finds (under_at s.runs pass) o) (rests s.runs o) (and_right (asks (run_at s.runs pass) o) (finds (under_at s.runs pass) o && rests s.runs o) rest) in (
      below,
      sym (ap (λ run. asks run o) own_is) ∙ and_left (asks (run_at s.runs pass) o) (finds (under_at s.runs pass) o && rests s.runs o) rest,
      subst (λ run. Finds x.version (trees_of x front) run o) own_is (by_finds x.version (trees_of x front) (under_at s.runs pass) o other has found),
    )

-- what an operation that is done needs: a legal history goes on by it
pub may_follows : (needs : Needs) (x : Opening) (front : List Entry) (pass : ℕ) (o : Op) (r : Reply) → Legal needs x front → May x front pass (own pass front) o
    → step needs x (after needs x front) pass o ≡ Did r → Legal needs x (front ++ record { pass = pass; op = o; reply = r } ∷ [])
may_follows needs x front pass o r legal may did = legal_push needs x front (record { pass = pass; op = o; reply = r }) legal (record { fit = may_fits needs x front pass o legal may; did = did })

-- rollover

rest_none : (runs : List (Option UnderWay)) → at_rest runs ≡ true → runs ≡ replicate (length runs) None
rest_none [] h = refl
rest_none (None ∷ runs) h = ap (λ l. None ∷ l) (rest_none runs h)
rest_none (Some under ∷ runs) h = absurd (cc)

set_same : {A : Type 0} (n k : ℕ) (a : A) → set (replicate n a) k a ≡ replicate n a
set_same zero k a = refl
set_same (suc n) zero a = refl
set_same (suc n) (suc k) a = ap (λ l. a ∷ l) (set_same n k a)

under_none : (n k : ℕ) → under_at (replicate n None) k ≡ None
under_none zero k = refl
under_none (suc n) zero = refl
under_none (suc n) (suc k) = under_none n k

-- the state after a Roll is that of the opening that goes on from it
pub rolled_state : (needs : Needs) (x : Opening) (s : State) (pass : ℕ) → length s.runs ≡ x.passes → at_rest s.runs ≡ true
    → start_of (next_opening x (moved needs x s (record { pass = pass; op = op.Roll; reply = reply.Rolled }))) ≡ moved needs x s (record { pass = pass; op = op.Roll; reply = reply.Rolled })
rolled_state needs x s pass len rest =
    let t : State = moved needs x s (record { pass = pass; op = op.Roll; reply = reply.Rolled }) in
    let none : s.runs ≡ replicate x.passes None = rest_none s.runs rest ∙ ap (λ n. replicate n None) len in
    let runs : replicate x.passes None ≡ t.runs =
    subst (λ runs. replicate x.passes None ≡ set runs pass (under_after s.tree (under_at runs pass) op.Roll reply.Rolled)) (sym none)
    (sym (ap (λ u. set (replicate x.passes None) pass (under_after s.tree u op.Roll reply.Rolled)) (under_none x.passes pass) ∙ set_same x.passes pass None)) in
    ap (λ (runs : List (Option UnderWay)). record { tree = t.tree; version = t.version; app = t.app; sessions = t.sessions; runs = runs; begins = t.begins; freshes = t.freshes; moment = t.moment; ready = t.ready; weight = t.weight }) runs

-- legal by the opening that goes on is legal by the first one: they differ in nothing that a step looks at
pub legal_next : (needs : Needs) (x : Opening) (t s : State) (entries : List Entry) → LegalFrom needs (next_opening x t) s entries → LegalFrom needs x s entries
legal_next needs x t s [] legal = tt
legal_next needs x t s (e ∷ entries) legal = (record { fit = legal.0.fit; did = legal.0.did }, legal_next needs x t (moved needs x s e) entries legal.1)

pub passes_len : (needs : Needs) (x : Opening) (history : List Entry) → length (after needs x history).runs ≡ x.passes
passes_len needs x history = runs_len needs x (start_of x) history ∙ length-replicate x.passes None

-- the history of the old site, which ends with a Roll, and that of the new one are one legal history
pub rollover : (needs : Needs) (x : Opening) (old new : List Entry) (pass : ℕ) →
    Legal needs x (old ++ record { pass = pass; op = op.Roll; reply = reply.Rolled } ∷ [])
    → Legal needs (next_opening x (after needs x (old ++ record { pass = pass; op = op.Roll; reply = reply.Rolled } ∷ []))) new
    → Legal needs x ((old ++ record { pass = pass; op = op.Roll; reply = reply.Rolled } ∷ []) ++ new)
rollover needs x old new pass legal next =
    let e : Entry = record { pass = pass; op = op.Roll; reply = reply.Rolled } in
    let s : State = after needs x old in
    let rolled : State = after needs x (old ++ e ∷ []) in
    let is : rolled ≡ moved needs x s e = after_push needs x old e in
    let last : Follows needs x s e = (legal_rest needs x (start_of x) old (e ∷ []) legal).0 in
    let rest : at_rest s.runs ≡ true = and_right (nat_lt pass x.passes) (at_rest s.runs) last.fit in
    let start : start_of (next_opening x rolled) ≡ rolled = subst (λ t. start_of (next_opening x t) ≡ t) (sym is) (rolled_state needs x s pass (passes_len needs x old) rest) in
    legal_both needs x (start_of x) (old ++ e ∷ []) new legal
    (subst (λ t. LegalFrom needs x t new) start (legal_next needs x rolled (start_of (next_opening x rolled)) new next))
