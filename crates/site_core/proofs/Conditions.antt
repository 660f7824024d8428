-- What an operation that a pass may ask for can rely on.
use Rattle.std.proofs.Common.{◌≡◌, ◌≢◌, ℕ, zero, suc, ◌+◌, ◌-◌, ◌*◌, ◌<◌, ◌≤◌, ◌^◌, true, false, List, [], ◌∷◌, ◌++◌, length, Option, Some, None, refl, sym, ap, subst, ◌∙◌, arith}
use Rattle.std.specs.Prelude.{◌&&◌, ◌||◌, ◌==◌, nat_lt, nat_le, slice_get, slice_index_or}
use Rattle.pg_text.specs.Names.{AreInOrder}
use Rattle.source_tree.specs.declared.edit.Edit.{Edit}
use Rattle.source_tree.specs.declared.file.File.{File}
use Rattle.source_tree.specs.Edits.{after_edits}
use Rattle.site_words.specs.declared.words.Entry.{Entry}
use Rattle.site_words.specs.declared.words.KeptSession.{KeptSession}
use Rattle.site_words.specs.declared.words.Op.{Op}
use Rattle.site_words.specs.declared.words.Op.TheVariants as op
use Rattle.site_words.specs.declared.words.Opening.{Opening}
use Rattle.site_words.specs.declared.words.Reply.{Reply}
use Rattle.site_words.specs.Fits.{asks, finds, rests}
use Rattle.site_words.specs.Invariants.{HasTree, HeldIn, has_number}
use Rattle.site_words.specs.Law.{Finds, Legal, May, latest_of, own, run_of, trees_of}
use Rattle.site_words.specs.Opening.{are_distinct, is_sound, sound_app, sound_counts, sound_sessions, sound_tree}
use Rattle.site_words.specs.Runs.{UnderWay, promised, run_at, run_in, session_in, tree_in, under_at}
use Rattle.site_words.specs.Sessions.{most_sessions}
use Rattle.site_words.specs.State.{State, after, start_of}
use Rattle.site_words.specs.Step.{refusal_of, reply_to, stepped}
use Rattle.site_words.specs.Trees.{Needs, OneHistory}
use Rattle.site_words.specs.Weights.{weight_with}
use Rattle.site_words.proofs.Items.{and_left, and_right, each_at, le_of, lt_of}
use Rattle.site_words.proofs.Legal.{after_push, legal_push, may_fits, passes_len}
use Rattle.site_words.proofs.Good.{not_there, sessions_good}
use Rattle.site_words.proofs.OneHistory.{one_history, opening_one}
use Rattle.site_words.proofs.Promise.{within}
use Rattle.site_words.proofs.RunTree.{of_run_tree}
use Rattle.site_words.proofs.Sound.{ready_in_order}
use Rattle.site_words.proofs.StoreLaw.{one_at, one_edited}
use Rattle.site_words.proofs.Trees.{trees_are}
use Rattle.site_state.specs.declared.session.Session.{Session}
use Rattle.site_state.specs.Conditions.{CanGrow, CanWork}
use Rattle.site_state.specs.Gifts.{IsMade, IsMadeHere}
use Rattle.site_state.specs.Parts.{Parts, state_of}
use Rattle.site_state.specs.ReadSessions.{has_named}
use Rattle.site_state.specs.Sources.{sessions_of}
use Rattle.site_state.specs.Works.{entry_of}
use Rattle.site_core.specs.ReadSite.{IsSite}
use Rattle.site_core.proofs.Counts.{counts_up, weight_is}

-- the parts of a sound opening

pub record IsOpened (x : Opening) : Type 0 where
  pub some : 1 ≤ x.passes
  pub few : x.passes ≤ 64
  pub version : x.version < 2 ^ 63
  pub begins : x.begins < 2 ^ 63
  pub freshes : x.freshes < 2 ^ 63
  pub tree : sound_tree x ≡ true
  pub app : sound_app x ≡ true
  pub sessions : sound_sessions x ≡ true

pub opened : (x : Opening) → is_sound x ≡ true → IsOpened x
opened x sound =
    let counts : sound_counts x ≡ true = and_left (sound_counts x) (sound_tree x && (sound_app x && sound_sessions x)) sound in
    let rest : (sound_tree x && (sound_app x && sound_sessions x)) ≡ true = and_right (sound_counts x) (sound_tree x && (sound_app x && sound_sessions x)) sound in
    let rest_2 : (sound_app x && sound_sessions x) ≡ true = and_right (sound_tree x) (sound_app x && sound_sessions x) rest in
    let c1 = and_right (nat_le 1 x.passes) (nat_le x.passes 64 && (nat_lt x.version (2 ^ 63) && (nat_lt x.begins (2 ^ 63) && nat_lt x.freshes (2 ^ 63)))) counts in
    let c2 = and_right (nat_le x.passes 64) (nat_lt x.version (2 ^ 63) && (nat_lt x.begins (2 ^ 63) && nat_lt x.freshes (2 ^ 63))) c1 in
    let c3 = and_right (nat_lt x.version (2 ^ 63)) (nat_lt x.begins (2 ^ 63) && nat_lt x.freshes (2 ^ 63)) c2 in
    record {
      some = le_of 1 x.passes (and_left (nat_le 1 x.passes) (nat_le x.passes 64 && (nat_lt x.version (2 ^ 63) && (nat_lt x.begins (2 ^ 63) && nat_lt x.freshes (2 ^ 63)))) counts);
      few = le_of x.passes 64 (and_left (nat_le x.passes 64) (nat_lt x.version (2 ^ 63) && (nat_lt x.begins (2 ^ 63) && nat_lt x.freshes (2 ^ 63))) c1);
      version = lt_of x.version (2 ^ 63) (and_left (nat_lt x.version (2 ^ 63)) (nat_lt x.begins (2 ^ 63) && nat_lt x.freshes (2 ^ 63)) c2);
      begins = lt_of x.begins (2 ^ 63) (and_left (nat_lt x.begins (2 ^ 63)) (nat_lt x.freshes (2 ^ 63)) c3);
      freshes = lt_of x.freshes (2 ^ 63) (and_right (nat_lt x.begins (2 ^ 63)) (nat_lt x.freshes (2 ^ 63)) c3);
      tree = and_left (sound_tree x) (sound_app x && sound_sessions x) rest;
      app = and_left (sound_app x) (sound_sessions x) rest_2;
      sessions = and_right (sound_app x) (sound_sessions x) rest_2;
    }

-- what a state after a legal history gives an operation that a pass may ask for
pub record CanStep (needs : Needs) (x : Opening) (s : State) (pass : ℕ) (o : Op) : Type 0 where
  pub within : pass < length s.runs
  pub asks : asks (run_at s.runs pass) o ≡ true
  pub finds : finds (under_at s.runs pass) o ≡ true
  pub total : s.weight + promised s.runs ≤ x.limit
  pub version : CanGrow s.version
  pub begins : CanGrow s.begins
  pub freshes : CanGrow s.freshes
  pub room : refusal_of needs x s pass o ≡ None → s.weight + weight_with o (reply_to needs x s pass o) < 2 ^ 64
  pub older : OneHistory s.tree (tree_in (under_at s.runs pass))
  pub later : OneHistory (tree_in (under_at s.runs pass)) s.tree
  pub next : (edits : List Edit) → OneHistory s.tree (after_edits edits (s.version + 1) s.tree)
  pub held : (number : ℕ) → session_in (run_at s.runs pass) ≡ Some number → has_number number s.sessions ≡ true
  pub unused : has_number s.freshes s.sessions ≡ false

past : {A : Type 0} (xs : List A) (i : ℕ) (d : A) → length xs ≤ i → slice_index_or xs i d ≡ d
past [] i d h = refl
past (x ∷ xs) zero d h = absurd (omega arith)
past (x ∷ xs) (suc i) d h = past xs i d (omega arith)

get_index : {A : Type 0} (xs : List A) (i : ℕ) (a d : A) → slice_get xs i ≡ Some a → slice_index_or xs i d ≡ a
get_index [] i a d h = absurd (cc)
get_index (x ∷ xs) zero a d h = cc
get_index (x ∷ xs) (suc i) a d h = get_index xs i a d h

-- the request's tree is one of the published ones
tree_place : (version : ℕ) (trees : List (List File)) (under : Option UnderWay) → HasTree version trees under → (j : ℕ) × (slice_index_or trees j [] ≡ tree_in under)
tree_place version trees None has = (length trees, past trees (length trees) [] (omega arith))
tree_place version trees (Some under) has = (under.run.version - version, get_index trees (under.run.version - version) under.tree [] has.1)

-- an operation that isn't refused is followed by a legal history
pub follows : (needs : Needs) (x : Opening) (history : List Entry) (pass : ℕ) (o : Op) → Legal needs x history → May x history pass (own pass history) o → refusal_of needs x (after needs x history) pass o ≡ None
    → Legal needs x (history ++ entry_of pass o (reply_to needs x (after needs x history) pass o) ∷ [])
follows needs x history pass o legal may none =
    legal_push needs x history (entry_of pass o (reply_to needs x (after needs x history) pass o)) legal
    (record { fit = may_fits needs x history pass o legal may; did = ap (λ refusal. stepped refusal (reply_to needs x (after needs x history) pass o)) none })

pub not_roll : (x : Opening) (history : List Entry) (pass : ℕ) (entries : List (ℕ × Entry)) (o : Op) → May x history pass entries o → o ≢ op.Roll
not_roll x history pass entries o may is = subst (λ o. Finds x.version (trees_of x history) (run_of entries) o) is may.2

pub can_step : (needs : Needs) (x : Opening) (history : List Entry) (pass : ℕ) (o : Op) → is_sound x ≡ true → x.limit < 2 ^ 64 → Legal needs x history → 64 * length history ≤ (after needs x history).weight → May x history pass (own pass history) o
    → CanStep needs x (after needs x history) pass o
can_step needs x history pass o can limit legal short may =
    let s : State = after needs x history in
    let start_x = opened x can in
    let fit = may_fits needs x history pass o legal may in
    let fit_1 = and_right (nat_lt pass x.passes) (asks (run_at s.runs pass) o && (finds (under_at s.runs pass) o && rests s.runs o)) fit in
    let fit_2 = and_right (asks (run_at s.runs pass) o) (finds (under_at s.runs pass) o && rests s.runs o) fit_1 in
    let fair = within needs x history start_x.app legal in
    let good = sessions_good needs x history start_x.few start_x.sessions legal in
    let ups = counts_up needs x (start_of x) history in
    let trees = trees_are needs x history legal in
    let one = one_history x history (opening_one x.version x.tree (and_right _ _ start_x.tree)) in
    let place = tree_place x.version (trees_of x history) (under_at s.runs pass) (each_at (HasTree x.version (trees_of x history)) s.runs pass None tt trees.bases) in
    let older : OneHistory s.tree (tree_in (under_at s.runs pass)) =
    subst (λ t. OneHistory t (tree_in (under_at s.runs pass))) (sym trees.latest)
    (subst (λ t. OneHistory (latest_of (trees_of x history)) t) place.1 (one_at (x.version + length (trees_of x history)) (trees_of x history) (length (trees_of x history) - 1) place.0 one)) in
    let later : OneHistory (tree_in (under_at s.runs pass)) s.tree =
    subst (λ t. OneHistory (tree_in (under_at s.runs pass)) t) (sym trees.latest)
    (subst (λ t. OneHistory t (latest_of (trees_of x history))) place.1 (one_at (x.version + length (trees_of x history)) (trees_of x history) place.0 (length (trees_of x history) - 1) one)) in
    record {
      within = subst (λ n. pass < n) (sym (passes_len needs x history)) may.0;
      asks = and_left (asks (run_at s.runs pass) o) (finds (under_at s.runs pass) o && rests s.runs o) fit_1;
      finds = and_left (finds (under_at s.runs pass) o) (rests s.runs o) fit_2;
      total = fair.total;
      version = small s.weight (promised s.runs) x.limit (length history) x.version s.version short fair.total limit start_x.version ups.version;
      begins = small s.weight (promised s.runs) x.limit (length history) x.begins s.begins short fair.total limit start_x.begins ups.begins;
      freshes = small s.weight (promised s.runs) x.limit (length history) x.freshes s.freshes short fair.total limit start_x.freshes ups.freshes;
      room = λ none.
          let r : Reply = reply_to needs x s pass o in
          let e : Entry = entry_of pass o r in
          let later_legal = follows needs x history pass o legal may none in
          let later_fair = within needs x (history ++ e ∷ []) start_x.app later_legal in
          let weight : (after needs x (history ++ e ∷ [])).weight ≡ s.weight + weight_with o r = ap (λ (t : State). t.weight) (after_push needs x history e) ∙ weight_is s.weight o r (not_roll x history pass (own pass history) o may) in
          roomy (after needs x (history ++ e ∷ [])).weight (promised (after needs x (history ++ e ∷ [])).runs) (s.weight + weight_with o r) x.limit later_fair.total limit weight;
      older = older;
      later = later;
      next = λ edits.
          subst (λ n. OneHistory s.tree (after_edits edits n s.tree)) (sym trees.count)
          (subst (λ t. OneHistory t (after_edits edits (x.version + length (trees_of x history)) t)) (sym trees.latest) (one_edited (x.version + length (trees_of x history)) (trees_of x history) edits one));
      held = λ number is.
          subst (λ n. HeldIn s.sessions n) is (each_at (λ (under : Option UnderWay). HeldIn s.sessions (session_in (run_in under))) s.runs pass None tt good.good.held);
      unused = not_there s.freshes s.moment s.sessions good.good.each;
    }
  where
    small : (weight promises limit entries first count : ℕ) → 64 * entries ≤ weight → weight + promises ≤ limit → limit < 2 ^ 64 → first < 2 ^ 63 → count ≤ first + entries → CanGrow count
    small weight promises limit entries first count short fair least start up = omega arith

    roomy : (weight promises sum limit : ℕ) → weight + promises ≤ limit → limit < 2 ^ 64 → weight ≡ sum → sum < 2 ^ 64
    roomy weight promises sum limit fair least is = omega arith

-- the sessions with their attributes have the same numbers
named_has : (number : ℕ) (opened_sessions : List KeptSession) (history : List Entry) (sessions : List Session) → has_number number (sessions_of opened_sessions history sessions) ≡ has_named number sessions
named_has number kept history [] = refl
named_has number kept history (session ∷ sessions) = ap (λ b. (session.number == number) || b) (named_has number kept history sessions)

module _ {P : Type 0} (needs : Needs) (made : P → List File → List ℕ → Type 0) where
  value_here : (x : Opening) (history : List Entry) (pass : ℕ) (o : Op) (v : Option P) → Legal needs x history → pass < x.passes → IsMade made x history (run_of (own pass history)) o v
      → IsMadeHere made (under_at (after needs x history).runs pass) o v
  value_here x history pass (op.Offer request path) None legal below is = absurd is
  value_here x history pass (op.Offer request path) (Some v) legal below is = of_run_tree needs x history pass (λ tree. made v tree path) legal below is
  value_here x history pass (op.Publish base edits) v legal below is = tt
  value_here x history pass (op.Begin cookie moment) v legal below is = tt
  value_here x history pass (op.App request st) v legal below is = tt
  value_here x history pass (op.Fresh request) v legal below is = tt
  value_here x history pass (op.Fetch request path) v legal below is = tt
  value_here x history pass (op.End request attrs) v legal below is = tt
  value_here x history pass (op.Abandon request) v legal below is = tt
  value_here x history pass (op.Snapshot cookie) v legal below is = tt
  value_here x history pass op.Roll v legal below is = tt

  pub can_work : (x : Opening) (history : List Entry) (parts : Parts P) (room pass : ℕ) (o : Op) (v : Option P) → IsSite needs made x history parts room → May x history pass (own pass history) o
      → IsMade made x history (run_of (own pass history)) o v → CanWork needs made x history parts pass o v
  can_work x history parts room pass o v site may is =
      let short : 64 * length history ≤ (after needs x history).weight = subst (λ (s : State). 64 * length history ≤ s.weight) site.state site.short in
      let step : CanStep needs x (state_of x history parts) pass o = subst (λ (s : State). CanStep needs x s pass o) (sym site.state) (can_step needs x history pass o site.sound site.limit site.legal short may) in
      record {
        within = step.within;
        asks = step.asks;
        finds = step.finds;
        goes_on = not_roll x history pass (own pass history) o may;
        value = subst (λ (s : State). IsMadeHere made (under_at s.runs pass) o v) (sym site.state) (value_here x history pass o v site.legal may.0 is);
        total = step.total;
        version = step.version;
        begins = step.begins;
        freshes = step.freshes;
        room = step.room;
        kept = site.kept;
        order = subst (λ (s : State). AreInOrder s.ready) (sym site.state) (ready_in_order needs x history);
        older = step.older;
        later = step.later;
        next = step.next;
        held = λ number is. sym (named_has number x.sessions history parts.sessions) ∙ step.held number is;
        unused = sym (named_has parts.freshes x.sessions history parts.sessions) ∙ step.unused;
      }

-- no two sessions of a sound opening have one number
pub opened_apart : (x : Opening) → is_sound x ≡ true → are_distinct x.sessions ≡ true
opened_apart x can = and_left (are_distinct x.sessions) _ (and_right (nat_le (length x.sessions) most_sessions) _ (opened x can).sessions)
