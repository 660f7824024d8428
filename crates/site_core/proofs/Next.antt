-- A site after one operation more.
use Rattle.std.proofs.Common.{◌≡◌, ◌≢◌, ℕ, zero, suc, ◌+◌, ◌-◌, ◌*◌, ◌^◌, ◌<◌, ◌≤◌, Bool, true, false, List, [], ◌∷◌, ◌++◌, length, map, replicate, set, Option, Some, None, refl, sym, ap, subst, ◌∙◌, arith}
use Rattle.std.specs.Prelude.{slice_get, if◌then◌else◌}
use Rattle.std.proofs.lemmas.List.{length_push}
use Rattle.source_tree.specs.declared.file.File.{File}
use Rattle.edges.specs.declared.acted.Acted.TheVariants.{Did, Refused}
use Rattle.packed_entries.specs.Kinds.{stands_apart}
use Rattle.site_words.specs.declared.words.Entry.{Entry}
use Rattle.site_words.specs.declared.words.Op.{Op}
use Rattle.site_words.specs.declared.words.Op.TheVariants as op
use Rattle.site_words.specs.declared.words.Opening.{Opening}
use Rattle.site_words.specs.declared.words.Refusal.{Refusal}
use Rattle.site_words.specs.declared.words.Reply.{Reply}
use Rattle.site_words.specs.Fits.{asks}
use Rattle.site_words.specs.Law.{Legal, May, Sure, own}
use Rattle.site_words.specs.Opening.{is_sound}
use Rattle.site_words.specs.Runs.{UnderWay, run_at, run_in, under_after, under_at}
use Rattle.site_words.specs.State.{State, after, moved, start_of}
use Rattle.site_words.specs.Step.{refusal_of, reply_to, step, stepped}
use Rattle.site_words.specs.Trees.{Needs}
use Rattle.site_words.specs.Weights.{weight_with}
use Rattle.site_words.proofs.Legal.{after_push, passes_len}
use Rattle.site_words.proofs.Promise.{within}
use Rattle.site_state.specs.declared.gift.Done.{Done}
use Rattle.site_state.specs.declared.gift.Given.{Given}
use Rattle.site_state.specs.Gifts.{FitsGift}
use Rattle.site_state.specs.Parts.{Parts, state_of}
use Rattle.site_state.specs.Sources.{AreThere}
use Rattle.site_state.specs.Spare.{growth, is_last, open_runs}
use Rattle.site_state.specs.Works.{AreKept, IsDone, entry_of}
use Rattle.site_state.proofs.AttributeLemmas.{same_attributes}
use Rattle.site_core.specs.Applies.{Applies, Replies}
use Rattle.site_core.specs.ReadSite.{IsSite}
use Rattle.site_core.proofs.Conditions.{CanStep, can_step, follows, not_roll, opened}
use Rattle.site_core.proofs.Counts.{weighs, weight_is}

last_place : {A : Type 0} (xs : List A) (a : A) → slice_get (xs ++ a ∷ []) (length xs) ≡ Some a
last_place [] a = refl
last_place (x ∷ xs) a = last_place xs a

-- the places that are kept free

pub is_open : Option UnderWay → ℕ
is_open None = 0
is_open (Some under) = 1

open_set : (runs : List (Option UnderWay)) (k : ℕ) (u : Option UnderWay) → k < length runs → open_runs (set runs k u) + is_open (under_at runs k) ≡ open_runs runs + is_open u
unfolding is_open
open_set [] k u h = absurd (omega arith)
open_set (None ∷ runs) zero None h = refl
open_set (None ∷ runs) zero (Some run) h = omega arith
open_set (Some old ∷ runs) zero None h = omega arith
open_set (Some old ∷ runs) zero (Some run) h = omega arith
open_set (None ∷ runs) (suc k) u h = open_set runs k u (omega arith)
open_set (Some old ∷ runs) (suc k) u h = let ih = open_set runs k u (omega arith) in omega arith

open_one : (u : Option UnderWay) → is_open u ≤ 1
unfolding is_open
open_one None = omega arith
open_one (Some under) = omega arith

-- a last operation closes a request that was under way
last_closes : (latest : List File) (under : Option UnderWay) (o : Op) (r : Reply) → is_last o ≡ true → asks (run_in under) o ≡ true → is_open (under_after latest under o r) + 1 ≡ is_open under
unfolding is_open
last_closes latest None (op.End request attrs) r last ask = absurd (cc)
last_closes latest (Some under) (op.End request attrs) r last ask = refl
last_closes latest None (op.Abandon request) r last ask = absurd (cc)
last_closes latest (Some under) (op.Abandon request) r last ask = refl
last_closes latest under (op.Publish base edits) r last ask = absurd (cc)
last_closes latest under (op.Begin cookie moment) r last ask = absurd (cc)
last_closes latest under (op.App request st) r last ask = absurd (cc)
last_closes latest under (op.Fresh request) r last ask = absurd (cc)
last_closes latest under (op.Fetch request path) r last ask = absurd (cc)
last_closes latest under (op.Offer request path) r last ask = absurd (cc)
last_closes latest under (op.Snapshot cookie) r last ask = absurd (cc)
last_closes latest under op.Roll r last ask = absurd (cc)

grown : (o : Op) (opened room : ℕ) → opened + growth o ≤ room → (is_last o ≡ true → opened ≤ room) × (is_last o ≡ false → opened + 2 ≤ room)
grown o opened room spare = go (is_last o) spare
  where
    go : (b : Bool) → opened + (if b then 0 else 2) ≤ room → (b ≡ true → opened ≤ room) × (b ≡ false → opened + 2 ≤ room)
    go true spare = (λ is. omega arith, λ is. absurd (cc))
    go false spare = (λ is. absurd (cc), λ is. omega arith)

-- there is room for the entry, and afterwards for the end of each request
pub record HasPlace (room opened : ℕ) : Type 0 where
  pub here : 0 < room
  pub after : opened ≤ room - 1

pub has_place : (latest : List File) (runs : List (Option UnderWay)) (pass room : ℕ) (o : Op) (r : Reply) → pass < length runs → asks (run_at runs pass) o ≡ true → open_runs runs + growth o ≤ room
    → HasPlace room (open_runs (set runs pass (under_after latest (under_at runs pass) o r)))
has_place latest runs pass room o r within ask spare = go (is_last o) refl
  where
    set_open : open_runs (set runs pass (under_after latest (under_at runs pass) o r)) + is_open (under_at runs pass) ≡ open_runs runs + is_open (under_after latest (under_at runs pass) o r)
    set_open = open_set runs pass (under_after latest (under_at runs pass) o r) within

    go : (b : Bool) → is_last o ≡ b → HasPlace room (open_runs (set runs pass (under_after latest (under_at runs pass) o r)))
    go true is =
        let room' : open_runs runs ≤ room = (grown o (open_runs runs) room spare).0 is in
        let closes = last_closes latest (under_at runs pass) o r is ask in
        let none = open_one (under_after latest (under_at runs pass) o r) in
        let before = open_one (under_at runs pass) in
        let same = set_open in
        record { here = omega arith; after = omega arith }
    go false is =
        let room' : open_runs runs + 2 ≤ room = (grown o (open_runs runs) room spare).1 is in
        let one = open_one (under_after latest (under_at runs pass) o r) in
        let same = set_open in
        record { here = omega arith; after = omega arith }

module _ {P : Type 0} (needs : Needs) (made : P → List File → List ℕ → Type 0) where
  -- the state that is held is as it was, read with one entry more
  longer : (x : Opening) (history more : List Entry) (parts : Parts P) → AreThere (length history) parts.sessions → state_of x (history ++ more) parts ≡ state_of x history parts
  longer x history more parts there = λ i. record {
    tree = parts.tree;
    version = parts.version;
    app = parts.app;
    sessions = same_attributes x.sessions history more parts.sessions there i;
    runs = parts.runs;
    begins = parts.begins;
    freshes = parts.freshes;
    moment = parts.moment;
    ready = map (λ (k : List ℕ × P). k.0) parts.kept;
    weight = parts.weight;
  }

  pub next_state : (x : Opening) (history : List Entry) (old new : Parts P) (room pass : ℕ) (o : Op) (done : Done P) → IsSite needs made x history old room → IsDone needs made x history old new pass o done
      → state_of x (history ++ entry_of pass o done.reply ∷ []) new ≡ moved needs x (after needs x history) (entry_of pass o done.reply)
  next_state x history old new room pass o done site is =
      let e : Entry = entry_of pass o done.reply in
      is.moves.state (history ++ e ∷ []) (last_place history e)
      ∙ ap (λ (s : State). moved needs x s e) (longer x history (e ∷ []) old site.there ∙ site.state)

  pub next : (x : Opening) (history : List Entry) (old new : Parts P) (room pass room' : ℕ) (o : Op) (done : Done P) → IsSite needs made x history old room → May x history pass (own pass history) o
      → IsDone needs made x history old new pass o done → open_runs old.runs + growth o ≤ room' → IsSite needs made x (history ++ entry_of pass o done.reply ∷ []) new (room' - 1)
  next x history old new room pass room' o done site may is spare =
      let e : Entry = entry_of pass o done.reply in
      let short : 64 * length history ≤ (after needs x history).weight = subst (λ (s : State). 64 * length history ≤ s.weight) site.state site.short in
      let can : CanStep needs x (state_of x history old) pass o = subst (λ (s : State). CanStep needs x s pass o) (sym site.state) (can_step needs x history pass o site.sound site.limit site.legal short may) in
      let none : refusal_of needs x (after needs x history) pass o ≡ None = subst (λ (s : State). refusal_of needs x s pass o ≡ None) site.state is.allowed in
      let told : done.reply ≡ reply_to needs x (after needs x history) pass o = subst (λ (s : State). done.reply ≡ reply_to needs x s pass o) site.state is.reply_is in
      let moves = next_state x history old new room pass o done site is in
      let runs : new.runs ≡ set old.runs pass (under_after old.tree (under_at old.runs pass) o done.reply) =
      ap (λ (s : State). s.runs) (moves ∙ ap (λ (s : State). moved needs x s e) (sym site.state)) in
      let weight : new.weight ≡ old.weight + weight_with o done.reply = ap (λ (s : State). s.weight) (moves ∙ ap (λ (s : State). moved needs x s e) (sym site.state)) ∙ weight_is old.weight o done.reply (not_roll x history pass (own pass history) o may) in
      let place = has_place old.tree old.runs pass room' o done.reply can.within can.asks spare in
      record {
        state = moves ∙ sym (after_push needs x history e);
        legal = subst (λ r. Legal needs x (history ++ entry_of pass o r ∷ [])) (sym told) (follows needs x history pass o site.legal may none);
        sound = site.sound;
        limit = site.limit;
        spare = subst (λ r. open_runs r ≤ room' - 1) (sym runs) place.after;
        there = subst (λ n. AreThere n new.sessions) (sym (length_push history e)) (is.moves.there site.there);
        short = short_of (length history) (length (history ++ e ∷ [])) old.weight new.weight o done.reply (length_push history e) site.short (not_roll x history pass (own pass history) o may) weight;
        kept = is.moves.kept site.kept;
      }
    where
      short_of : (n n' weight weight' : ℕ) (o : Op) (r : Reply) → n' ≡ n + 1 → 64 * n ≤ weight → o ≢ op.Roll → weight' ≡ weight + weight_with o r → 64 * n' ≤ weight'
      short_of n n' weight weight' o r grown short other is = let least = weighs o other in omega arith

  -- what is given is what the step says
  pub replies : (x : Opening) (history : List Entry) (old new : Parts P) (room pass : ℕ) (o : Op) (done : Done P) → IsSite needs made x history old room → IsDone needs made x history old new pass o done
      → Replies needs made x history pass o done.given
  replies x history old new room pass o done site is =
      let given_is : done.given.reply ≡ reply_to needs x (state_of x history old) pass o = is.same ∙ is.reply_is in
      let stepped_is : step needs x (state_of x history old) pass o ≡ Did done.given.reply = ap (λ refusal. stepped refusal (reply_to needs x (state_of x history old) pass o)) is.allowed ∙ ap (λ (r : Reply). Did r) (sym given_is) in
      record {
        stepped = subst (λ (s : State). step needs x s pass o ≡ Did done.given.reply) site.state stepped_is;
        gift = subst (λ (s : State). FitsGift made x s pass o done.given.reply done.given.gift) site.state is.gift;
        reply_is = given_is ∙ ap (λ (s : State). reply_to needs x s pass o) site.state;
      }

  -- where the entry came to the history, the operation was done as the step says
  pub did : (x : Opening) (history items : List Entry) (old new : Parts P) (room pass : ℕ) (o : Op) (done : Done P) (given : Given P) → IsSite needs made x history old room → IsDone needs made x history old new pass o done
      → given ≡ done.given → items ≡ history ++ entry_of pass o done.reply ∷ [] → Applies needs made (record { opening = x; history = history }) (record { opening = x; history = items }) pass o (Did given)
  did x history items old new room pass o done given site is given_is items_are =
      let told : items ≡ history ++ entry_of pass o done.given.reply ∷ [] = items_are ∙ ap (λ (r : Reply). history ++ entry_of pass o r ∷ []) (sym is.same) in
      subst (λ (g : Given P). Applies needs made (record { opening = x; history = history }) (record { opening = x; history = items }) pass o (Did g)) (sym given_is)
      (replies x history old new room pass o done site is, λ i. record { opening = x; history = told i })

  -- the site that the entry leaves
  pub entered : (x : Opening) (history items : List Entry) (old new : Parts P) (room room' pass : ℕ) (o : Op) (done : Done P) → IsSite needs made x history old room → May x history pass (own pass history) o
      → IsDone needs made x history old new pass o done → open_runs old.runs + growth o ≤ room → items ≡ history ++ entry_of pass o done.reply ∷ [] → room' ≡ room - 1 → IsSite needs made x items new room'
  entered x history items old new room room' pass o done site may is spare items_are room_is =
      subst (λ (h : List Entry). IsSite needs made x h new room') (sym items_are)
      (subst (λ (n : ℕ). IsSite needs made x (history ++ entry_of pass o done.reply ∷ []) new n) (sym room_is) (next x history old new room pass room o done site may is spare))

  -- a refusal is the step's
  pub refuses : (x : Opening) (history : List Entry) (old : Parts P) (room pass : ℕ) (o : Op) (refusal : Refusal) → IsSite needs made x history old room
      → refusal_of needs x (state_of x history old) pass o ≡ Some refusal → step needs x (after needs x history) pass o ≡ Refused refusal
  refuses x history old room pass o refusal site is =
      subst (λ (s : State). step needs x s pass o ≡ Refused refusal) site.state (ap (λ f. stepped f (reply_to needs x (state_of x history old) pass o)) is)

-- a sure operation is a last one
pub sure_last : (x : Opening) (history : List Entry) (pass : ℕ) (entries : List (ℕ × Entry)) (o : Op) → Sure x history pass entries o → is_last o ≡ true
sure_last x history pass entries (op.End request attrs) sure = refl
sure_last x history pass entries (op.Abandon request) sure = refl
sure_last x history pass entries (op.Publish base edits) sure = absurd sure
sure_last x history pass entries (op.Begin cookie moment) sure = absurd sure
sure_last x history pass entries (op.App request st) sure = absurd sure
sure_last x history pass entries (op.Fresh request) sure = absurd sure
sure_last x history pass entries (op.Fetch request path) sure = absurd sure
sure_last x history pass entries (op.Offer request path) sure = absurd sure
sure_last x history pass entries (op.Snapshot cookie) sure = absurd sure
sure_last x history pass entries op.Roll sure = absurd sure

-- and its entry needs no memory of its own
pub sure_slot : (x : Opening) (history : List Entry) (pass : ℕ) (entries : List (ℕ × Entry)) (o : Op) → Sure x history pass entries o → stands_apart o ≡ false
sure_slot x history pass entries (op.End request attrs) sure = refl
sure_slot x history pass entries (op.Abandon request) sure = refl
sure_slot x history pass entries (op.Publish base edits) sure = absurd sure
sure_slot x history pass entries (op.Begin cookie moment) sure = absurd sure
sure_slot x history pass entries (op.App request st) sure = absurd sure
sure_slot x history pass entries (op.Fresh request) sure = absurd sure
sure_slot x history pass entries (op.Fetch request path) sure = absurd sure
sure_slot x history pass entries (op.Offer request path) sure = absurd sure
sure_slot x history pass entries (op.Snapshot cookie) sure = absurd sure
sure_slot x history pass entries op.Roll sure = absurd sure

none_open : (n : ℕ) → open_runs (replicate n None) ≡ 0
none_open zero = refl
none_open (suc n) = none_open n

-- a site with an empty history
pub starts : {P : Type 0} (needs : Needs) (made : P → List File → List ℕ → Type 0) (x : Opening) (history : List Entry) (parts : Parts P) (room : ℕ) → is_sound x ≡ true → x.limit < 2 ^ 64 → history ≡ [] → state_of x [] parts ≡ start_of x → parts.kept ≡ []
    → AreThere 0 parts.sessions → IsSite needs made x history parts room
starts needs made x history parts room can limit none is empty there =
    subst (λ h. IsSite needs made x h parts room) (sym none)
    (record {
      state = is;
      legal = tt;
      sound = can;
      limit = limit;
      spare = let start_x = ap (λ (s : State). open_runs s.runs) is ∙ none_open x.passes in omega arith;
      there = there;
      short = omega arith;
      kept = subst (λ k. AreKept made parts.tree k) (sym empty) tt;
    })

-- the runs are few
pub few_runs : {P : Type 0} (needs : Needs) (made : P → List File → List ℕ → Type 0) (x : Opening) (history : List Entry) (parts : Parts P) (room : ℕ) → IsSite needs made x history parts room → length parts.runs < 2 ^ 10
few_runs needs made x history parts room site =
    let len_is = ap (λ (s : State). length s.runs) site.state ∙ passes_len needs x history in
    let few = (opened x site.sound).few in
    omega arith

-- the history is short
pub short_history : {P : Type 0} (needs : Needs) (made : P → List File → List ℕ → Type 0) (x : Opening) (history : List Entry) (parts : Parts P) (room : ℕ) → IsSite needs made x history parts room → length history < 2 ^ 63
short_history needs made x history parts room site =
    let start_x = opened x site.sound in
    let fair = within needs x history start_x.app site.legal in
    let weight : parts.weight ≡ (after needs x history).weight = ap (λ (s : State). s.weight) site.state in
    let limit = site.limit in
    let short = site.short in
    let total = fair.total in
    omega arith

-- the same site, where its history has room yet
pub still : {P : Type 0} (needs : Needs) (made : P → List File → List ℕ → Type 0) (x : Opening) (history history' : List Entry) (parts : Parts P) (room room' : ℕ) → IsSite needs made x history parts room → history' ≡ history
    → open_runs parts.runs ≤ room' → IsSite needs made x history' parts room'
still needs made x history history' parts room room' site same spare =
    subst (λ h. IsSite needs made x h parts room') (sym same)
    (record { state = site.state; legal = site.legal; sound = site.sound; limit = site.limit; spare = spare; there = site.there; short = site.short; kept = site.kept })
