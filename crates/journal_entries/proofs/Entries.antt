-- An entry that is done again.
use Rattle.std.proofs.Common.{◌≡◌, ◌≢◌, ℕ, ◌<◌, Bool, true, false, List, [], ◌∷◌, ◌++◌, length, Option, refl, sym, ap, subst, ◌∙◌}
use Rattle.std.specs.Prelude.{◌&&◌, nat_lt}
use Rattle.std.specs.Bool.{Decides}
use Rattle.edges.specs.declared.acted.Acted.TheVariants.{Did, Refused}
use Rattle.site_core.specs.Applies.{Replies}
use Rattle.site_core.specs.Lived.{Lived, with_entry}
use Rattle.site_journal.specs.Reading.{is_roll}
use Rattle.site_state.specs.declared.gift.Given.{Given}
use Rattle.site_words.proofs.Items.{and_both, and_left, and_right, lt_of}
use Rattle.site_words.proofs.Legal.{after_push, passes_len}
use Rattle.site_words.proofs.Sound.{tree_good}
use Rattle.site_words.specs.Fits.{asks, finds, fits, rests}
use Rattle.site_words.specs.Law.{Follows, Legal}
use Rattle.site_words.specs.Opening.{is_sound, sound_app, sound_counts, sound_sessions, sound_tree}
use Rattle.site_words.specs.Runs.{run_at, under_at}
use Rattle.site_words.specs.State.{State, after, moved}
use Rattle.site_words.specs.Step.{step}
use Rattle.site_words.specs.Trees.{Needs}
use Rattle.site_words.specs.declared.words.Entry.{Entry}
use Rattle.site_words.specs.declared.words.Op.{Op}
use Rattle.site_words.specs.declared.words.Op.TheVariants as op
use Rattle.site_words.specs.declared.words.Opening.{Opening}
use Rattle.site_words.specs.declared.words.Refusal.{Refusal}
use Rattle.site_words.specs.declared.words.Reply.{Reply}
use Rattle.site_words.specs.declared.words.Reply.TheVariants as reply
use Rattle.source_tree.specs.Limits.{IsWithinLimits}
use Rattle.source_tree.specs.declared.file.File.{File}
use Rattle.journal_entries.proofs.KeptBases.{bases_long, bases_on}
use Rattle.journal_entries.specs.Bases.{AreBases, base_in, bases_with, is_begin}

abbrev pub entry_of : ℕ → Op → Reply → Entry
entry_of pass o r = record { pass = pass; op = o; reply = r }

-- what is no Roll isn't the operation of one
pub no_roll : (e : Entry) → is_roll e ≡ false → e.op ≢ op.Roll
no_roll e acts is = absurd (let roll : is_roll (record { pass = e.pass; op = op.Roll; reply = e.reply }) ≡ false = subst (λ o. is_roll (record { pass = e.pass; op = o; reply = e.reply }) ≡ false) is acts in cc)

pub within : (x : Opening) (s : State) (pass : ℕ) (o : Op) → fits x s pass o ≡ true → pass < x.passes
within x s pass o fit = lt_of pass x.passes (and_left (nat_lt pass x.passes) (asks (run_at s.runs pass) o && (finds (under_at s.runs pass) o && rests s.runs o)) fit)

-- there is a place for the tree of the pass
pub has_place : (needs : Needs) (x : Opening) (history : List Entry) (bases : List (Option (List File))) (pass : ℕ) (o : Op) → fits x (after needs x history) pass o ≡ true → AreBases (after needs x history).runs bases → pass < length bases
has_place needs x history bases pass o fit are =
    subst (λ n. pass < n) (sym (bases_long (after needs x history).runs bases are ∙ passes_len needs x history)) (within x (after needs x history) pass o fit)

-- the latest tree keeps its limits
pub latest_within : (needs : Needs) (x : Opening) (history : List Entry) → is_sound x ≡ true → Legal needs x history → IsWithinLimits (after needs x history).tree
latest_within needs x history sound legal =
    let rest = and_right (sound_counts x) (sound_tree x && (sound_app x && sound_sessions x)) sound in
    (tree_good needs x history (and_left (sound_tree x) (sound_app x && sound_sessions x) rest) legal).limits

pub never_fits : (needs : Needs) (x : Opening) (s : State) (e : Entry) → fits x s e.pass e.op ≡ false → Decides false (Follows needs x s e)
never_fits needs x s e none = (λ is. absurd (cc), λ follows. absurd (let fit : fits x s e.pass e.op ≡ true = follows.fit in cc))

pub never_did : (needs : Needs) (x : Opening) (s : State) (e : Entry) (refusal : Refusal) → step needs x s e.pass e.op ≡ Refused refusal → Decides false (Follows needs x s e)
never_did needs x s e refusal refused = (λ is. absurd (cc), λ follows. absurd (let did : step needs x s e.pass e.op ≡ Did e.reply = follows.did in cc))

-- the entry follows exactly where the reply that was given is its own
pub did_so : (needs : Needs) (x : Opening) (s : State) (e : Entry) (given : Reply) (same : Bool) → fits x s e.pass e.op ≡ true → step needs x s e.pass e.op ≡ Did given → Decides same (given ≡ e.reply) → Decides same (Follows needs x s e)
did_so needs x s e given same fit did is = (
  λ yes. let one : given ≡ e.reply = is.0 yes in record { fit = fit; did = did ∙ ap (λ r. Did r) one },
  λ follows. is.1 (let also : step needs x s e.pass e.op ≡ Did e.reply = follows.did in cc),
)

-- the site has the entry more
pub has_done : (old new : Lived) (pass : ℕ) (o : Op) (given mine : Reply) → new ≡ with_entry old pass o given → given ≡ mine → new.history ≡ old.history ++ entry_of pass o mine ∷ []
has_done old new pass o given mine is same = ap (λ (l : Lived). l.history) is ∙ ap (λ r. old.history ++ entry_of pass o r ∷ []) same

module _ {P : Type 0} (needs : Needs) (made : P → List File → List ℕ → Type 0) where
  -- and the trees are kept
  pub keeps_bases : (old new : Lived) (pass : ℕ) (o : Op) (given : Given P) (bases : List (Option (List File))) → is_sound old.opening ≡ true → Legal needs old.opening old.history
      → Replies needs made old.opening old.history pass o given → new ≡ with_entry old pass o given.reply → AreBases (after needs old.opening old.history).runs bases
      → AreBases (after needs new.opening new.history).runs (bases_with (is_begin o) (base_in given.gift) pass bases)
  keeps_bases old new pass o given bases sound legal replies is are =
      let s : State = after needs old.opening old.history in
      let e : Entry = entry_of pass o given.reply in
      let state : after needs old.opening (old.history ++ e ∷ []) ≡ moved needs old.opening s e = after_push needs old.opening old.history e in
      subst (λ (l : Lived). AreBases (after needs l.opening l.history).runs (bases_with (is_begin o) (base_in given.gift) pass bases)) (sym is)
      (subst (λ (t : State). AreBases t.runs (bases_with (is_begin o) (base_in given.gift) pass bases)) (sym state)
      (bases_on made old.opening s pass bases o given.reply given.gift are (latest_within needs old.opening old.history sound legal) replies.gift))

-- a Roll

roll_is : (o : Op) (pass : ℕ) (r : Reply) → is_roll (entry_of pass o r) ≡ true → o ≡ op.Roll
roll_is (op.Publish base edits) pass r is = absurd (cc)
roll_is (op.Begin cookie moment) pass r is = absurd (cc)
roll_is (op.App request st) pass r is = absurd (cc)
roll_is (op.Fresh request) pass r is = absurd (cc)
roll_is (op.Fetch request path) pass r is = absurd (cc)
roll_is (op.Offer request path) pass r is = absurd (cc)
roll_is (op.End request attrs) pass r is = absurd (cc)
roll_is (op.Abandon request) pass r is = absurd (cc)
roll_is (op.Snapshot cookie) pass r is = absurd (cc)
roll_is op.Roll pass r is = refl

roll_did : (needs : Needs) (x : Opening) (s : State) (e : Entry) → is_roll e ≡ true → step needs x s e.pass e.op ≡ Did reply.Rolled
roll_did needs x s e is = subst (λ o. step needs x s e.pass o ≡ Did reply.Rolled) (sym (roll_is e.op e.pass e.reply is)) refl

-- a Roll follows exactly where it fits, and has its reply
pub roll_follows : (needs : Needs) (x : Opening) (s : State) (e : Entry) (same : Bool) → is_roll e ≡ true → Decides same (e.reply ≡ reply.Rolled) → Decides (fits x s e.pass e.op && same) (Follows needs x s e)
roll_follows needs x s e same is decides = (
  λ yes. record {
    fit = and_left (fits x s e.pass e.op) same yes;
    did = roll_did needs x s e is ∙ ap (λ r. Did r) (sym (decides.0 (and_right (fits x s e.pass e.op) same yes)));
  },
  λ follows. and_both (fits x s e.pass e.op) same follows.fit (decides.1 (let did : step needs x s e.pass e.op ≡ Did e.reply = follows.did in let rolled = roll_did needs x s e is in cc)),
)
