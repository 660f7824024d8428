-- What each operation does, by what its parts did.
use Rattle.std.proofs.Common.{◌≡◌, ℕ, ◌+◌, ◌-◌, ◌^◌, ◌<◌, ◌≤◌, true, min, List, length, set, Option, Some, None, refl, sym, ap, subst, ◌∙◌, arith, if◌then◌else◌}
use Rattle.std.specs.Prelude.{nat_le}
use Rattle.source_tree.specs.declared.file.File.{File}
use Rattle.pg_value.specs.Datum.{Datum}
use Rattle.site_words.specs.declared.words.AppStep.{AppStep}
use Rattle.site_words.specs.declared.words.Entry.{Entry}
use Rattle.site_words.specs.declared.words.Op.{Op}
use Rattle.site_words.specs.declared.words.Op.TheVariants as op
use Rattle.site_words.specs.declared.words.Opening.{Opening}
use Rattle.site_words.specs.declared.words.Reply.{Reply}
use Rattle.site_words.specs.declared.words.Reply.TheVariants as reply
use Rattle.site_words.specs.App.{app_reply, app_step}
use Rattle.site_words.specs.Runs.{UnderWay, run_at, seated, spent, tree_in, under_at}
use Rattle.site_words.specs.Step.{refusal_of, reply_to}
use Rattle.site_words.specs.Trees.{Needs}
use Rattle.site_words.specs.Weights.{capped, most_cookie, op_weight, weight_held, weight_with}
use Rattle.site_words.proofs.Items.{le_of, to_lt}
use Rattle.site_state.specs.declared.gift.Done.{Done}
use Rattle.site_state.specs.Gifts.{FitsGift}
use Rattle.site_state.specs.Parts.{Parts, state_of}
use Rattle.site_state.specs.Sources.{AreThere}
use Rattle.site_state.specs.Works.{AreKept, IsDone, Moves, entry_of}
use Rattle.site_state.proofs.AttributeLemmas.{there_later}
use Rattle.site_state.proofs.Moving.{MovesParts, moves_by}

-- a claim that leaves the weight below 2^64 is as it stands
pub claim_is : (weight w n : ℕ) → w ≡ capped n → weight + n < 2 ^ 64 → w ≡ n
claim_is weight w n is room = omega arith

-- and the sum doesn't stop
pub sum_is : (weight sum w n : ℕ) → sum ≡ min (weight + w) (2 ^ 64 - 1) → w ≡ capped n → weight + n < 2 ^ 64 → sum ≡ weight + n
sum_is weight sum w n added is room = omega arith

-- a claim that 64 bits hold is there
pub held_claim : (w n : ℕ) → n < 2 ^ 64 → w ≡ capped n → Some w ≡ weight_held n
held_claim w n small is =
    let same : w ≡ n = omega arith in
    ap (λ (m : ℕ). Some m) same ∙ sym (ap (λ b. if b then Some n else None) (to_lt n (2 ^ 64) small))

-- a picture's claim is there, since its cookie is short
pub snapshot_claim : (w : ℕ) (cookie : List ℕ) → nat_le (length cookie) most_cookie ≡ true → w ≡ capped (op_weight (op.Snapshot cookie)) → Some w ≡ weight_held (op_weight (op.Snapshot cookie))
snapshot_claim w cookie short is =
    let few : length cookie ≤ most_cookie = le_of (length cookie) most_cookie short in
    let small : op_weight (op.Snapshot cookie) < 2 ^ 64 = omega arith in
    held_claim w (op_weight (op.Snapshot cookie)) small is

-- nor does the sum of a claim that is as it stands
pub sum_held : (weight sum w n : ℕ) → sum ≡ min (weight + w) (2 ^ 64 - 1) → w ≡ n → weight + n < 2 ^ 64 → sum ≡ weight + n
sum_held weight sum w n added is room = omega arith

-- the same where the reply weighs nothing
pub claim_alone : (weight w n : ℕ) → w ≡ capped n → weight + (n + 0) < 2 ^ 64 → w ≡ n
claim_alone weight w n is room = omega arith

pub sum_alone : (weight sum w n : ℕ) → sum ≡ min (weight + w) (2 ^ 64 - 1) → w ≡ capped n → weight + (n + 0) < 2 ^ 64 → sum ≡ weight + (n + 0)
sum_alone weight sum w n added is room = omega arith

module _ {P : Type 0} (needs : Needs) (made : P → List File → List ℕ → Type 0) where
  -- it is done with this reply
  pub done_by : (x : Opening) (history : List Entry) (old new : Parts P) (pass : ℕ) (o : Op) (r : Reply) (done : Done P) → refusal_of needs x (state_of x history old) pass o ≡ None
      → r ≡ reply_to needs x (state_of x history old) pass o → done.reply ≡ r → done.given.reply ≡ r → FitsGift made x (state_of x history old) pass o r done.given.gift
      → MovesParts needs made x (length history) old new pass o r → (AreThere (length history) old.sessions → AreThere (length history + 1) new.sessions)
      → (AreKept made old.tree old.kept → AreKept made new.tree new.kept) → IsDone needs made x history old new pass o done
  done_by x history old new pass o r done none is told given gift parts there kept = record {
    allowed = none;
    reply_is = told ∙ is;
    same = given ∙ sym told;
    gift = subst (λ r. FitsGift made x (state_of x history old) pass o r done.given.gift) (sym given) gift;
    moves = subst (λ r. Moves needs made x (length history) old new (entry_of pass o r)) (sym told) (moves_by needs made x (length history) old new pass o r parts there kept);
  }

  -- a step on the application's attributes
  pub app_done : (x : Opening) (history : List Entry) (old new : Parts P) (pass request w sum : ℕ) (step : AppStep) (done : Done P) (app : List (List ℕ × Datum)) (runs : List (Option UnderWay))
      → new ≡ record old { app = app; runs = runs; weight = sum }
      → app ≡ app_step old.app step → runs ≡ set old.runs pass (seated (spent w (run_at old.runs pass)) (tree_in (under_at old.runs pass))) → sum ≡ min (old.weight + w) (2 ^ 64 - 1)
      → w ≡ capped (weight_with (op.App request step) (reply.App (app_reply old.app step))) → old.weight + weight_with (op.App request step) (reply.App (app_reply old.app step)) < 2 ^ 64
      → done.reply ≡ reply.App (app_reply old.app step) → done.given.reply ≡ reply.App (app_reply old.app step)
      → IsDone needs made x history old new pass (op.App request step) done
  app_done x history old new pass request w sum step done app runs is app_is runs_are added claim room told given =
      subst (λ (n : Parts P). IsDone needs made x history old n pass (op.App request step) done) (sym is)
      (done_by x history old (record old { app = app; runs = runs; weight = sum }) pass (op.App request step) (reply.App (app_reply old.app step)) done refl refl told given tt
      (record {
        tree = refl;
        version = refl;
        app = app_is;
        sessions = λ h at. refl;
        runs = runs_are ∙ ap (λ n. set old.runs pass (seated (spent n (run_at old.runs pass)) (tree_in (under_at old.runs pass)))) (claim_is old.weight w (weight_with (op.App request step) (reply.App (app_reply old.app step))) claim room);
        begins = refl;
        freshes = refl;
        moment = refl;
        ready = refl;
        weight = sum_is old.weight sum w (weight_with (op.App request step) (reply.App (app_reply old.app step))) added claim room;
      })
      (there_later (length history) old.sessions) (λ all. all))
