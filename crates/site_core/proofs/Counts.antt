-- The counts of a state grow by one for an entry at most, and its weight by 64 at least.
use Rattle.std.proofs.Common.{◌≡◌, ◌≢◌, ℕ, ◌+◌, ◌≤◌, List, [], ◌∷◌, length, refl, arith}
use Rattle.std.specs.List.{fold}
use Rattle.site_words.specs.declared.words.Entry.{Entry}
use Rattle.site_words.specs.declared.words.Op.{Op}
use Rattle.site_words.specs.declared.words.Op.TheVariants as op
use Rattle.site_words.specs.declared.words.Opening.{Opening}
use Rattle.site_words.specs.declared.words.Reply.{Reply}
use Rattle.site_words.specs.State.{State, begins_after, freshes_after, moved, version_after}
use Rattle.site_words.specs.Trees.{Needs}
use Rattle.site_words.specs.Weights.{op_weight, weight_after, weight_with}

version_one : (n : ℕ) (o : Op) → version_after n o ≤ n + 1
version_one n (op.Publish base edits) = omega arith
version_one n other = omega arith

begins_one : (n : ℕ) (o : Op) → begins_after n o ≤ n + 1
begins_one n (op.Begin cookie moment) = omega arith
begins_one n other = omega arith

freshes_one : (n : ℕ) (o : Op) → freshes_after n o ≤ n + 1
freshes_one n (op.Fresh request) = omega arith
freshes_one n other = omega arith

-- the counts are at most so much more
pub record AreUpTo (s t : State) (n : ℕ) : Type 0 where
  pub version : t.version ≤ s.version + n
  pub begins : t.begins ≤ s.begins + n
  pub freshes : t.freshes ≤ s.freshes + n

pub counts_up : (needs : Needs) (x : Opening) (s : State) (entries : List Entry) → AreUpTo s (fold (moved needs x) s entries) (length entries)
counts_up needs x s [] = record { version = omega arith; begins = omega arith; freshes = omega arith }
counts_up needs x s (e ∷ entries) =
    let more = counts_up needs x (moved needs x s e) entries in
    let v = version_one s.version e.op in
    let b = begins_one s.begins e.op in
    let f = freshes_one s.freshes e.op in
    record { version = omega arith; begins = omega arith; freshes = omega arith }

pub weight_is : (weight : ℕ) (o : Op) (r : Reply) → o ≢ op.Roll → weight_after weight o r ≡ weight + weight_with o r
weight_is weight op.Roll r not_roll = absurd (not_roll refl)
weight_is weight (op.Publish base edits) r not_roll = refl
weight_is weight (op.Begin cookie moment) r not_roll = refl
weight_is weight (op.App request step) r not_roll = refl
weight_is weight (op.Fresh request) r not_roll = refl
weight_is weight (op.Fetch request path) r not_roll = refl
weight_is weight (op.Offer request path) r not_roll = refl
weight_is weight (op.End request attrs) r not_roll = refl
weight_is weight (op.Abandon request) r not_roll = refl
weight_is weight (op.Snapshot cookie) r not_roll = refl

pub weighs : (o : Op) → o ≢ op.Roll → 64 ≤ op_weight o
weighs op.Roll not_roll = absurd (not_roll refl)
weighs (op.Publish base edits) not_roll = omega arith
weighs (op.Begin cookie moment) not_roll = omega arith
weighs (op.App request step) not_roll = omega arith
weighs (op.Fresh request) not_roll = omega arith
weighs (op.Fetch request path) not_roll = omega arith
weighs (op.Offer request path) not_roll = omega arith
weighs (op.End request attrs) not_roll = omega arith
weighs (op.Abandon request) not_roll = omega arith
weighs (op.Snapshot cookie) not_roll = omega arith
