-- One operation of a pass, by its kind.
use Rattle.std.proofs.Common.{◌≡◌, ℕ, List, Option, sym, subst}
use Rattle.edges.specs.declared.acted.Acted.{Acted}
use Rattle.source_tree.specs.declared.file.File.{File}
use Rattle.site_words.specs.declared.words.Entry.{Entry}
use Rattle.site_words.specs.declared.words.Op.{Op}
use Rattle.site_words.specs.declared.words.Opening.{Opening}
use Rattle.site_words.specs.declared.words.Refusal.{Refusal}
use Rattle.site_words.specs.Runs.{under_at}
use Rattle.site_words.specs.Trees.{Needs}
use Rattle.site_words.specs.Weights.{capped, op_weight}
use Rattle.site_state.specs.declared.gift.Done.{Done}
use Rattle.site_state.specs.Conditions.{CanWork}
use Rattle.site_state.specs.Gifts.{IsMadeHere}
use Rattle.site_state.specs.Parts.{Parts}
use Rattle.site_state.specs.Works.{Works}

module _ {P : Type 0} (needs : Needs) (made : P → List File → List ℕ → Type 0) (x : Opening) (history : List Entry) where
  -- what an operation relies on, with another value
  with_value : (parts : Parts P) (pass : ℕ) (o : Op) (v w : Option P) → CanWork needs made x history parts pass o v → IsMadeHere made (under_at parts.runs pass) o w → CanWork needs made x history parts pass o w
  with_value parts pass o v w can is = record {
    within = can.within;
    asks = can.asks;
    finds = can.finds;
    goes_on = can.goes_on;
    value = is;
    total = can.total;
    version = can.version;
    begins = can.begins;
    freshes = can.freshes;
    room = can.room;
    kept = can.kept;
    order = can.order;
    older = can.older;
    later = can.later;
    next = can.next;
    held = can.held;
    unused = can.unused;
  }

  -- the condition of the operation's own function
  pub arm_can : (parts : Parts P) (pass : ℕ) (o arm : Op) (v w : Option P) → o ≡ arm → CanWork needs made x history parts pass o v → IsMadeHere made (under_at parts.runs pass) arm w → CanWork needs made x history parts pass arm w
  arm_can parts pass o arm v w is can value = with_value parts pass arm v w (subst (λ o. CanWork needs made x history parts pass o v) is can) value

  -- and what it comes to
  pub arm_works : (old new : Parts P) (pass : ℕ) (o arm : Op) (a : Acted (Done P) Refusal) → o ≡ arm → Works needs made x history old new pass arm a → Works needs made x history old new pass o a
  arm_works old new pass o arm a is works = subst (λ o. Works needs made x history old new pass o a) (sym is) works

-- the operation's weight is that of its kind
pub arm_weight : (w : ℕ) (o arm : Op) → o ≡ arm → w ≡ capped (op_weight o) → w ≡ capped (op_weight arm)
arm_weight w o arm is weight = subst (λ o. w ≡ capped (op_weight o)) is weight
