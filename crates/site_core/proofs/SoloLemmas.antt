-- A pass that acts alone.
use Rattle.std.proofs.Common.{◌≡◌, ℕ, ◌+◌, Bool, true, false, List, Option, Some, None, refl, sym, ap, subst, ◌∙◌, if◌then◌else◌, inl, inr}
use Rattle.std.specs.Prelude.{nat_lt, nat_le, length}
use Rattle.std.proofs.lemmas.Bool.{cases_eq}
use Rattle.source_tree.specs.declared.file.File.{File}
use Rattle.edges.specs.declared.acted.Acted.{Acted}
use Rattle.edges.specs.declared.acted.Acted.TheVariants.{Did, Refused, NoMemory}
use Rattle.site_words.specs.declared.words.Entry.{Entry}
use Rattle.site_words.specs.declared.words.Op.{Op}
use Rattle.site_words.specs.declared.words.Op.TheVariants as op
use Rattle.site_words.specs.declared.words.Opening.{Opening}
use Rattle.site_words.specs.declared.words.Refusal.{Refusal}
use Rattle.site_words.specs.declared.words.Refusal.TheVariants.{JournalFull}
use Rattle.site_words.specs.declared.words.Reply.{Reply}
use Rattle.site_words.specs.declared.words.Run.{Run}
use Rattle.site_words.specs.Answers.{IsFull, IsFullOnRefused}
use Rattle.site_words.specs.Fits.{has_none}
use Rattle.site_words.specs.Invariants.{AllRest}
use Rattle.site_words.specs.Law.{May, own, run_of}
use Rattle.site_words.specs.Runs.{promised}
use Rattle.site_words.specs.State.{after}
use Rattle.site_words.specs.Step.{reply_to, stepped}
use Rattle.site_words.specs.Trees.{Needs}
use Rattle.site_words.specs.Weights.{most_cookie, promise}
use Rattle.site_words.proofs.Gifts.{never_busy, others_rest}
use Rattle.site_words.proofs.Items.{and_left}
use Rattle.site_state.specs.declared.gift.Given.{Given}
use Rattle.site_core.specs.Applies.{Applies}
use Rattle.site_core.specs.Lived.{Lived}
use Rattle.site_core.specs.Solo.{OthersRest}

none_of : (run : Option Run) → has_none run ≡ true → run ≡ None
none_of None is = refl
none_of (Some run) is = absurd (cc)

-- no pass has a request under way when pass 0 begins one
pub all_rest : (x : Opening) (history : List Entry) (cookie : List ℕ) (moment : ℕ) → OthersRest x history → May x history 0 (own 0 history) (op.Begin cookie moment) → AllRest x history
all_rest x history cookie moment others may k within = elim (cases_eq k 0) [ inl is ↦ subst (λ k. run_of (own k history) ≡ None) (sym is) (none_of (run_of (own 0 history)) (and_left (has_none (run_of (own 0 history))) (nat_le (length cookie) most_cookie) may.1)) | inr away ↦ others k within away ]

-- what is refused for want of room
full_refuses : (limit weight promises claim : ℕ) (r : Reply) (refusal : Refusal) → stepped (if nat_lt limit (weight + promises + claim) then Some (JournalFull weight promises) else None) r ≡ Refused refusal → IsFull refusal
full_refuses limit weight promises claim r refusal is = go (nat_lt limit (weight + promises + claim)) is
  where
    go : (b : Bool) → stepped (if b then Some (JournalFull weight promises) else None) r ≡ Refused refusal → IsFull refusal
    go true is = let same : JournalFull weight promises ≡ refusal = cc in subst (λ f. IsFull f) same tt
    go false is = absurd (cc)

module _ {P : Type 0} (needs : Needs) (made : P → List File → List ℕ → Type 0) where
  -- so its Begin is refused for want of room alone
  pub only_full : (old new : Lived) (cookie : List ℕ) (moment : ℕ) (a : Acted (Given P) Refusal) → OthersRest old.opening old.history → May old.opening old.history 0 (own 0 old.history) (op.Begin cookie moment)
      → Applies needs made old new 0 (op.Begin cookie moment) a → IsFullOnRefused a
  only_full old new cookie moment (Did given) others may is = tt
  only_full old new cookie moment NoMemory others may is = tt
  only_full old new cookie moment (Refused refusal) others may is =
      full_refuses old.opening.limit (after needs old.opening old.history).weight (promised (after needs old.opening old.history).runs) promise
      (reply_to needs old.opening (after needs old.opening old.history) 0 (op.Begin cookie moment)) refusal
      (sym (ap (λ f. stepped f (reply_to needs old.opening (after needs old.opening old.history) 0 (op.Begin cookie moment)))
      (never_busy needs old.opening old.history 0 moment cookie (all_rest old.opening old.history cookie moment others may))) ∙ is.0)

  -- and the others go on resting
  pub still_rest : (old new : Lived) (o : Op) (a : Acted (Given P) Refusal) → Applies needs made old new 0 o a → OthersRest old.opening old.history → OthersRest new.opening new.history
  still_rest old new o (Did given) is others =
      subst (λ (v : Lived). OthersRest v.opening v.history) (sym is.1)
      (λ k within away. others_rest old.history (record { pass = 0; op = o; reply = given.reply }) k (λ same. away (sym same)) ∙ others k within away)
  still_rest old new o (Refused refusal) is others = subst (λ (v : Lived). OthersRest v.opening v.history) (sym is.1) others
  still_rest old new o NoMemory is others = subst (λ (v : Lived). OthersRest v.opening v.history) (sym is) others
