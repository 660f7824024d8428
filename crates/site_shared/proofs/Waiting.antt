-- A request after some waiting.
use Rattle.std.proofs.Common.{◌≡◌, ℕ, ◌+◌, List, [], ◌∷◌, ◌++◌, length, Option, Some, None, Bool, true, false, sym, ap, ◌∙◌, subst, if◌then◌else◌}
use Rattle.std.specs.Prelude.{nat_lt}
use Rattle.edges.specs.declared.acted.Acted.{Acted}
use Rattle.edges.specs.declared.acted.Acted.TheVariants.{Did, Refused, NoMemory}
use Rattle.edges.proofs.Own.{front_both}
use Rattle.source_tree.specs.declared.file.File.{File}
use Rattle.site_words.specs.declared.words.Entry.{Entry}
use Rattle.site_words.specs.declared.words.Op.{Op}
use Rattle.site_words.specs.declared.words.Op.TheVariants as op
use Rattle.site_words.specs.declared.words.Opening.{Opening}
use Rattle.site_words.specs.declared.words.Refusal.{Refusal}
use Rattle.site_words.specs.declared.words.Refusal.TheVariants.{Busy, JournalFull}
use Rattle.site_words.specs.declared.words.Reply.{Reply}
use Rattle.site_words.specs.Answers.{IsFull, IsFullOnRefused}
use Rattle.site_words.specs.Calls.{Stays}
use Rattle.site_words.specs.Law.{May, own}
use Rattle.site_words.specs.Runs.{promised}
use Rattle.site_words.specs.Sessions.{holder, session_at}
use Rattle.site_words.specs.State.{after}
use Rattle.site_words.specs.Step.{busy, full_of, or_else, reply_to, stepped}
use Rattle.site_words.specs.Trees.{Needs}
use Rattle.site_words.specs.Weights.{promise}
use Rattle.site_words.proofs.Lasting.{may_lasts}
use Rattle.site_state.specs.declared.gift.Given.{Given}
use Rattle.site_core.specs.Answered.{Answered}
use Rattle.site_shared.specs.ReadBusy.{is_busy}

pub stays_both : (needs : Needs) (x : Opening) (pass : ℕ) (a b c : List Entry) → Stays needs x pass a b → Stays needs x pass b c → Stays needs x pass a c
stays_both needs x pass a b c f g = record { longer = front_both a b c f.longer g.longer; same = g.same ∙ f.same; is_legal = g.is_legal }

-- what a pass may ask for, it may ask for once it has only seen more
pub may_again : (needs : Needs) (x : Opening) (pass : ℕ) (a b : List Entry) (o : Op) → Stays needs x pass a b → May x a pass (own pass a) o → May x b pass (own pass b) o
may_again needs x pass a b o stays may =
    subst (λ l. May x l pass (own pass l) o) (sym stays.longer.1)
    (may_lasts x a stays.longer.0 pass o may (sym (ap (λ l. own pass l) stays.longer.1) ∙ stays.same))

module _ {P : Type 0} (needs : Needs) (made : P → List File → List ℕ → Type 0) where
  -- an answer that comes after some waiting is one to the pass as it was before
  pub answered_later : (x : Opening) (pass : ℕ) (a b c : List Entry) (o : Op) (answer : Acted (Given P) Refusal) → Stays needs x pass a b → Answered needs made x pass b c o answer → Answered needs made x pass a c o answer
  answered_later x pass a b c o (Did given) stays acts = record {
    front = acts.front;
    entry = acts.entry;
    stays = stays_both needs x pass a b acts.front stays acts.stays;
    by_pass = acts.by_pass;
    said = acts.said;
    seen = acts.seen;
    grown = acts.grown ∙ ap (λ l. l ++ (length acts.front, acts.entry) ∷ []) stays.same;
    is_legal = acts.is_legal;
  }
  answered_later x pass a b c o (Refused refusal) stays answered = (stays_both needs x pass a b c stays answered.0, answered.1)
  answered_later x pass a b c o NoMemory stays answered = stays_both needs x pass a b c stays answered

  -- the same where the site and the number of the pass are those from before
  pub answered_then : (x y : Opening) (pass number : ℕ) (a b c : List Entry) (o : Op) (answer : Acted (Given P) Refusal) → y ≡ x → number ≡ pass → Stays needs x pass a b → Answered needs made y number b c o answer → Answered needs made x pass a c o answer
  answered_then x y pass number a b c o answer site mine stays answered = answered_later x pass a b c o answer stays
      (subst (λ z. Answered needs made z pass b c o answer) site (subst (λ k. Answered needs made y k b c o answer) mine answered))

  -- a busy answer only saw more
  pub busy_stays : (x : Opening) (pass : ℕ) (a b : List Entry) (o : Op) (answer : Acted (Given P) Refusal) → is_busy answer ≡ true → Answered needs made x pass a b o answer → Stays needs x pass a b
  busy_stays x pass a b o (Did given) busy answered = absurd (cc)
  busy_stays x pass a b o (Refused refusal) busy answered = answered.0
  busy_stays x pass a b o NoMemory busy answered = answered

-- a Begin is refused as busy or for want of room
room : (limit weight promises claim : ℕ) (r : Reply) (refusal : Refusal) → stepped (full_of limit weight promises claim) r ≡ Refused refusal → IsFull refusal
room limit weight promises claim r refusal is = go (nat_lt limit (weight + promises + claim)) is
  where
    go : (b : Bool) → stepped (if b then Some (JournalFull weight promises) else None) r ≡ Refused refusal → IsFull refusal
    go true is = let same : JournalFull weight promises ≡ refusal = cc in subst (λ f. IsFull f) same tt
    go false is = absurd (cc)

busy_or_full : (A : Type 0) (request : Option ℕ) (limit weight promises claim : ℕ) (r : Reply) (refusal : Refusal) → stepped (or_else (busy request) (full_of limit weight promises claim)) r ≡ Refused refusal
    → is_busy {A = A} (Refused refusal) ≡ false → IsFull refusal
busy_or_full A None limit weight promises claim r refusal is free = room limit weight promises claim r refusal is
busy_or_full A (Some request) limit weight promises claim r refusal is free =
    let same : Busy request ≡ refusal = cc in
    let no : is_busy {A = A} (Refused (Busy request)) ≡ false = subst (λ f. is_busy {A = A} (Refused f) ≡ false) (sym same) free in
    absurd (cc)

-- so one that isn't busy is refused for want of room alone
pub full_alone : {P : Type 0} (needs : Needs) (made : P → List File → List ℕ → Type 0) (x : Opening) (pass : ℕ) (a b : List Entry) (cookie : List ℕ) (moment : ℕ) (answer : Acted (Given P) Refusal)
    → is_busy answer ≡ false → Answered needs made x pass a b (op.Begin cookie moment) answer → IsFullOnRefused answer
full_alone needs made x pass a b cookie moment (Did given) free answered = tt
full_alone needs made x pass a b cookie moment NoMemory free answered = tt
full_alone {P = P} needs made x pass a b cookie moment (Refused refusal) free answered =
    busy_or_full (Given P) (holder (session_at x.seed cookie (after needs x b).sessions) (after needs x b).runs) x.limit (after needs x b).weight (promised (after needs x b).runs) promise
    (reply_to needs x (after needs x b) pass (op.Begin cookie moment)) refusal answered.1 free
