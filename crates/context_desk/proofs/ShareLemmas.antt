-- Each context walks over its share of a conversation alone.
use Rattle.std.proofs.Common.{◌≡◌, ℕ, ◌+◌, ◌==◌, Bool, true, false, List, [], ◌∷◌, ◌++◌, Option, Some, None, refl, sym, ap, subst, ◌∙◌}
use Rattle.std.specs.Prelude.{set, if◌then◌else◌}
use Rattle.std.specs.List.{slice_get}
use Rattle.std.proofs.lemmas.Bool.{eq-eqb, eqb-true}
use Rattle.context_names.specs.Targets.{context_of}
use Rattle.conversation.specs.Conversation.{closes}
use Rattle.conversation.specs.Exchange.{Exchange}
use Rattle.context_names.proofs.Places.{get_set, get_set_other, same_some}
use Rattle.context_desk.specs.Several.{AnswersIn, Does, IsIn, Several, exchange_inside}
use Rattle.context_desk.specs.Shares.{AreSharedBy, HasShares, HasWalked, IsAlone, StandsAlone, of_context, share, taken_by}

-- what an exchange adds to a share and to what was taken, by whether it is one of the context
abbrev among : {X : Type 0} → Bool → X → List X → List X
among test x xs = (if test then x ∷ [] else []) ++ xs

module _ {C A B T : Type 0} (takes : B → T → B → Type 0) (does : C → Does A B) where
  -- what a context comes to that walks alone
  abbrev Comes : (places : List C) → (old new : Several A B) → (context : ℕ) → (place : C) → (before : A) → List (Bool × Exchange) → List T → Type 0
  Comes places old new context place before exchanges taken = (after : A) × (slice_get new.parts context ≡ Some after) × HasWalked takes (does place) exchanges taken before after

  one_more : (places : List C) (old mid new : Several A B) (close : Bool) (asked : ℕ) (e : Exchange) (is : IsIn places asked old mid (λ place a b a' b'. does place close a b e a' b'))
      → (a : IsAlone takes (does is.place) close is.before old.lent e is.after mid.lent)
      → (shares : ℕ → List (Bool × Exchange)) (taken : List (ℕ × T)) (context : ℕ) (place : C) (before : A) → slice_get places context ≡ Some place → slice_get old.parts context ≡ Some before
      → ((now : A) → slice_get mid.parts context ≡ Some now → Comes places mid new context place now (shares context) (taken_by context taken))
      → (test : Bool) → (asked == context) ≡ test → Comes places old new context place before (among test (close, e) (shares context)) (among test a.taken (taken_by context taken))
  one_more places old mid new close asked e is a shares taken context place before at there more true same =
      let asked_is : asked ≡ context = eqb-true asked context same in
      let one_place : is.place ≡ place = same_some is.place place (sym is.place_is ∙ (ap (λ k. slice_get places k) asked_is ∙ at)) in
      let one_part : is.before ≡ before = same_some is.before before (sym is.before_is ∙ (ap (λ k. slice_get old.parts k) asked_is ∙ there)) in
      let now : slice_get mid.parts context ≡ Some is.after = ap (λ parts. slice_get parts context) is.parts_are ∙ (ap (λ k. slice_get (set old.parts asked is.after) k) (sym asked_is) ∙ get_set old.parts asked is.after is.before is.before_is) in
      let rest = more is.after now in (
        rest.0,
        rest.1,
        record {
          walked = λ start end took. (
            (is.after, took.0),
            subst (λ (p : C). does p close before start e is.after took.0) one_place (subst (λ (part : A). does is.place close part start e is.after took.0) one_part (a.anywhere start took.0 took.1)),
            rest.2.walked took.0 end took.2,
          );
        },
      )
  one_more places old mid new close asked e is a shares taken context place before at there more false other =
      let apart : (asked ≡ context → ⊥) = λ same. absurd (let t : (asked == context) ≡ true = ap (λ k. asked == k) (sym same) ∙ eq-eqb asked asked refl in cc) in
      let now : slice_get mid.parts context ≡ Some before = ap (λ parts. slice_get parts context) is.parts_are ∙ (get_set_other old.parts asked context is.after apart ∙ there) in
      more before now

  shared_more : ((place : C) → StandsAlone takes (does place)) → (names : List (List ℕ)) (places : List C) (old mid new : Several A B) (close : Bool) (e : Exchange) (shares : ℕ → List (Bool × Exchange)) (found : Option (ℕ × ℕ))
      → AnswersIn names places does close old e mid found → AreSharedBy places takes does mid shares new → AreSharedBy places takes does old (λ context. of_context context close e found ++ shares context) new
  shared_more alone names places old mid new close e shares None is more = subst (λ (s : Several A B). AreSharedBy places takes does s shares new) is.same more
  shared_more alone names places old mid new close e shares (Some found) is more =
      let a = alone is.place close is.before is.after old.lent mid.lent (exchange_inside found.1 e) is.came in
      record {
        taken = (found.0, a.taken) ∷ more.taken;
        took = (mid.lent, a.took, more.took);
        walked = λ context place before at there.
            one_more places old mid new close found.0 (exchange_inside found.1 e) is a shares more.taken context place before at there (λ now is_now. more.walked context place now at is_now) (found.0 == context) refl;
      }

  pub shared : ((place : C) → StandsAlone takes (does place)) → HasShares takes does
  shared alone names places number old new [] walked = record {
    taken = [];
    took = ap (λ (s : Several A B). s.lent) walked;
    walked = λ context place before at there. (
      before,
      subst (λ (s : Several A B). slice_get s.parts context ≡ Some before) (sym walked) there,
      record { walked = λ start end same. ap (λ (b : B). (before, b)) same },
    );
  }
  shared alone names places number old new (e ∷ exchanges) walked =
      shared_more alone names places old walked.0 new (closes number e.request) e (λ context. share names context (number + 1) exchanges) (context_of names e.request.target) walked.1
      (shared alone names places (number + 1) walked.0 new exchanges walked.2)
