-- The desks of several contexts, where one of them answers.
use Rattle.std.proofs.Common.{◌≡◌, ℕ, zero, suc, ◌∷◌, Bool, false, List, [], length, Option, Some, None, refl, sym, ap, subst, ◌∙◌, inl, inr}
use Rattle.std.specs.Prelude.{set}
use Rattle.std.specs.List.{slice_get}
use Rattle.context_desk.proofs.EachLemmas.{get_each, set_each, set_same}
use Rattle.context_names.proofs.Places.{same_some}
use Rattle.context_desk.specs.Each.{each}
use Rattle.context_desk.specs.Several.{Answers, AnswersIn, Does, IsIn, Leaves, LeavesIn, Lets, Several, several_of, nothing_found, retargeted}
use Rattle.context_names.specs.Targets.{context_of}
use Rattle.conversation.specs.Exchange.{exchange_of}
use Rattle.http_in.specs.declared.request.Request.{Request}

module _ {C A B : Type 0} (names : List (List ℕ)) (places : List C) (close : Bool) (old new : Several A B) (request : Request) (context cut : ℕ) (found : context_of names request.target ≡ Some (context, cut)) where
  -- what one context answers is an answer of the contexts
  pub answers_at : (does : C → Does A B) (text : List ℕ) (broken : Bool)
      → IsIn places context old new (λ place a b a' b'. does place close a b (exchange_of (retargeted cut request) text broken) a' b') → Answers names places does close old (exchange_of request text broken) new
  answers_at does text broken is = subst (AnswersIn names places does close old (exchange_of request text broken) new) (sym found) is

  pub leaves_at : (leaves : C → Lets A B) (text : List ℕ)
      → IsIn places context old new (λ place a b a' b'. leaves place close a b (retargeted cut request) text a' b') → Leaves names places leaves close old request text new
  leaves_at leaves text is = subst (LeavesIn names places leaves close old request text new) (sym found) (inr is)

-- memory ran out before the request came to its context
pub leaves_here : {C A B : Type 0} (names : List (List ℕ)) (places : List C) (close : Bool) (at : Several A B) (request : Request) (leaves : C → Lets A B) → Leaves names places leaves close at request [] at
leaves_here names places close at request leaves = go (context_of names request.target)
  where
    go : (found : Option (ℕ × ℕ)) → LeavesIn names places leaves close at request [] at found
    go None = (refl, refl)
    go (Some found) = inl (refl, refl)

-- no context is named
pub answers_nowhere : {C A B : Type 0} (names : List (List ℕ)) (places : List C) (close : Bool) (at : Several A B) (request : Request) (does : C → Does A B) → context_of names request.target ≡ None
    → Answers names places does close at (exchange_of request (nothing_found close request) false) at
answers_nowhere names places close at request does none =
    subst (AnswersIn names places does close at (exchange_of request (nothing_found close request) false) at) (sym none) (record { same = refl; text_is = refl; broken_is = refl })

-- what holds of each of several, behind an answer of one of them
pub set_ready : {X Y : Type 0} (P : X → Y → Type 0) (xs : List X) (ys : List Y) (i : ℕ) (x : X) (y : Y)
    → ((k : ℕ) (a : X) (b : Y) → slice_get xs k ≡ Some a → slice_get ys k ≡ Some b → P a b) → P x y
    → (k : ℕ) (a : X) (b : Y) → slice_get (set xs i x) k ≡ Some a → slice_get (set ys i y) k ≡ Some b → P a b
set_ready P [] ys i x y all now k a b at there = absurd (cc)
set_ready P (z ∷ xs) [] zero x y all now k a b at there = absurd (cc)
set_ready P (z ∷ xs) [] (suc i) x y all now k a b at there = absurd (cc)
set_ready P (z ∷ xs) (w ∷ ys) zero x y all now zero a b at there = subst (λ m. P m b) (same_some x a at) (subst (λ m. P x m) (same_some y b there) now)
set_ready P (z ∷ xs) (w ∷ ys) zero x y all now (suc k) a b at there = all (suc k) a b at there
set_ready P (z ∷ xs) (w ∷ ys) (suc i) x y all now zero a b at there = all zero a b at there
set_ready P (z ∷ xs) (w ∷ ys) (suc i) x y all now (suc k) a b at there = set_ready P xs ys i x y (λ j. all (suc j)) now k a b at there

pub length_set : {X : Type 0} (xs : List X) (i : ℕ) (x : X) → length (set xs i x) ≡ length xs
length_set [] i x = refl
length_set (z ∷ xs) zero x = refl
length_set (z ∷ xs) (suc i) x = ap suc (length_set xs i x)

module _ {X Y C A B : Type 0} (place : X → Y → C) (own : X → Y → A) (xs : List X) (ys : List Y) (i : ℕ) (x x' : X) (y y' : Y) (at : slice_get xs i ≡ Some x) (there : slice_get ys i ≡ Some y) where
  -- one of them answered
  pub is_in : (lent lent' : B) (comes : C → A → B → A → B → Type 0) → comes (place x y) (own x y) lent (own x' y') lent'
      → IsIn (each place xs ys) i (several_of (each own xs ys) lent) (several_of (each own (set xs i x') (set ys i y')) lent') comes
  is_in lent lent' comes came = record {
    place = place x y;
    place_is = get_each place xs ys i x y at there;
    before = own x y;
    before_is = get_each own xs ys i x y at there;
    after = own x' y';
    came = came;
    parts_are = set_each own xs ys i x' y';
  }

-- one that answered stays in its place
pub all_stay : {X Y C : Type 0} (place : X → Y → C) (xs : List X) (ys : List Y) (i : ℕ) (x x' : X) (y y' : Y) → slice_get xs i ≡ Some x → slice_get ys i ≡ Some y → place x' y' ≡ place x y
    → each place (set xs i x') (set ys i y') ≡ each place xs ys
all_stay place xs ys i x x' y y' at there stays =
    set_each place xs ys i x' y' ∙ (ap (λ p. set (each place xs ys) i p) stays ∙ set_same (each place xs ys) i (place x y) (get_each place xs ys i x y at there))
