-- How what parts do is joined where results are made from others, and equations of meanings.
use Rattle.std.proofs.Common.{◌≡◌, ℕ, List, [], ◌∷◌, ◌++◌, Result, Ok, Err, refl, ap}
use Rattle.el_ops.specs.Operands.{answered}
use Rattle.page_meaning.specs.Context.{Deeper}
use Rattle.page_meaning.specs.State.{State}
use Rattle.page_meaning.specs.Went.{Did, Went, Well, Raised, Ended, Awaits, then_do, result_of}
use Rattle.page_table.specs.Landing.{Config}
use Rattle.page_table.specs.Open.{Open}
use Rattle.page_table.specs.Program.{Serving}
use Rattle.page_table.specs.Seat.{Seat}
use Rattle.pg_text.specs.declared.place.Place.{Place}
use Rattle.pg_value.specs.Datum.{Datum}
use Rattle.pg_value.specs.declared.fault.RunFault.{RunFault}
use Rattle.code_forms.specs.Forms.{Form}
use Rattle.code_lowering.proofs.Goes.{Goes, well}
use Rattle.code_lowering.proofs.Parts.{Yields}
use Rattle.code_lowering.proofs.Reach.{Arrives, restacked}

-- equal ways on from the same part
pub then_same : {A B : Type 0} (w : Went A) (f g : A → State → Went B) → ((a : A) (s : State) → f a s ≡ g a s) → then_do w f ≡ then_do w g
then_same (Well a s) f g e = e a s
then_same (Raised fault place s) f g e = refl
then_same (Ended leaving s) f g e = refl
then_same (Awaits step s) f g e = refl

-- one way on after another
pub then_then : {A B C : Type 0} (w : Went A) (f : A → State → Went B) (g : B → State → Went C) → then_do (then_do w f) g ≡ then_do w (λ a s. then_do (f a s) g)
then_then (Well a s) f g = refl
then_then (Raised fault place s) f g = refl
then_then (Ended leaving s) f g = refl
then_then (Awaits step s) f g = refl

-- no way on
pub then_well : (w : Did) → then_do w (λ u s. well s) ≡ w
then_well (Well u s) = refl
then_well (Raised fault place s) = refl
then_well (Ended leaving s) = refl
then_well (Awaits step s) = refl

pub then_result : {A : Type 0} (w : Went A) → then_do w (λ a s. Well a s) ≡ w
then_result (Well a s) = refl
then_result (Raised fault place s) = refl
then_result (Ended leaving s) = refl
then_result (Awaits step s) = refl

pub yields_then : {A B : Type 0} (P : B → Type 0) (w : Went A) (k : A → State → Went B) → ((a : A) (s : State) → Yields P (k a s)) → Yields P (then_do w k)
yields_then P (Well a s) k h = h a s
yields_then P (Raised fault place s) k h = tt
yields_then P (Ended leaving s) k h = tt
yields_then P (Awaits step s) k h = tt

pub yields_behind : {A B : Type 0} (P : A → Type 0) (Q : B → Type 0) (w : Went A) (k : A → State → Went B) → Yields P w → ((a : A) (s : State) → P a → Yields Q (k a s)) → Yields Q (then_do w k)
yields_behind P Q (Well a s) k h g = g a s h
yields_behind P Q (Raised fault place s) k h g = tt
yields_behind P Q (Ended leaving s) k h g = tt
yields_behind P Q (Awaits step s) k h g = tt

pub yields_result : {A : Type 0} (P : A → Type 0) (place : Place) (r : Result A RunFault) (s : State) → ((a : A) → r ≡ Ok a → P a) → Yields P (result_of place r s)
yields_result P place (Ok a) s h = h a refl
yields_result P place (Err fault) s h = tt

module _ {serving : Serving} {seat : Seat} where
  mapped : {A B : Type 0} {c : Config} {st2 : B → List Datum} {to : ℕ} {o : Open} (h : A → B) (w : Went A) → Arrives serving seat c (λ a. st2 (h a)) to o w
      → Arrives serving seat c st2 to o (then_do {B = B} w (λ a s. Well (h a) s))
  mapped h (Well a s) g = record { by = g.by }
  mapped h (Raised fault place s) g = record { by = g.by }
  mapped h (Ended leaving s) g = record { by = g.by }
  mapped h (Awaits step s) g = record { by = g.by }

  unmapped : {A B : Type 0} {c : Config} {st : B → List Datum} {to : ℕ} {o : Open} (h : A → B) (w : Went A)
      → Arrives serving seat c st to o (then_do {B = B} w (λ a s. Well (h a) s)) → Arrives serving seat c (λ a. st (h a)) to o w
  unmapped h (Well a s) g = record { by = g.by }
  unmapped h (Raised fault place s) g = record { by = g.by }
  unmapped h (Ended leaving s) g = record { by = g.by }
  unmapped h (Awaits step s) g = record { by = g.by }

  answered_arrives : {A : Type 0} {c : Config} {stack : List Datum} {to : ℕ} {o : Open} (place : Place) (make : A → Datum) (r : Result A RunFault) (s : State)
      → Arrives serving seat c (λ d. d ∷ stack) to o (result_of place (answered make r) s) → Arrives serving seat c (λ a. make a ∷ stack) to o (result_of place r s)
  answered_arrives place make (Ok a) s g = record { by = g.by }
  answered_arrives place make (Err fault) s g = record { by = g.by }

module _ {serving : Serving} {seat : Seat} {deep : ℕ → Deeper} {Calls : ℕ → Type 0} where
  -- a result made of another one
  pub maps_goes : {n k : ℕ} {f : Form n k} {A B : Type 0} {from : List Datum} {st : A → List Datum} {st2 : B → List Datum} {m : Deeper → State → Went A} (h : A → B)
      → ((a : A) → st a ≡ st2 (h a)) → Goes serving seat deep Calls f from st m
      → Goes serving seat deep Calls f from st2 (λ dp s. then_do (m dp s) (λ a s1. Well (h a) s1))
  maps_goes {st2 = st2} {m = m} h e g = record {
    by = λ sh o fits calls. record {
      by = λ pc s has. mapped {st2 = λ b. st2 b ++ o.stack} h (m (deep o.left) s)
          (restacked (m (deep o.left) s) (λ a. ap (λ v. v ++ o.stack) (e a)) ((g.by sh o fits calls).by pc s has));
    };
  }

  -- an answer without what was made of it
  pub answered_goes : {n k : ℕ} {f : Form n k} {A : Type 0} {from : List Datum} (place : Place) (make : A → Datum) (r : Result A RunFault)
      → Goes serving seat deep Calls f from (λ d. d ∷ []) (λ dp s. result_of place (answered make r) s)
      → Goes serving seat deep Calls f from (λ a. make a ∷ []) (λ dp s. result_of place r s)
  answered_goes place make r g = record { by = λ sh o fits calls. record { by = λ pc s has. answered_arrives place make r s ((g.by sh o fits calls).by pc s has) } }

  -- a result of which another was made
  pub unmaps_goes : {n k : ℕ} {f : Form n k} {A B : Type 0} {from : List Datum} {st : B → List Datum} {m : Deeper → State → Went A} (h : A → B)
      → Goes serving seat deep Calls f from st (λ dp s. then_do {B = B} (m dp s) (λ a s1. Well (h a) s1))
      → Goes serving seat deep Calls f from (λ a. st (h a)) m
  unmaps_goes {st = st} {m = m} h g = record { by = λ sh o fits calls. record { by = λ pc s has. unmapped {st = λ b. st b ++ o.stack} h (m (deep o.left) s) ((g.by sh o fits calls).by pc s has) } }
