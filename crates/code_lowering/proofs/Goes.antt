-- What the code of a form does, from what the codes of its parts do.
use Rattle.std.proofs.Common.{◌≡◌, ℕ, suc, ◌+◌, List, [], ◌∷◌, ◌++◌, length, Bool, true, false, not, true≢false, refl, sym, ap, ◌∙◌, append_assoc, subst}
use Rattle.out_buffer.specs.Writer.{with_body}
use Rattle.page_code.specs.Ops.{takes}
use Rattle.page_code.specs.Shapes.{cell, up, keeping}
use Rattle.page_code.specs.declared.instr.Instr.TheVariants as instr
use Rattle.page_code.specs.declared.op.Op.{Op}
use Rattle.page_code.specs.declared.shape.Shape.{Shape}
use Rattle.page_meaning.specs.Bodies.{taken, keeping as keeping_mean}
use Rattle.page_meaning.specs.Context.{Deeper}
use Rattle.page_meaning.specs.State.{State, in_writer}
use Rattle.page_meaning.specs.Went.{Did, Went, Well, Raised, Ended, Awaits, then_do, either}
use Rattle.page_table.specs.Act.{act, is_true, jump_null}
use Rattle.page_table.specs.Landing.{Config, Running, one_of, land}
use Rattle.page_table.specs.Move.{On}
use Rattle.page_table.specs.Open.{Open}
use Rattle.page_table.specs.Operations.{operation, leaving_none, leaving_one}
use Rattle.page_table.specs.Program.{Serving}
use Rattle.page_table.specs.Seat.{Seat}
use Rattle.pg_text.specs.declared.place.Place.{Place}
use Rattle.pg_value.specs.Datum.{Datum, null, truth, number, text, list, rec}
use Rattle.code_forms.specs.Codes.{form_code}
use Rattle.code_forms.specs.Forms.{Form, nothing, both, above, counted, does, swapped, kept, chosen, where_null}
use Rattle.code_lowering.proofs.Parts.{Does, Yields, onto, onto_append, none_does, one_does, then_does, then_does_so, either_does, lower_all, meant, restacks, popped_is}
use Rattle.code_lowering.proofs.Reach.{Arrives, pushed, step_land}
use Rattle.code_lowering.proofs.Stands.{Fits, fits_all}

-- whether a value isn't null
abbrev pub is_present : Datum → Bool
is_present null = false
is_present (truth b) = true
is_present (number n) = true
is_present (text t) = true
is_present (list items) = true
is_present (rec es) = true

jumps_where_null : (d : Datum) (to behind : ℕ) (s : State) (o p : Open) → jump_null d to behind s o p ≡ one_of (is_present d) (Running behind s o) (Running to s p)
jumps_where_null null to behind s o p = refl
jumps_where_null (truth b) to behind s o p = refl
jumps_where_null (number n) to behind s o p = refl
jumps_where_null (text t) to behind s o p = refl
jumps_where_null (list items) to behind s o p = refl
jumps_where_null (rec es) to behind s o p = refl

one_of_not : (t : Bool) (a b : Config) → one_of (not t) a b ≡ one_of t b a
one_of_not true a b = refl
one_of_not false a b = refl

abbrev pub well : State → Did
well s = Well tt s

module _ (serving : Serving) (seat : Seat) (deep : ℕ → Deeper) (Calls : ℕ → Type 0) where
  -- the statement: wherever the code of a form stands, in whatever shape, it leads from these values on the stack to where m ends, with those of its result in their place
  pub record Goes {n k : ℕ} (f : Form n k) {A : Type 0} (from : List Datum) (st : A → List Datum) (m : Deeper → State → Went A) : Type 0 where
    pub by : (sh : Shape) (o : Open) → Fits o.catches o.stack o.loops → Calls o.left → Does serving seat (form_code sh f) (pushed from o) (λ a. st a ++ o.stack) o (λ s. m (deep o.left) s)

  -- a part that leaves nothing, one that leaves a value, and one that leaves values pushed in order
  abbrev pub Runs0 : {n : ℕ} → Form n 0 → List Datum → (Deeper → State → Did) → Type 0
  Runs0 f from m = Goes f from (λ u. []) m

  abbrev pub Runs1 : {n : ℕ} → Form n 1 → List Datum → (Deeper → State → Went Datum) → Type 0
  Runs1 f from m = Goes f from (λ d. d ∷ []) m

module _ {serving : Serving} {seat : Seat} where
  one_arrives : {c : Config} {to : ℕ} {o : Open} (w : Went Datum) → Arrives serving seat c (λ made. made ++ o.stack) to o (leaving_one w) → Arrives serving seat c (λ d. d ∷ o.stack) to o w
  one_arrives (Well d s) h = record { by = h.by }
  one_arrives (Raised f place s) h = record { by = h.by }
  one_arrives (Ended e s) h = record { by = h.by }
  one_arrives (Awaits x s) h = record { by = h.by }

  none_arrives : {c : Config} {to : ℕ} {o : Open} (w : Did) → Arrives serving seat c (λ made. made ++ o.stack) to o (leaving_none w) → Arrives serving seat c (λ u. o.stack) to o w
  none_arrives (Well u s) h = record { by = h.by }
  none_arrives (Raised f place s) h = record { by = h.by }
  none_arrives (Ended e s) h = record { by = h.by }
  none_arrives (Awaits x s) h = record { by = h.by }

module _ {serving : Serving} {seat : Seat} {deep : ℕ → Deeper} {Calls : ℕ → Type 0} where
  pub nothing_goes : {n : ℕ} {A : Type 0} {st : A → List Datum} (a : A) → Goes serving seat deep Calls (nothing {n = n}) (st a) st (λ dp s. Well a s)
  nothing_goes {st = st} a = record { by = λ sh o fits calls. none_does {o = o} {st = λ b. st b ++ o.stack} a }

  pub both_goes : {n j k : ℕ} {A B : Type 0} {from : List Datum} {st1 : B → List Datum} {st : A → List Datum} {m : Deeper → State → Went B} {g : B → Deeper → State → Went A}
      (f1 : Form n j) (f2 : Form j k)
      → Goes serving seat deep Calls f1 from st1 m → ((b : B) → Goes serving seat deep Calls f2 (st1 b) st (g b))
      → Goes serving seat deep Calls (both f1 f2) from st (λ dp s. then_do (m dp s) (λ b s1. g b dp s1))
  both_goes f1 f2 h1 h2 = record { by = λ sh o fits calls. then_does (form_code sh f1) (form_code sh f2) (h1.by sh o fits calls) (λ b. (h2 b).by sh o fits calls) }

  -- a part that leaves nothing on, one after the other
  pub then_runs : {n j k : ℕ} {f : Form n j} {g : Form j k} {A : Type 0} {from mid : List Datum} {st : A → List Datum} {m : Deeper → State → Went A}
      → Goes serving seat deep Calls f from (λ u. mid) (λ dp s. well s) → Goes serving seat deep Calls g mid st m → Goes serving seat deep Calls (both f g) from st m
  then_runs {f = f} {g = g} hf hg = both_goes f g hf (λ u. hg)

  -- the same where more is known of the first one's result
  pub both_so : {n j k : ℕ} {A B : Type 0} {from : List Datum} {st1 : B → List Datum} {st : A → List Datum} {m : Deeper → State → Went B} {g : B → Deeper → State → Went A}
      (P : B → Type 0) (f1 : Form n j) (f2 : Form j k)
      → ((dp : Deeper) (s : State) → Yields P (m dp s)) → Goes serving seat deep Calls f1 from st1 m → ((b : B) → P b → Goes serving seat deep Calls f2 (st1 b) st (g b))
      → Goes serving seat deep Calls (both f1 f2) from st (λ dp s. then_do (m dp s) (λ b s1. g b dp s1))
  both_so P f1 f2 y h1 h2 = record { by = λ sh o fits calls. then_does_so P (form_code sh f1) (form_code sh f2) (λ s. y (deep o.left) s) (h1.by sh o fits calls) (λ b p. (h2 b p).by sh o fits calls) }

  -- the same meaning said otherwise, and the same values
  pub goes_as : {n k : ℕ} {f : Form n k} {A : Type 0} {from : List Datum} {st : A → List Datum} {m g : Deeper → State → Went A} → ((dp : Deeper) (s : State) → m dp s ≡ g dp s)
      → Goes serving seat deep Calls f from st m → Goes serving seat deep Calls f from st g
  goes_as e h = record { by = λ sh o fits calls. meant (λ s. e (deep o.left) s) (h.by sh o fits calls) }

  pub leaves_as : {n k : ℕ} {f : Form n k} {A : Type 0} {from : List Datum} {st st2 : A → List Datum} {m : Deeper → State → Went A} → ((a : A) → st a ≡ st2 a)
      → Goes serving seat deep Calls f from st m → Goes serving seat deep Calls f from st2 m
  leaves_as e h = record { by = λ sh o fits calls. restacks (λ a. ap (λ v. v ++ o.stack) (e a)) (h.by sh o fits calls) }

  pub starts_as : {n k : ℕ} {f : Form n k} {A : Type 0} {from from2 : List Datum} {st : A → List Datum} {m : Deeper → State → Went A} → from ≡ from2
      → Goes serving seat deep Calls f from st m → Goes serving seat deep Calls f from2 st m
  starts_as {f = f} {st = st} {m = m} e h = subst (λ v. Goes serving seat deep Calls f v st m) e h

  pub counted_goes : {n j k : ℕ} {f : Form n j} {A : Type 0} {from : List Datum} {st : A → List Datum} {m : Deeper → State → Went A} (e : j ≡ k)
      → Goes serving seat deep Calls f from st m → Goes serving seat deep Calls (counted e f) from st m
  counted_goes e h = record { by = h.by }

  pub above_goes : {n k : ℕ} {f : Form n k} {A : Type 0} {from : List Datum} {st : A → List Datum} {m : Deeper → State → Went A} (i : ℕ) (under : List Datum)
      → Goes serving seat deep Calls f from st m → Goes serving seat deep Calls (above i f) (from ++ under) (λ a. st a ++ under) m
  above_goes {f = f} {from = from} {st = st} {m = m} i under h = record {
    by = λ sh o fits calls.
        let inner = h.by (up i sh) (pushed under o) (fits_all o.catches under o.stack o.loops fits) calls in
        let lowered = lower_all o under fits inner in
        let stacked = restacks (λ a. sym (append_assoc (st a) under o.stack)) lowered in
        subst (λ v. Does serving seat (form_code (up i sh) f) (record o { stack = v }) (λ a. (st a ++ under) ++ o.stack) o (λ s. m (deep o.left) s)) (sym (append_assoc from under o.stack)) stacked;
  }

  -- an operation on the values that it takes
  pub does_goes : (op : Op) (place : Place) (ds : List Datum) → length ds ≡ takes op
      → Goes serving seat deep Calls (does op place) (onto ds []) (λ made. made) (λ dp s. operation serving seat place op ds s)
  does_goes op place ds e = record {
    by = λ sh o fits calls. one_does (cell (up (takes op) sh) place (instr.Op op)) (λ pc s has.
        step_land has (ap (λ v. act serving seat place pc s (record o { stack = v }) (instr.Op op)) (onto_append ds [] o.stack)
        ∙ popped_is ds o (takes op) (λ es p. On (land (pc + 1) (λ made. made ++ p.stack) p (operation serving seat place op es s))) e));
  }

  -- one that leaves a value
  pub does_one : (op : Op) (place : Place) (ds : List Datum) (w : State → Went Datum) → length ds ≡ takes op
      → ((s : State) → operation serving seat place op ds s ≡ leaving_one (w s)) → Goes serving seat deep Calls (does op place) (onto ds []) (λ d. d ∷ []) (λ dp s. w s)
  does_one op place ds w e row = record {
    by = λ sh o fits calls. record { by = λ pc s has. one_arrives (w s) ((meant row ((does_goes op place ds e).by sh o fits calls)).by pc s has) };
  }

  -- one that leaves none
  pub does_none : (op : Op) (place : Place) (ds : List Datum) (w : State → Did) → length ds ≡ takes op → ((s : State) → operation serving seat place op ds s ≡ leaving_none (w s))
      → Goes serving seat deep Calls (does op place) (onto ds []) (λ u. []) (λ dp s. w s)
  does_none op place ds w e row = record {
    by = λ sh o fits calls. record { by = λ pc s has. none_arrives (w s) ((meant row ((does_goes op place ds e).by sh o fits calls)).by pc s has) };
  }

  pub swapped_goes : (place : Place) (a b : Datum) → Goes serving seat deep Calls (swapped place) (a ∷ b ∷ []) (λ u. b ∷ a ∷ []) (λ dp s. well s)
  swapped_goes place a b = record { by = λ sh o fits calls. one_does _ (λ pc s has. step_land {st = λ u. b ∷ a ∷ o.stack} {w = well s} has refl) }

  -- what a part writes
  pub kept_goes : {n : ℕ} {f : Form n 0} {from : List Datum} {m : Deeper → State → Did} (place : Place) → Runs0 serving seat deep Calls f from m
      → Goes serving seat deep Calls (kept f place) from (λ t. text t ∷ []) (λ dp s. keeping_mean place (m dp) s)
  kept_goes {n = n} {f = f} {from = from} {m = m} place h = record {
    by = λ sh o fits calls.
        let dp = deep o.left in
        let take = cell (keeping sh) place instr.TakeBody ∷ [] in
        then_does {m = λ s. well (in_writer (with_body s.writer) s)} {k = λ u s. then_do (m dp s) (λ u s1. taken place s1)} (cell (up n sh) place instr.StartBody ∷ [])
        (form_code (keeping sh) f ++ take)
        (one_does {st = λ u. from ++ o.stack} _ (λ pc s has. step_land has refl))
        (λ u. then_does {k = λ u s1. taken place s1} (form_code (keeping sh) f) take (h.by (keeping sh) o fits calls) (λ u. one_does _ (λ pc s has. step_land has refl)));
  }

  -- one of two parts
  pub chosen_goes : {n k : ℕ} {f g : Form n k} {A : Type 0} {from : List Datum} {st : A → List Datum} {m : Deeper → State → Went A} (place : Place) (d : Datum)
      → (is_true d ≡ true → Goes serving seat deep Calls f from st m) → (is_true d ≡ false → Goes serving seat deep Calls g from st m) → Goes serving seat deep Calls (chosen f g place) (d ∷ from) st m
  chosen_goes {n = n} {k = k} {f = f} {g = g} {from = from} place d hf hg = record {
    by = λ sh o fits calls. either_does (up (suc n) sh) (up k sh) place (instr.JumpIf false) (form_code sh f) (form_code sh g) (is_true d) (pushed from o) (pushed from o)
        (λ i pc s. ap On (one_of_not (is_true d) (Running (pc + 1 + i) s (pushed from o)) (Running (pc + 1) s (pushed from o)))) (λ e. (hf e).by sh o fits calls) (λ e. (hg e).by sh o fits calls);
  }

  -- by a truth value
  pub chosen_either : {n k : ℕ} {f g : Form n k} {A : Type 0} {from : List Datum} {st : A → List Datum} {x y : Deeper → State → Went A} (place : Place) (t : Bool)
      → Goes serving seat deep Calls f from st x → Goes serving seat deep Calls g from st y
      → Goes serving seat deep Calls (chosen f g place) (truth t ∷ from) st (λ dp s. either t (x dp) (y dp) s)
  chosen_either place true hf hg = chosen_goes place (truth true) (λ e. record { by = hf.by }) (λ e. absurd (true≢false e))
  chosen_either place false hf hg = chosen_goes place (truth false) (λ e. absurd (true≢false (sym e))) (λ e. record { by = hg.by })

  -- one where null is on top, and another where something else is
  pub where_null_goes : {n k : ℕ} {f : Form n k} {g : Form (suc n) k} {A : Type 0} {from : List Datum} {st : A → List Datum} {m : Deeper → State → Went A} (place : Place) (d : Datum)
      → (is_present d ≡ false → Goes serving seat deep Calls f from st m) → (is_present d ≡ true → Goes serving seat deep Calls g (d ∷ from) st m)
      → Goes serving seat deep Calls (where_null f g place) (d ∷ from) st m
  where_null_goes {n = n} {k = k} {f = f} {g = g} {from = from} place d hf hg = record {
    by = λ sh o fits calls. either_does (up (suc n) sh) (up k sh) place instr.JumpNull (form_code sh g) (form_code sh f) (is_present d) (pushed (d ∷ from) o) (pushed from o)
        (λ i pc s. ap On (jumps_where_null d (pc + 1 + i) (pc + 1) s (pushed (d ∷ from) o) (pushed from o))) (λ e. (hg e).by sh o fits calls) (λ e. (hf e).by sh o fits calls);
  }
