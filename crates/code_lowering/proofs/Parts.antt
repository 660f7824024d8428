-- Parts of a code: what cells do wherever they stand.
use Rattle.std.proofs.Common.{◌≡◌, ℕ, suc, ◌+◌, List, [], ◌∷◌, ◌++◌, length, Some, Bool, true, false, refl, arith, append-nil, length-append, ap, ◌∙◌}
use Rattle.std.specs.Prelude.{slice_get}
use Rattle.page_code.specs.Shapes.{cell}
use Rattle.page_code.specs.declared.code.Cell.{Cell}
use Rattle.page_code.specs.declared.instr.Instr.{Instr}
use Rattle.page_code.specs.declared.instr.Instr.TheVariants as instr
use Rattle.page_code.specs.declared.shape.Shape.{Shape}
use Rattle.page_meaning.specs.State.{State}
use Rattle.page_meaning.specs.Went.{Went, Well, Raised, Ended, Awaits, then_do}
use Rattle.page_table.specs.Act.{act}
use Rattle.page_table.specs.Landing.{Config, Running, one_of, then_at}
use Rattle.page_table.specs.Move.{Move, On, popped_onto, popped_all}
use Rattle.page_table.specs.Open.{Open}
use Rattle.page_table.specs.Program.{Serving}
use Rattle.page_table.specs.Seat.{Seat, code_of}
use Rattle.pg_text.specs.declared.place.Place.{Place}
use Rattle.pg_value.specs.Datum.{Datum}
use Rattle.code_forms.specs.Codes.{either_code}
use Rattle.code_lowering.proofs.Reach.{Arrives, pushed, push, leads, here, to_pc, to_went, step, seq, at, lower, restacked}
use Rattle.code_lowering.proofs.Stands.{HasAt, has_front, has_back, Fits, fits_all}

-- wherever the cells stand, they lead from what stands open to where m ends
pub record Does (serving : Serving) (seat : Seat) {A : Type 0} (cells : List Cell) (from : Open) (st : A → List Datum) (o : Open) (m : State → Went A) : Type 0 where
  pub by : (pc : ℕ) (s : State) → HasAt (code_of seat) pc cells → Arrives serving seat (Running pc s from) st (pc + length cells) o (m s)

-- what holds of the result, where a part went well
abbrev pub Yields : {A : Type 0} → (A → Type 0) → Went A → Type 0
Yields P (Well a s) = P a
Yields P (Raised f place s) = Unit {0}
Yields P (Ended e s) = Unit {0}
Yields P (Awaits x s) = Unit {0}

-- values pushed one after the other
abbrev pub onto : List Datum → List Datum → List Datum
onto [] stack = stack
onto (d ∷ ds) stack = onto ds (d ∷ stack)

pub onto_append : (ds top stack : List Datum) → onto ds top ++ stack ≡ onto ds (top ++ stack)
onto_append [] top stack = refl
onto_append (d ∷ ds) top stack = onto_append ds (d ∷ top) stack

module _ {serving : Serving} {seat : Seat} {A : Type 0} {o : Open} {st : A → List Datum} where
  pub none_does : (a : A) → Does serving seat [] (record o { stack = st a }) st o (λ s. Well a s)
  none_does a = record { by = λ pc s h. let e : pc ≡ pc + 0 = omega arith in to_pc e (here (Well a s)) }

  pub one_does : {from : Open} {m : State → Went A} (cl : Cell)
      → ((pc : ℕ) (s : State) → slice_get (code_of seat) pc ≡ Some cl → Arrives serving seat (Running pc s from) st (pc + 1) o (m s)) → Does serving seat (cl ∷ []) from st o m
  one_does cl f = record { by = λ pc s h. f pc s h.0 }

  -- a part, and another where it went well
  pub then_does : {from : Open} {B : Type 0} {st1 : B → List Datum} {m : State → Went B} {k : B → State → Went A} (c1 c2 : List Cell) → Does serving seat c1 from st1 o m
      → ((b : B) → Does serving seat c2 (record o { stack = st1 b }) st o (k b)) → Does serving seat (c1 ++ c2) from st o (λ s. then_do (m s) k)
  then_does {m = m} c1 c2 f g = record {
    by = λ pc s h.
        let len : pc + length c1 + length c2 ≡ pc + length (c1 ++ c2) = omega (arith, length-append c1 c2) in
        to_pc len (seq (m s) (f.by pc s (has_front (code_of seat) pc c1 c2 h)) (λ b s1. (g b).by (pc + length c1) s1 (has_back (code_of seat) pc c1 c2 h)));
  }

  -- an instruction that opens something, and what stands behind it
  pub opens : {from : Open} {B : Type 0} {k : B → State → Went A} (w : State → Went B) (cl : Cell) (rest : List Cell) (mid : B → Open)
      → ((pc : ℕ) (s : State) → act serving seat cl.place pc s from cl.instr ≡ On (then_at o (w s) (λ b s1. Running (pc + 1) s1 (mid b))))
      → ((b : B) → Does serving seat rest (mid b) st o (k b)) → Does serving seat (cl ∷ rest) from st o (λ s. then_do (w s) k)
  opens w cl rest mid f g = record {
    by = λ pc s h. let len : pc + 1 + length rest ≡ pc + suc (length rest) = omega arith in to_pc len (leads (step h.0 (f pc s)) (at (w s) (λ b s1. (g b).by (pc + 1) s1 h.1)));
  }

  pub lower_does : {from : Open} {m : State → Went A} {c : List Cell} (d : Datum) → Fits o.catches o.stack o.loops → Does serving seat c from st (push d o) m → Does serving seat c from st o m
  lower_does {m = m} d fits f = record { by = λ pc s h. lower (m s) o d fits (f.by pc s h) }

  -- the same meaning said otherwise
  pub meant : {from : Open} {m n : State → Went A} {c : List Cell} → ((s : State) → m s ≡ n s) → Does serving seat c from st o m → Does serving seat c from st o n
  meant e f = record { by = λ pc s h. to_went (e s) (f.by pc s h) }

  pub restacks : {from : Open} {st2 : A → List Datum} {m : State → Went A} {c : List Cell} → ((a : A) → st a ≡ st2 a) → Does serving seat c from st o m → Does serving seat c from st2 o m
  restacks {m = m} e f = record { by = λ pc s h. restacked (m s) e (f.by pc s h) }

  jumped : {x : Config} {p n : ℕ} {pl : Place} {sh : Shape} (w : Went A) → Arrives serving seat x st p o w → slice_get (code_of seat) p ≡ Some (cell sh pl (instr.Jump n))
      → Arrives serving seat x st (p + 1 + n) o w
  jumped (Well a s) h e = record { by = λ d r. h.by d ((step e refl).by d r) }
  jumped (Raised f place s) h e = record { by = h.by }
  jumped (Ended x s) h e = record { by = h.by }
  jumped (Awaits x s) h e = record { by = h.by }

  -- one of two parts, as an instruction decides
  pub either_does : {from : Open} {x : State → Went A} (sh out : Shape) (place : Place) (test : ℕ → Instr) (ca cb : List Cell) (t : Bool) (fa fb : Open)
      → ((n pc : ℕ) (s : State) → act serving seat place pc s from (test n) ≡ On (one_of t (Running (pc + 1) s fa) (Running (pc + 1 + n) s fb)))
      → (t ≡ true → Does serving seat ca fa st o x) → (t ≡ false → Does serving seat cb fb st o x) → Does serving seat (either_code sh out place test ca cb) from st o x
  either_does {from = from} {x = x} sh out place test ca cb t fa fb row first second = record {
    by = λ pc s h.
        let jump = cell out place (instr.Jump (length cb)) ∷ [] in
        let front = ca ++ jump in
        let p2 = pc + 1 + length front in
        let len : p2 + length cb ≡ pc + suc (length (front ++ cb)) = omega (arith, length-append front cb) in
        let end : pc + 1 + length ca + 1 + length cb ≡ p2 + length cb = omega (arith, length-append ca jump) in
        let hy = has_front (code_of seat) (pc + 1) front cb h.1 in
        to_pc len (leads (step h.0 (row (length front) pc s))
        (decided s (pc + 1) p2 (p2 + length cb) t
        (λ e. to_pc end (jumped (x s) ((first e).by (pc + 1) s (has_front (code_of seat) (pc + 1) ca jump hy)) (has_back (code_of seat) (pc + 1) ca jump hy).0))
        (λ e. (second e).by p2 s (has_back (code_of seat) (pc + 1) front cb h.1))));
  }
    where
      decided : (s : State) (p q to : ℕ) (t : Bool) → (t ≡ true → Arrives serving seat (Running p s fa) st to o (x s))
          → (t ≡ false → Arrives serving seat (Running q s fb) st to o (x s)) → Arrives serving seat (one_of t (Running p s fa) (Running q s fb)) st to o (x s)
      decided s p q to true f g = f refl
      decided s p q to false f g = g refl

module _ {serving : Serving} {seat : Seat} where
  -- with many values more below
  pub lower_all : {c : List Cell} {from : Open} {A : Type 0} {st : A → List Datum} {m : State → Went A} (o : Open) (vs : List Datum) → Fits o.catches o.stack o.loops
      → Does serving seat c from st (pushed vs o) m → Does serving seat c from st o m
  lower_all o [] fits h = h
  lower_all o (v ∷ vs) fits h = lower_all o vs fits (lower_does {o = pushed vs o} v (fits_all o.catches vs o.stack o.loops fits) h)

  -- a part whose result is so, and another where it went well
  pub then_does_so : {A B : Type 0} {from o : Open} {st1 : B → List Datum} {st : A → List Datum} {m : State → Went B} {k : B → State → Went A} (P : B → Type 0) (c1 c2 : List Cell)
      → ((s : State) → Yields P (m s)) → Does serving seat c1 from st1 o m
      → ((b : B) → P b → Does serving seat c2 (record o { stack = st1 b }) st o (k b)) → Does serving seat (c1 ++ c2) from st o (λ s. then_do (m s) k)
  then_does_so {A = A} {B = B} {o = o} {st1 = st1} {st = st} {m = m} {k = k} P c1 c2 y f g = record {
    by = λ pc s h.
        let len : pc + length c1 + length c2 ≡ pc + length (c1 ++ c2) = omega (arith, length-append c1 c2) in
        to_pc len (follows (m s) (y s) (f.by pc s (has_front (code_of seat) pc c1 c2 h)) (λ b s1 p. (g b p).by (pc + length c1) s1 (has_back (code_of seat) pc c1 c2 h)));
  }
    where
      follows : {c : Config} {p1 p2 : ℕ} (w : Went B) → Yields P w → Arrives serving seat c st1 p1 o w
          → ((b : B) (s : State) → P b → Arrives serving seat (Running p1 s (record o { stack = st1 b })) st p2 o (k b s)) → Arrives serving seat c st p2 o (then_do w k)
      follows (Well b s) y h g = record { by = λ d r. h.by d ((g b s y).by d r) }
      follows (Raised f place s) y h g = record { by = h.by }
      follows (Ended e s) y h g = record { by = h.by }
      follows (Awaits x s) y h g = record { by = h.by }

popped_behind : (ds stack acc : List Datum) (m n : ℕ) (o : Open) (go : List Datum → Open → Move) → n ≡ length ds + m → popped_onto n o (onto ds stack) acc go ≡ popped_onto m o stack (ds ++ acc) go
popped_behind [] stack acc m n o go e = let f : n ≡ m = omega (arith, e) in ap (λ k. popped_onto k o stack acc go) f
popped_behind (d ∷ ds) stack acc m n o go e = popped_behind ds (d ∷ stack) acc (suc m) n o go (omega (arith, e))

-- what was pushed is popped
pub popped_is : (ds : List Datum) (o : Open) (n : ℕ) (go : List Datum → Open → Move) → length ds ≡ n → popped_all n (record o { stack = onto ds o.stack }) go ≡ go ds o
popped_is ds o n go e = popped_behind ds o.stack [] 0 n (record o { stack = onto ds o.stack }) go (omega (arith, e)) ∙ ap (λ es. go es o) (append-nil ds)
