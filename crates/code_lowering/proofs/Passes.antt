-- The shapes that the code of a form carries fit, wherever it stands.
use Rattle.std.proofs.Common.{◌≡◌, ℕ, zero, suc, ◌+◌, ◌-◌, Bool, true, false, List, [], ◌∷◌, ◌++◌, length, Some, Option, None, bytes_eq, refl, sym, ap, ◌∙◌, subst, arith, length-append}
use Rattle.std.specs.Prelude.{slice_get}
use Rattle.page_code.specs.Calls.{body_size, fragments_size}
use Rattle.page_code.specs.Fits.{Carries, Above, Roomy, Takes, BodyBegins, FragmentsBegin, FitsInstr, AllFit}
use Rattle.page_code.specs.Ops.{takes}
use Rattle.page_code.specs.Shapes.{cell, empty_shape, up, keeping, looping, trying}
use Rattle.page_code.specs.declared.call.Leave.TheVariants as leave
use Rattle.page_code.specs.declared.code.Cell.{Cell}
use Rattle.page_code.specs.declared.instr.Instr.{Instr}
use Rattle.page_code.specs.declared.instr.Instr.TheVariants as instr
use Rattle.page_code.specs.declared.op.Op.TheVariants as op
use Rattle.page_code.specs.declared.shape.Level.{Level}
use Rattle.page_code.specs.declared.shape.Shape.{Shape}
use Rattle.pg_text.specs.declared.place.Place.{Place}
use Rattle.pg_value.specs.declared.value.Value.TheVariants as value
use Rattle.code_forms.specs.Codes.{Parted, parted_with, parted, brought_code, dropped_code, put_code, arranged_code, either_code, rounds_code, handed_code, form_code, callee_call, body_code, body_of, fragments_code, sizes_of}
use Rattle.code_forms.specs.Forms.{Form, more, nothing, both, above, counted, does, arranged, swapped, kept, chosen, where_null, ensured, looped, caught, Callee, own_body, own_fragment, included_page, imported_page, callee_takes, calls, calls_tag, forwards_to, redirects_to, Handed, nothing_handed, source_handed, code_handed, Fragments, no_fragments, fragment}
use Rattle.code_lowering.proofs.Stands.{HasAt, has_front, has_back}

pub up_more : (k n : ℕ) (sh : Shape) → up n (up k sh) ≡ up (more k n) sh
up_more k n sh = let e : sh.values + k + n ≡ sh.values + more k n = added k n in ap (λ v. record sh { values = v }) e
  where
    added : (k n : ℕ) → sh.values + k + n ≡ sh.values + more k n
    added zero n = omega arith
    added (suc k) n = let h = added k n in omega (arith, h)

pub up_none : (sh : Shape) → up 0 sh ≡ sh
up_none sh = let e : sh.values + 0 ≡ sh.values = omega arith in ap (λ v. record sh { values = v }) e

pub up_up : (k n : ℕ) (sh : Shape) → up n (up k sh) ≡ up (n + k) sh
up_up k n sh = let e : sh.values + k + n ≡ sh.values + (n + k) = omega arith in ap (λ v. record sh { values = v }) e

above_up : (cs : List Level) (n : ℕ) (sh : Shape) → Above cs sh → Above cs (up n sh)
above_up [] n sh h = tt
above_up (c ∷ outer) n sh h = (omega (arith, h.0), h.1, h.2)

above_keeping : (cs : List Level) (sh : Shape) → Above cs sh → Above cs (keeping sh)
above_keeping [] sh h = tt
above_keeping (c ∷ outer) sh h = (h.0, omega (arith, h.1), h.2)

above_looping : (cs : List Level) (sh : Shape) → Above cs sh → Above cs (looping sh)
above_looping [] sh h = tt
above_looping (c ∷ outer) sh h = (h.0, h.1, omega (arith, h.2))

roomy_up : (n : ℕ) (sh : Shape) → Roomy sh → Roomy (up n sh)
roomy_up n sh r = above_up sh.catches n sh r

-- the cells that a call passes over
pub fragments_length : (fs : Fragments) → fragments_size (sizes_of fs) ≡ length (fragments_code fs)
fragments_length no_fragments = refl
fragments_length (fragment name f place rest) =
    let e = fragments_length rest in
    let cells = handed_code place (form_code empty_shape f) in
    let l = length-append cells (fragments_code rest) in
    omega (arith, e, l)

pub body_length : (b : Handed) → body_size (body_of b) ≡ length (body_code b)
body_length nothing_handed = refl
body_length (source_handed text) = refl
body_length (code_handed f place) = refl

module _ (code : List Cell) where
  fit_both : (pc : ℕ) (a b : List Cell) → AllFit code pc a → AllFit code (pc + length a) b → AllFit code pc (a ++ b)
  fit_both pc [] b h g = let e : pc + 0 ≡ pc = omega arith in subst (λ n. AllFit code n b) e g
  fit_both pc (c ∷ a) b h g = let e : pc + length (c ∷ a) ≡ pc + 1 + length a = omega arith in (h.0, fit_both (pc + 1) a b h.1 (subst (λ n. AllFit code n b) e g))

  carries_here : {pc : ℕ} {place : Place} {sh : Shape} {i : Instr} → slice_get code pc ≡ Some (cell sh place i) → Carries code pc sh
  carries_here {place = place} {sh = sh} {i = i} h = record { cell = cell sh place i; stands = h; shape = refl }

  carries_at : (p q : ℕ) (sh : Shape) → p ≡ q → Carries code p sh → Carries code q sh
  carries_at p q sh e h = subst (λ n. Carries code n sh) e h

  carries_as : (p : ℕ) (a b : Shape) → a ≡ b → Carries code p a → Carries code p b
  carries_as p a b e h = subst (Carries code p) e h

  take_up : (n : ℕ) (sh : Shape) {Then : Shape → Type 0} → Roomy sh → Then sh → Takes n (up n sh) Then
  take_up n sh r t = record { rest = sh; was = refl; roomy = r; next = t }

  -- the statement for shapes: wherever the cells stand, if what is behind them carries the shape after, they fit, and the first (or what is behind) carries the shape before
  pub record Passes (a b : Shape) (cells : List Cell) : Type 0 where
    pub by : (pc : ℕ) → HasAt code pc cells → Carries code (pc + length cells) b → Carries code pc a × AllFit code pc cells

  none_passes : (sh : Shape) → Passes sh sh []
  none_passes sh = record { by = λ pc h end. let e : pc + 0 ≡ pc = omega arith in (carries_at _ _ sh e end, tt) }

  one_passes : {a b : Shape} {i : Instr} (place : Place) → Roomy a → ((pc : ℕ) → Carries code (pc + 1) b → FitsInstr code pc a i) → Passes a b (cell a place i ∷ [])
  one_passes place r f = record { by = λ pc h end. (carries_here h.0, ((r, f pc end), tt)) }

  then_passes : {a c : Shape} (b : Shape) (c1 c2 : List Cell) → Passes a b c1 → Passes b c c2 → Passes a c (c1 ++ c2)
  then_passes {c = c} b c1 c2 f g = record {
    by = λ pc h end.
        let len : pc + length (c1 ++ c2) ≡ pc + length c1 + length c2 = omega (arith, length-append c1 c2) in
        let second = g.by (pc + length c1) (has_back code pc c1 c2 h) (carries_at _ _ c len end) in
        let first = f.by pc (has_front code pc c1 c2 h) second.0 in
        (first.0, fit_both pc c1 c2 first.1 second.1);
  }

  pub before_as : {a a2 b : Shape} {cells : List Cell} → a ≡ a2 → Passes a b cells → Passes a2 b cells
  before_as {b = b} {cells = cells} e f = subst (λ a. Passes a b cells) e f

  pub after_as : {a b b2 : Shape} {cells : List Cell} → b ≡ b2 → Passes a b cells → Passes a b2 cells
  after_as {a = a} {cells = cells} e f = subst (λ b. Passes a b cells) e f

  -- one of two, where the test leads from one shape to the shapes before each
  either_passes : (sh fa fb out : Shape) (place : Place) (test : ℕ → Instr) (ca cb : List Cell) → Roomy sh → Roomy out
      → ((n pc : ℕ) → Carries code (pc + 1) fa → Carries code (pc + 1 + n) fb → FitsInstr code pc sh (test n)) → Passes fa out ca → Passes fb out cb
      → Passes sh out (either_code sh out place test ca cb)
  either_passes sh fa fb out place test ca cb r ro row ha hb = record {
    by = λ pc h end.
        let jump = cell out place (instr.Jump (length cb)) ∷ [] in
        let front = ca ++ jump in
        let len : pc + suc (length (front ++ cb)) ≡ pc + 1 + length front + length cb = omega (arith, length-append front cb) in
        let len2 : pc + 1 + length front + length cb ≡ pc + 1 + length ca + 1 + length cb = omega (arith, length-append ca jump) in
        let e = carries_at _ _ out len end in
        let hy = has_front code (pc + 1) front cb h.1 in
        let b = hb.by (pc + 1 + length front) (has_back code (pc + 1) front cb h.1) e in
        let a = ha.by (pc + 1) (has_front code (pc + 1) ca jump hy) (carries_here (has_back code (pc + 1) ca jump hy).0) in
        (carries_here h.0, ((r, row (length front) pc a.0 b.0), fit_both (pc + 1) front cb (fit_both (pc + 1) ca jump a.1 ((ro, carries_at _ _ out len2 e), tt)) b.1));
  }

  rounds_pass : (sh : Shape) (place : Place) (cb : List Cell) → Roomy sh → Passes (looping sh) (looping sh) cb → Passes (looping sh) sh (rounds_code sh place cb)
  rounds_pass sh place cb r f = record {
    by = λ pc h end.
        let tail = cell (looping sh) place (instr.LoopNext (length cb)) ∷ [] in
        let len : pc + suc (length (cb ++ tail)) ≡ pc + 1 + length cb + 1 = omega (arith, length-append cb tail) in
        let back : pc + 1 ≡ pc + 1 + length cb - length cb = omega arith in
        let inner = above_looping sh.catches sh r in
        let next = carries_here (has_back code (pc + 1) cb tail h.1).0 in
        let b = f.by (pc + 1) (has_front code (pc + 1) cb tail h.1) next in (
          carries_here h.0,
          (
            (inner, next),
            fit_both (pc + 1) cb tail b.1
                ((inner, record { rest = sh; was = refl; next = (omega arith, carries_at _ _ sh len end, carries_at _ _ (looping sh) back b.0) }), tt),
          ),
        );
  }

  catch_passes : (sh : Shape) (place : Place) (tried last : List Cell) → Roomy sh → Passes (trying sh) (up 1 sh) tried → Passes (up 1 sh) sh last
      → Passes sh sh (cell sh place (instr.CatchStart (length tried)) ∷ (tried ++ last))
  catch_passes sh place tried last r f g = record {
    by = λ pc h end.
        let len : pc + suc (length (tried ++ last)) ≡ pc + 1 + length tried + length last = omega (arith, length-append tried last) in
        let b = g.by (pc + 1 + length tried) (has_back code (pc + 1) tried last h.1) (carries_at _ _ sh len end) in
        let a = f.by (pc + 1) (has_front code (pc + 1) tried last h.1) b.0 in
        (carries_here h.0, ((r, (a.0, b.0)), fit_both (pc + 1) tried last a.1 b.1));
  }

  -- what a caller hands down
  pub handed_passes : (place : Place) (part : List Cell) → Passes empty_shape empty_shape part → (pc : ℕ) → HasAt code pc (handed_code place part)
      → Carries code pc empty_shape × AllFit code pc (handed_code place part)
  handed_passes place part f pc h =
      let tail = cell empty_shape place (instr.Leave leave.End) ∷ [] in
      let b = f.by pc (has_front code pc part tail h) (carries_here (has_back code pc part tail h).0) in
      (b.0, fit_both pc part tail b.1 ((tt, refl), tt))

  brought_passes : (sh rest : Shape) (place : Place) (k : ℕ) → sh ≡ up (suc k) rest → Roomy rest → Passes sh sh (brought_code sh place k)
  brought_passes sh rest place zero e r = none_passes sh
  brought_passes sh rest place (suc k) e r =
      let e2 : up (suc (suc k)) rest ≡ up (suc k + 1) rest = ap (λ n. up n rest) (omega arith) in
      one_passes place (subst Roomy (sym e) (roomy_up (suc (suc k)) rest r)) (λ pc c. record { rest = rest; was = e ∙ e2; roomy = r; next = c })

  pop_passes : (sh : Shape) (place : Place) (k : ℕ) → Roomy sh → Passes (up (suc k) sh) (up k sh) (cell (up (suc k) sh) place (instr.Op op.Pop) ∷ [])
  pop_passes sh place k r =
      let e : up (suc k) sh ≡ up 1 (up k sh) = ap (λ v. record sh { values = v }) (omega arith) in
      one_passes place (roomy_up (suc k) sh r) (λ pc c. record { rest = up k sh; was = e; roomy = roomy_up k sh r; next = carries_as (pc + 1) _ _ (sym (up_none (up k sh))) c })

  dropped_passes : (sh : Shape) (place : Place) (k n : ℕ) → Roomy sh → Passes (up (n + k) sh) (up k sh) (dropped_code sh place k n)
  dropped_passes sh place k zero r = before_as (ap (λ n. up n sh) (omega arith)) (none_passes (up k sh))
  dropped_passes sh place k (suc n) r =
      let here = up (suc n + k) sh in
      let e : here ≡ up (suc k) (up n sh) = ap (λ v. record sh { values = v }) (omega arith) in
      let e2 : suc n + k ≡ suc (n + k) = omega arith in
      then_passes here (brought_code here place k) _ (brought_passes here (up n sh) place k e (roomy_up n sh r))
      (then_passes (up (n + k) sh) (cell here place (instr.Op op.Pop) ∷ []) (dropped_code sh place k n)
      (subst (λ m. Passes (up m sh) (up (n + k) sh) (cell (up m sh) place (instr.Op op.Pop) ∷ [])) (sym e2) (pop_passes sh place (n + k) r)) (dropped_passes sh place k n r))

  -- a name that was parted from the others leaves all but one
  abbrev Lengths : List (List ℕ) → Option Parted → Type 0
  Lengths names None = Unit {0}
  Lengths names (Some p) = length names ≡ suc (length (p.before ++ p.behind))

  lengths_with : (n : List ℕ) (names : List (List ℕ)) (r : Option Parted) (same : Bool) → Lengths names r → Lengths (n ∷ names) (parted_with n names r same)
  lengths_with n names (Some p) same h = omega (arith, h)
  lengths_with n names None true h = refl
  lengths_with n names None false h = tt

  lengths : (w : List ℕ) (names : List (List ℕ)) → Lengths names (parted w names)
  lengths w [] = tt
  lengths w (n ∷ names) = lengths_with n names (parted w names) (bytes_eq w n) (lengths w names)

  put_passes : (sh : Shape) (place : Place) (names : List (List ℕ)) (done total : ℕ) (r : Option Parted) (rest : List (List ℕ) → List Cell) → Roomy sh → Lengths names r
      → ((others : List (List ℕ)) → Passes (up (length others + suc done) sh) (up total sh) (rest others)) → Passes (up (length names + done) sh) (up total sh) (put_code sh place names done r rest)
  put_passes sh place names done total (Some p) rest r h f =
      let others = p.before ++ p.behind in
      let here = up (length names + done) sh in
      let split = length-append p.before p.behind in
      let same : up (length others + suc done) sh ≡ here = ap (λ n. up n sh) (omega (arith, h)) in
      let e : here ≡ up (suc (length p.behind + done)) (up (length p.before) sh) = ap (λ v. record sh { values = v }) (omega (arith, h, split)) in
      then_passes here (brought_code here place (length p.behind + done)) (rest others)
      (brought_passes here (up (length p.before) sh) place (length p.behind + done) e (roomy_up (length p.before) sh r)) (before_as same (f others))
  put_passes sh place names done total None rest r h f =
      let here = up (length names + done) sh in
      let e : up 1 here ≡ up (length names + suc done) sh = ap (λ v. record sh { values = v }) (omega arith) in
      let e0 : here ≡ up 0 here = sym (up_none here) in
      then_passes (up (length names + suc done) sh) (cell here place (instr.Op (op.Const value.Null)) ∷ []) (rest names)
      (one_passes place (roomy_up (length names + done) sh r)
      (λ pc c. record { rest = here; was = e0; roomy = roomy_up (length names + done) sh r; next = carries_as (pc + 1) _ _ (sym e) c })) (f names)

  arranged_passes : (sh : Shape) (place : Place) (wanted names : List (List ℕ)) (done : ℕ) → Roomy sh
      → Passes (up (length names + done) sh) (up (length wanted + done) sh) (arranged_code sh place wanted names done)
  arranged_passes sh place [] names done r = after_as (ap (λ n. up n sh) (omega arith)) (dropped_passes sh place done (length names) r)
  arranged_passes sh place (w ∷ wanted) names done r =
      let e : up (length wanted + suc done) sh ≡ up (length (w ∷ wanted) + done) sh = ap (λ n. up n sh) (omega arith) in
      after_as e (put_passes sh place names done (length wanted + suc done) (parted w names) (λ others. arranged_code sh place wanted others (suc done)) r (lengths w names)
      (λ others. arranged_passes sh place wanted others (suc done) r))

  -- a call that hands nothing down
  callee_fits : (callee : Callee) (sh : Shape) (pc : ℕ) → Roomy sh → Carries code (pc + 1) sh → FitsInstr code pc (up (callee_takes callee) sh) (instr.CallOut (callee_call callee))
  callee_fits own_body sh pc r c = carries_as (pc + 1) _ _ (sym (up_none sh)) c
  callee_fits (own_fragment name) sh pc r c = carries_as (pc + 1) _ _ (sym (up_none sh)) c
  callee_fits (included_page flush params) sh pc r c = take_up _ sh r c
  callee_fits imported_page sh pc r c = take_up 1 sh r c

  mutual
    -- the code of a form passes from the shape with what it takes to the shape with what it leaves
    pub form_passes : {n m : ℕ} (f : Form n m) (sh : Shape) → Roomy sh → Passes (up n sh) (up m sh) (form_code sh f)
    form_passes (nothing {n = n}) sh r = none_passes (up n sh)
    form_passes (both {m = m} f g) sh r = then_passes (up m sh) (form_code sh f) (form_code sh g) (form_passes f sh r) (form_passes g sh r)
    form_passes (above {n = n} {m = m} k f) sh r = before_as (up_more k n sh) (after_as (up_more k m sh) (form_passes f (up k sh) (roomy_up k sh r)))
    form_passes (counted e f) sh r = after_as (ap (λ n. up n sh) e) (form_passes f sh r)
    form_passes (does o place) sh r = one_passes place (roomy_up (takes o) sh r) (λ pc c. take_up (takes o) sh r c)
    form_passes (arranged wanted names place) sh r =
        let e1 : up (length names + 0) sh ≡ up (length names) sh = ap (λ n. up n sh) (omega arith) in
        let e2 : up (length wanted + 0) sh ≡ up (length wanted) sh = ap (λ n. up n sh) (omega arith) in
        before_as e1 (after_as e2 (arranged_passes sh place wanted names 0 r))
    form_passes (swapped place) sh r = one_passes place (roomy_up 2 sh r) (λ pc c. take_up 2 sh r c)
    form_passes (kept {n = n} f place) sh r =
        let k = keeping sh in
        let rk = above_keeping sh.catches sh r in
        let ends : Passes k (up 1 sh) (cell k place instr.TakeBody ∷ []) = one_passes place rk (λ pc c. record { rest = sh; was = refl; next = c }) in
        then_passes (up n k) (cell (up n sh) place instr.StartBody ∷ []) _ (one_passes place (roomy_up n sh r) (λ pc c. c))
        (then_passes k (form_code k f) _ (after_as (up_none k) (form_passes f k rk)) ends)
    form_passes (chosen {n = n} {m = m} f g place) sh r =
        let e : up (suc n) sh ≡ up 1 (up n sh) = ap (λ v. record sh { values = v }) (omega arith) in
        either_passes (up (suc n) sh) (up n sh) (up n sh) (up m sh) place (instr.JumpIf false) (form_code sh f) (form_code sh g) (roomy_up (suc n) sh r) (roomy_up m sh r)
        (λ i pc a b. record { rest = up n sh; was = e; roomy = roomy_up n sh r; next = (a, b) }) (form_passes f sh r) (form_passes g sh r)
    form_passes (where_null {n = n} {m = m} f g place) sh r =
        let e : up (suc n) sh ≡ up 1 (up n sh) = ap (λ v. record sh { values = v }) (omega arith) in
        either_passes (up (suc n) sh) (up (suc n) sh) (up n sh) (up m sh) place instr.JumpNull (form_code sh g) (form_code sh f) (roomy_up (suc n) sh r) (roomy_up m sh r)
        (λ i pc a b. record { rest = up n sh; was = e; roomy = roomy_up n sh r; next = (a, b) }) (form_passes g sh r) (form_passes f sh r)
    form_passes (ensured x bean f place) sh r =
        let inner = before_as (up_none sh) (after_as (up_none sh) (form_passes f sh r)) in
        before_as (sym (up_none sh)) (after_as (sym (up_none sh)) (record {
          by = λ pc h end.
              let len : pc + suc (length (form_code sh f)) ≡ pc + 1 + length (form_code sh f) = omega arith in
              let e = carries_at _ _ sh len end in
              let b = inner.by (pc + 1) h.1 e in
              (carries_here h.0, ((r, (b.0, e)), b.1));
        }))
    form_passes (looped kind f place) sh r =
        let first = cell (up (length kind.names) sh) place (instr.LoopStart kind) ∷ [] in
        let inner = form_passes f (looping sh) (above_looping sh.catches sh r) in
        then_passes (looping sh) first (rounds_code sh place (form_code (looping sh) f)) (one_passes place (roomy_up (length kind.names) sh r) (λ pc c. take_up (length kind.names) sh r c))
        (after_as (sym (up_none sh)) (rounds_pass sh place (form_code (looping sh) f) r (before_as (up_none (looping sh)) (after_as (up_none (looping sh)) inner))))
    form_passes (caught f handler place) sh r =
        let t = trying sh in
        let rt : Roomy t = (omega arith, omega arith, omega arith) in
        let ends = cell t place instr.CatchEnd ∷ [] in
        let gives = cell sh place (instr.Op (op.Const value.Null)) ∷ [] in
        let tried = before_as (up_none t) (after_as (up_none t) (form_passes f t rt)) in
        let last = after_as (up_none sh) (form_passes handler sh r) in
        before_as (sym (up_none sh)) (after_as (sym (up_none sh)) (catch_passes sh place (form_code t f ++ (ends ++ gives)) (form_code sh handler) r
        (then_passes t (form_code t f) (ends ++ gives) tried
        (then_passes sh ends gives (one_passes place rt (λ pc c. record { rest = sh; was = refl; next = c }))
        (one_passes place r (λ pc c. record { rest = sh; was = sym (up_none sh); roomy = r; next = c })))) last))
    form_passes (calls callee place) sh r = one_passes place (roomy_up (callee_takes callee) sh r) (λ pc c. callee_fits callee sh pc r (carries_as (pc + 1) _ _ (up_none sh) c))
    form_passes (calls_tag path names b fs place) sh r = record {
      by = λ pc h end.
          let cells = body_code b ++ fragments_code fs in
          let lb = body_length b in
          let lf = fragments_length fs in
          let la = length-append (body_code b) (fragments_code fs) in
          let to : pc + suc (length cells) ≡ pc + 1 + (body_size (body_of b) + fragments_size (sizes_of fs)) = omega (arith, lb, lf, la) in
          let at : pc + 1 + length (body_code b) ≡ pc + 1 + body_size (body_of b) = omega (arith, lb) in
          let hb = body_begins b (pc + 1) (has_front code (pc + 1) (body_code b) (fragments_code fs) h.1) in
          let hf = fragments_begin fs (pc + 1 + length (body_code b)) (has_back code (pc + 1) (body_code b) (fragments_code fs) h.1) in
          let behind = carries_as _ _ _ (up_none sh) (carries_at _ _ (up 0 sh) to end) in
          let begins = subst (λ p. FragmentsBegin code p (sizes_of fs)) at hf.0 in
          (carries_here h.0, ((roomy_up (length names) sh r, take_up (length names) sh r (hb.0, begins, behind)), fit_both (pc + 1) (body_code b) (fragments_code fs) hb.1 hf.1));
    }
    form_passes (forwards_to params place) sh r = one_passes place (roomy_up (takes (op.Url params)) sh r) (λ pc c. take_up _ sh r tt)
    form_passes (redirects_to place) sh r = one_passes place (roomy_up 1 sh r) (λ pc c. take_up 1 sh r tt)

    body_begins : (b : Handed) (pc : ℕ) → HasAt code pc (body_code b) → BodyBegins code pc (body_of b) × AllFit code pc (body_code b)
    body_begins nothing_handed pc h = (tt, tt)
    body_begins (source_handed text) pc h = (tt, tt)
    body_begins (code_handed f place) pc h = handed_passes place (form_code empty_shape f) (before_as (up_none empty_shape) (after_as (up_none empty_shape) (form_passes f empty_shape tt))) pc h

    fragments_begin : (fs : Fragments) (pc : ℕ) → HasAt code pc (fragments_code fs) → FragmentsBegin code pc (sizes_of fs) × AllFit code pc (fragments_code fs)
    fragments_begin no_fragments pc h = (tt, tt)
    fragments_begin (fragment name f place rest) pc h =
        let cells = handed_code place (form_code empty_shape f) in
        let first =
        handed_passes place (form_code empty_shape f) (before_as (up_none empty_shape) (after_as (up_none empty_shape) (form_passes f empty_shape tt))) pc
        (has_front code pc cells (fragments_code rest) h) in
        let others = fragments_begin rest (pc + length cells) (has_back code pc cells (fragments_code rest) h) in
        ((first.0, others.0), fit_both pc cells (fragments_code rest) first.1 others.1)
