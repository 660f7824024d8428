-- A run of checked code stands with the shape of its place behind a fault, a part that went well, and values taken.
use Rattle.std.proofs.Common.{◌≡◌, ℕ, zero, suc, ◌+◌, ◌-◌, ◌<◌, ◌≤◌, Bool, true, false, List, [], ◌∷◌, ◌++◌, length, refl, ap, ◌∙◌, subst, arith}
use Rattle.std.specs.Prelude.{take}
use Rattle.std.proofs.lemmas.List.{length-drop}
use Rattle.http_in.specs.declared.params.Param.{Param}
use Rattle.out_buffer.specs.Writer.{last_of}
use Rattle.page_code.specs.Fits.{Carries, Above, Roomy, Takes}
use Rattle.page_code.specs.Shapes.{empty_shape}
use Rattle.page_code.specs.declared.code.Cell.{Cell}
use Rattle.page_code.specs.declared.shape.Level.{Level}
use Rattle.page_code.specs.declared.shape.Shape.{Shape}
use Rattle.pg_text.specs.declared.place.Place.{Place}
use Rattle.pg_value.specs.Datum.{Datum}
use Rattle.pg_value.specs.declared.fault.RunFault.{RunFault}
use Rattle.pg_value.specs.declared.fault.RunFault.TheVariants as fault
use Rattle.page_meaning.specs.Core.{is_caught}
use Rattle.page_meaning.specs.Loops.{without_named}
use Rattle.page_meaning.specs.State.{State}
use Rattle.page_meaning.specs.Went.{Did, Went, Well, Raised, Ended, Awaits, Leaving, forwards, redirects}
use Rattle.page_table.specs.Checked.{ServingFits, SeatFits, cut, Catches, none, also, HasShape, Stands}
use Rattle.page_table.specs.Landing.{Config, Running, Over, unwound, uncaught, caught_by, one_of, thrown, then_at, land}
use Rattle.page_table.specs.Laws.{EndLeavesBodies, LeavesBodies}
use Rattle.page_table.specs.Measure.{weights, weight}
use Rattle.page_table.specs.Move.{Move, On, Into, Stuck, then_move, popped_onto, popped_all, one_deeper}
use Rattle.page_table.specs.Open.{Loop, OpenCatch, Open, fresh_open}
use Rattle.page_table.specs.Program.{Program, good, Serving}
use Rattle.page_table.specs.Seat.{Seat, in_page, code_of}
use Rattle.page_table.proofs.Operating.{Works}
use Rattle.page_table.proofs.Pages.{Gone}
use Rattle.page_table.proofs.Records.{without_named_calm}
use Rattle.page_table.proofs.Tame.{kept, TameAt, Keeps, keeps_same, keeps_both}
use Rattle.page_table.proofs.Weights.{Less, nearer}

-- the next configuration: the run stands with the shape of its place, and the end is nearer
abbrev pub Next : List Cell → (base v w : ℕ) → Config → Type 0
Next code base v w (Running pc s o) = Stands code base pc (kept s) o × Less v w s.visits (weight (length code) pc o.catches)
Next code base v w (Over d) = LeavesBodies base v d

-- the beginning of a run of its own
abbrev pub Begun : Seat → (base v : ℕ) → Config → Type 0
Begun callee base v (Over d) = ⊥
Begun callee base v (Running at s o) = Stands (code_of callee) base at (kept s) o × (v ≤ s.visits)

-- where a run of its own runs: in codes whose shapes fit, or in a program that stands at a path
pub data CalleeFits (serving : Serving) : Seat → Type 0 where
  known : {callee : Seat} → SeatFits callee → CalleeFits serving callee
  stored_at : {params : List Param} (path : List ℕ) (program : Program) → serving.stored path ≡ good program → CalleeFits serving (in_page program params)

pub callee_fits : (serving : Serving) → ServingFits serving → (callee : Seat) → CalleeFits serving callee → SeatFits callee
callee_fits serving fits callee (known h) = h
callee_fits serving fits _ (stored_at path program e) = fits path program e

-- a run of its own: it begins with its place's shape, and however it ends, the run around it goes on with its place's
pub record Entered (serving : Serving) (code : List Cell) (base v w : ℕ) (callee : Seat) (first : Config) (back : Did → Config) : Type 0 where
  pub own : ℕ
  pub fits : CalleeFits serving callee
  pub begun : SeatFits callee → Begun callee own v first
  pub backs : (r : Did) → LeavesBodies own v r → Next code base v w (back r)

abbrev pub MoveFits : Serving → List Cell → (base v w : ℕ) → Move → Type 0
MoveFits serving code base v w (On c) = Next code base v w c
MoveFits serving code base v w (Into callee first back) = Entered serving code base v w callee first back
MoveFits serving code base v w Stuck = ⊥

-- how a tame part leaves the bodies
pub tame_leaves : {A : Type 0} (s : State) (w : Went A) → TameAt s w → LeavesBodies (kept s) s.visits w
tame_leaves s (Well a t) h = (h.bodies, h.visits)
tame_leaves s (Raised f place t) h = (omega (arith, h.bodies), h.visits)
tame_leaves s (Ended (redirects location) t) h = (omega (arith, h.bodies), h.visits)
tame_leaves s (Ended (forwards path params left) t) h = tt
tame_leaves s (Awaits step t) h = tt

-- fewer bodies, from fewer visits on
pub ended_fewer : (base more v v2 : ℕ) (leaving : Leaving) (s : State) → base ≤ more → v ≤ v2 → EndLeavesBodies more v2 leaving s → EndLeavesBodies base v leaving s
ended_fewer base more v v2 (redirects location) s a b h = (omega (arith, a, h.0), omega (arith, b, h.1))
ended_fewer base more v v2 (forwards path params left) s a b h = tt

pub unwound_keeps : (loops : List Loop) (s : State) → Keeps s (unwound loops s)
unwound_keeps [] s = keeps_same s
unwound_keeps (l ∷ outer) s =
    let t = without_named l.variable s in
    let u = without_named l.status t in
    keeps_both s t (unwound outer u) (without_named_calm l.variable s) (keeps_both t u (unwound outer u) (without_named_calm l.status t) (unwound_keeps outer u))

pub length_last : {A : Type 0} (n : ℕ) (xs : List A) → n ≤ length xs → length (last_of n xs) ≡ n
length_last n xs h = omega (arith, length-drop (length xs - n) xs, h)

-- what a fault finds
pub record Ready (code : List Cell) (base : ℕ) (o : Open) (sh : Shape) : Type 0 where
  pub roomy : Roomy sh
  pub values : sh.values ≤ length o.stack
  pub loops : sh.loops ≤ length o.loops
  pub catches : Catches code base o.catches sh.catches

pub ready : (code : List Cell) (base k : ℕ) (o : Open) (sh : Shape) → Roomy sh → HasShape code base k o sh → Ready code base o sh
ready code base k o sh roomy has = record { roomy = roomy; values = omega (arith, has.values); loops = omega (arith, has.loops); catches = has.catches }

module _ (code : List Cell) (base v w : ℕ) where
  uncaught_next : (f : RunFault) (place : Place) (s : State) (o : Open) → base ≤ kept s → v ≤ s.visits → Next code base v w (uncaught f place s o)
  uncaught_next f place s o bodies visits =
      let u = unwound_keeps o.loops s in
      (omega (arith, u.bodies, bodies), omega (arith, u.visits, visits))

  caught_next : (f : RunFault) (place : Place) (s : State) (o : Open) (sh : Shape) (catches : List OpenCatch) (levels : List Level) → Catches code base catches levels → Above levels sh
      → sh.values ≤ length o.stack → sh.loops ≤ length o.loops → base + sh.bodies ≤ kept s → v ≤ s.visits → weights (length code) catches < w → Next code base v w (caught_by f place s o catches)
  caught_next f place s o sh _ _ none above values loops bodies visits less = uncaught_next f place s o (omega (arith, bodies)) visits
  caught_next f place s o sh _ _ (also {l = l} {outer = outer} handler rest) above values loops bodies visits less =
      let t = unwound (take (length o.loops - l.loops) o.loops) s in
      let u = unwound_keeps (take (length o.loops - l.loops) o.loops) s in (
        record {
          shape = cut l outer;
          carries = handler;
          has = record {
            values = let e = length_last l.values o.stack (omega (arith, above.0, values)) in omega (arith, e);
            bodies = length_last (base + l.bodies) t.writer.kept (omega (arith, u.bodies, bodies, above.1));
            loops = length_last l.loops o.loops (omega (arith, above.2, loops));
            catches = rest;
          };
        },
        nearer (omega (arith, u.visits, visits)) less,
      )

  pub one_of_next : (b : Bool) (c other : Config) → Next code base v w c → Next code base v w other → Next code base v w (one_of b c other)
  one_of_next true c other h g = h
  one_of_next false c other h g = g

  pub thrown_next : (f : RunFault) (place : Place) (s : State) (o : Open) (sh : Shape) → Ready code base o sh → base + sh.bodies ≤ kept s → v ≤ s.visits
      → weights (length code) o.catches < w → Next code base v w (thrown f place s o)
  thrown_next f place s o sh ready bodies visits less =
      one_of_next (is_caught f) (caught_by f place s o o.catches) (uncaught f place s o)
      (caught_next f place s o sh o.catches sh.catches ready.catches ready.roomy ready.values ready.loops bodies visits less)
      (uncaught_next f place s o (omega (arith, bodies)) visits)

  -- on behind a part that went well
  pub at_next : {A : Type 0} (o : Open) (sh : Shape) (went : Went A) (go : A → State → Config) → Ready code base o sh → weights (length code) o.catches < w
      → LeavesBodies (base + sh.bodies) v went → ((a : A) (s : State) → kept s ≡ base + sh.bodies → v ≤ s.visits → Next code base v w (go a s)) → Next code base v w (then_at o went go)
  at_next o sh (Well a s) go ready less leaves h = h a s leaves.0 leaves.1
  at_next o sh (Raised f place s) go ready less leaves h = thrown_next f place s o sh ready leaves.0 leaves.1 less
  at_next o sh (Ended leaving s) go ready less leaves h = ended_fewer base (base + sh.bodies) v v leaving s (omega arith) (omega arith) leaves
  at_next o sh (Awaits step s) go ready less leaves h = tt

  -- the same of an operation, which left so many values
  pub works_next : (o : Open) (sh : Shape) (n to : ℕ) (s : State) (went : Went (List Datum)) → Works s n went → Ready code base o sh → weights (length code) o.catches < w
      → kept s ≡ base + sh.bodies → v ≤ s.visits
      → ((made : List Datum) (t : State) → length made ≡ n → kept t ≡ base + sh.bodies → v ≤ t.visits → Next code base v w (Running to t (record o { stack = made ++ o.stack })))
      → Next code base v w (land to (λ made. made ++ o.stack) o went)
  works_next o sh n to s (Well made t) works ready less bodies visits h = h made t works.made (works.keeps.bodies ∙ bodies) (omega (arith, works.keeps.visits, visits))
  works_next o sh n to s (Raised f place t) works ready less bodies visits h =
      thrown_next f place t o sh ready (omega (arith, works.keeps.bodies, bodies)) (omega (arith, works.keeps.visits, visits)) less
  works_next o sh n to s (Ended (redirects location) t) works ready less bodies visits h = (omega (arith, works.keeps.bodies, bodies), omega (arith, works.keeps.visits, visits))
  works_next o sh n to s (Ended (forwards path params left) t) works ready less bodies visits h = tt
  works_next o sh n to s (Awaits step t) works ready less bodies visits h = tt

  -- a part that never goes on
  pub gone_next : (o : Open) (sh : Shape) (s : State) (went : Did) (go : Unit {0} → State → Config) → Gone s went → Ready code base o sh → weights (length code) o.catches < w
      → kept s ≡ base + sh.bodies → v ≤ s.visits → Next code base v w (then_at o went go)
  gone_next o sh s (Well u t) go gone ready less bodies visits = absurd gone
  gone_next o sh s (Raised f place t) go gone ready less bodies visits = thrown_next f place t o sh ready (omega (arith, gone.bodies, bodies)) (omega (arith, gone.visits, visits)) less
  gone_next o sh s (Ended (redirects location) t) go gone ready less bodies visits = (omega (arith, gone.bodies, bodies), omega (arith, gone.visits, visits))
  gone_next o sh s (Ended (forwards path params left) t) go gone ready less bodies visits = tt
  gone_next o sh s (Awaits step t) go gone ready less bodies visits = tt

module _ (serving : Serving) (code : List Cell) (base v w : ℕ) where
  -- a move behind a part that went well
  pub then_next : {A : Type 0} (o : Open) (sh : Shape) (went : Went A) (go : A → State → Move) → Ready code base o sh → weights (length code) o.catches < w
      → LeavesBodies (base + sh.bodies) v went → ((a : A) (s : State) → kept s ≡ base + sh.bodies → v ≤ s.visits → MoveFits serving code base v w (go a s)) → MoveFits serving code base v w (then_move o went go)
  then_next o sh (Well a s) go ready less leaves h = h a s leaves.0 leaves.1
  then_next o sh (Raised f place s) go ready less leaves h = thrown_next code base v w f place s o sh ready leaves.0 leaves.1 less
  then_next o sh (Ended leaving s) go ready less leaves h = ended_fewer base (base + sh.bodies) v v leaving s (omega arith) (omega arith) leaves
  then_next o sh (Awaits step s) go ready less leaves h = tt

  -- one level deeper
  pub deeper_next : (place : Place) (s : State) (o : Open) (sh : Shape) (levels : ℕ) (go : (left : ℕ) → Move) → Ready code base o sh → weights (length code) o.catches < w
      → kept s ≡ base + sh.bodies → v ≤ s.visits → ((left : ℕ) → MoveFits serving code base v w (go left)) → MoveFits serving code base v w (one_deeper place s o levels go)
  deeper_next place s o sh zero go ready less bodies visits h = thrown_next code base v w fault.TooDeep place s o sh ready (omega (arith, bodies)) visits less
  deeper_next place s o sh (suc left) go ready less bodies visits h = h left

  -- values taken
  popped_onto_next : (n m : ℕ) (o : Open) (stack ds : List Datum) (go : List Datum → Open → Move) → length stack ≡ m + n
      → ((taken rest : List Datum) → length rest ≡ m → MoveFits serving code base v w (go taken (record o { stack = rest }))) → MoveFits serving code base v w (popped_onto n o stack ds go)
  popped_onto_next zero m o stack ds go e h = h ds stack (omega (arith, e))
  popped_onto_next (suc n) m o [] ds go e h = absurd (omega (arith, e))
  popped_onto_next (suc n) m o (d ∷ stack) ds go e h = popped_onto_next n m o stack (d ∷ ds) go (omega (arith, e)) h

  pub popped_all_next : (k n : ℕ) (o : Open) (sh : Shape) {Then : Shape → Type 0} (go : List Datum → Open → Move) → HasShape code base k o sh → Takes n sh Then
      → ((taken : List Datum) (p : Open) (r : Shape) → p.catches ≡ o.catches → p.left ≡ o.left → HasShape code base k p r → Ready code base p r → Then r → MoveFits serving code base v w (go taken p))
      → MoveFits serving code base v w (popped_all n o go)
  popped_all_next k n o sh go has takes h =
      popped_onto_next n takes.rest.values o o.stack [] go (has.values ∙ ap (λ x. x.values) takes.was) (λ taken rest e.
      let p : Open = record o { stack = rest } in
      let hp : HasShape code base k p takes.rest = record {
        values = e;
        bodies = has.bodies ∙ ap (λ x. base + x.bodies) takes.was;
        loops = has.loops ∙ ap (λ x. x.loops) takes.was;
        catches = subst (λ x. Catches code base o.catches x.catches) takes.was has.catches;
      } in
      h taken p takes.rest refl refl hp (ready code base k p takes.rest takes.roomy hp) takes.next)

-- at a code's beginning
pub starts : (code : List Cell) (k at left : ℕ) → Carries code at empty_shape → Stands code k at k (fresh_open left)
starts code k at left c = record { shape = empty_shape; carries = c; has = record { values = refl; bodies = omega arith; loops = refl; catches = none } }
