-- Each run of checked code has an end.
use Rattle.std.proofs.Common.{◌≡◌, ℕ, zero, suc, ◌+◌, ◌<◌, length, refl, subst, arith}
use Rattle.page_meaning.specs.State.{State}
use Rattle.page_meaning.specs.Went.{Did}
use Rattle.page_table.specs.Act.{move_of}
use Rattle.page_table.specs.Checked.{ServingFits, SeatFits, Stands}
use Rattle.page_table.specs.Landing.{Config, Running, Over}
use Rattle.page_table.specs.Laws.{EachRunEnds}
use Rattle.page_table.specs.Measure.{weight, span, to_go}
use Rattle.page_table.specs.Move.{Move, On, Into, Stuck}
use Rattle.page_table.specs.Open.{Open}
use Rattle.page_table.specs.Program.{Serving}
use Rattle.page_table.specs.Runs.{Runs, over, on, into}
use Rattle.page_table.specs.Seat.{Seat, code_of}
use Rattle.page_table.proofs.Growing.{move_goes}
use Rattle.page_table.proofs.Onward.{LeftIs, MoveGoes}
use Rattle.page_table.proofs.Standing.{Next, Begun, callee_fits, MoveFits}
use Rattle.page_table.proofs.Tame.{kept}
use Rattle.page_table.proofs.Turns.{move_next, first_next, run_leaves}
use Rattle.page_table.proofs.Weights.{weight_span, fewer}

-- a run to its end
abbrev Ends : Serving → Seat → Config → Type 0
Ends serving seat c = (d : Did) × Runs serving seat c d

module _ (serving : Serving) (fits : ServingFits serving) where
  -- runs with so many levels left end
  abbrev EndsDeep : ℕ → Type 0
  EndsDeep k = (seat : Seat) → SeatFits seat → (base pc : ℕ) (s : State) (o : Open) → Stands (code_of seat) base pc (kept s) o → o.left ≡ k → Ends serving seat (Running pc s o)

  ends_n : (k : ℕ) → ((j : ℕ) → suc j ≡ k → EndsDeep j) → (n : ℕ) (seat : Seat) (seated : SeatFits seat) (base pc : ℕ) (s : State) (o : Open) → Stands (code_of seat) base pc (kept s) o → o.left ≡ k
      → to_go (code_of seat) pc s o < n → Ends serving seat (Running pc s o)
  ends_n k deeper zero seat seated base pc s o st l h = absurd (omega (arith, h))
  ends_n k deeper (suc n) seat seated base pc s o st l h =
      go (λ c next left. again c next left (λ pc2 s2 o2 f e.
      ends_n k deeper n seat seated base pc2 s2 o2 f.0 e
      (let lt = fewer s.visits s2.visits (span (code_of seat)) (weight (length (code_of seat)) pc o.catches) (weight (length (code_of seat)) pc2 o2.catches) f.1 (weight_span (code_of seat) base pc2 (kept s2) o2 f.0) in
      omega (arith, lt, h))))
      (move_of serving seat pc s o) refl (move_next serving seat seated base pc s o st) (subst (λ m. MoveGoes m s (move_of serving seat pc s o)) l (move_goes serving seat pc s o))
    where
      again : (c : Config) → Next (code_of seat) base s.visits (weight (length (code_of seat)) pc o.catches) c → LeftIs k c
          → ((pc2 : ℕ) (s2 : State) (o2 : Open) → Next (code_of seat) base s.visits (weight (length (code_of seat)) pc o.catches) (Running pc2 s2 o2) → o2.left ≡ k → Ends serving seat (Running pc2 s2 o2))
          → Ends serving seat c
      again (Over d) next left rec = (d, over seat d)
      again (Running pc2 s2 o2) next left rec = rec pc2 s2 o2 next left

      first_ends : (j own v : ℕ) (callee : Seat) (first : Config) → suc j ≡ k → SeatFits callee → Begun callee own v first → LeftIs j first → Ends serving callee first
      first_ends j own v callee (Over d) e cf b lf = absurd b
      first_ends j own v callee (Running at s1 o1) e cf b lf = deeper j e callee cf own at s1 o1 b.0 lf

      go : ((c : Config) → Next (code_of seat) base s.visits (weight (length (code_of seat)) pc o.catches) c → LeftIs k c → Ends serving seat c)
          → (m : Move) → move_of serving seat pc s o ≡ m → MoveFits serving (code_of seat) base s.visits (weight (length (code_of seat)) pc o.catches) m → MoveGoes k s m → Ends serving seat (Running pc s o)
      go rec (On c) e f lm = let r = rec c f lm.left in (r.0, on seat pc s o c r.0 e r.1)
      go rec (Into callee first back) e f lm =
          let cf = callee_fits serving fits callee f.fits in
          let inner = first_ends lm.deeper f.own s.visits callee first lm.less cf (f.begun cf) lm.begins.left in
          let fn = first_next callee f.own s.visits first (f.begun cf) in
          let ef = run_leaves serving fits callee cf f.own s.visits fn.0 first inner.0 fn.1 inner.1 in
          let r = rec (back inner.0) (f.backs inner.0 ef) (lm.backs inner.0).left in
          (r.0, into seat pc s o callee first back inner.0 r.0 e inner.1 r.1)
      go rec Stuck e f lm = absurd f

  all_end : (k : ℕ) → EndsDeep k
  all_end zero seat seated base pc s o st l = ends_n zero (λ j e. absurd (omega (arith, e))) (to_go (code_of seat) pc s o + 1) seat seated base pc s o st l (omega arith)
  all_end (suc k) seat seated base pc s o st l =
      let deep = all_end k in
      ends_n (suc k) (λ j e. let q : k ≡ j = omega (arith, e) in subst EndsDeep q deep) (to_go (code_of seat) pc s o + 1) seat seated base pc s o st l (omega arith)

pub each_run_ends : EachRunEnds
each_run_ends serving fits seat seated base pc s o st = all_end serving fits o.left seat seated base pc s o st refl
