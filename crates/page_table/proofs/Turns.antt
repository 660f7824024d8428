-- Checked code is never stuck, keeps its shapes, and comes nearer to its end with each turn.
use Rattle.std.proofs.Common.{◌≡◌, ℕ, ◌+◌, length, refl, sym, subst, arith}
use Rattle.page_code.specs.Fits.{FitsInstr}
use Rattle.page_meaning.specs.State.{State}
use Rattle.page_meaning.specs.Went.{Did}
use Rattle.page_table.specs.Act.{act_at, move_of}
use Rattle.page_table.specs.Checked.{ServingFits, SeatFits, HasShape, Stands}
use Rattle.page_table.specs.Landing.{Config, Running, Over}
use Rattle.page_table.specs.Laws.{LeavesBodies, NeverStuck, TurnsStand, TurnsComeNearer, RunsLeaveBodies}
use Rattle.page_table.specs.Measure.{weight, span}
use Rattle.page_table.specs.Open.{Open}
use Rattle.page_table.specs.Program.{Serving}
use Rattle.page_table.specs.Runs.{Runs, over, on, into, Turned, moved, called}
use Rattle.page_table.specs.Seat.{Seat, code_of}
use Rattle.page_table.proofs.Fitting.{fit_at, carries_within, seat_code_fits, act_fits}
use Rattle.page_table.proofs.RowLemmas.{later_leaves}
use Rattle.page_table.proofs.Standing.{Next, Begun, callee_fits, MoveFits}
use Rattle.page_table.proofs.Tame.{kept}
use Rattle.page_table.proofs.Weights.{nearer, less_visits, weight_span, fewer}

-- what the table does from a state that has its place's shape
pub move_next : (serving : Serving) (seat : Seat) (seated : SeatFits seat) (base pc : ℕ) (s : State) (o : Open) → Stands (code_of seat) base pc (kept s) o
    → MoveFits serving (code_of seat) base s.visits (weight (length (code_of seat)) pc o.catches) (move_of serving seat pc s o)
move_next serving seat seated base pc s o stands =
    let code = code_of seat in
    let cell = stands.carries.cell in
    let within = carries_within code pc stands.shape stands.carries in
    let cf = seat_code_fits seat seated in
    let f = fit_at code code 0 pc cell cf.1 stands.carries.stands in
    let from_zero : 0 + pc ≡ pc = omega arith in
    let has : HasShape code base (kept s) o cell.shape = subst (HasShape code base (kept s) o) (sym stands.carries.shape) stands.has in
    let fi : FitsInstr code pc cell.shape cell.instr = subst (λ m. FitsInstr code m cell.shape cell.instr) from_zero f.1 in
    subst (λ c. MoveFits serving code base s.visits (weight (length code) pc o.catches) (act_at serving seat pc s o c)) (sym stands.carries.stands)
    (act_fits serving code base pc within s seat seated cell.place cell.instr o cell.shape cf refl f.0 has fi)

pub first_next : (callee : Seat) (own v : ℕ) (first : Config) → Begun callee own v first → (w : ℕ) × Next (code_of callee) own v w first
first_next callee own v (Over d) b = absurd b
first_next callee own v (Running at s o) b = (weight (length (code_of callee)) at o.catches + 1, (b.0, nearer b.1 (omega arith)))

module _ (serving : Serving) (fits : ServingFits serving) where
  -- how a run of checked code ends
  pub run_leaves : (seat : Seat) (seated : SeatFits seat) (base v w : ℕ) (c : Config) (d : Did) → Next (code_of seat) base v w c → Runs serving seat c d → LeavesBodies base v d
  run_leaves seat seated base v w _ d next (over _ _) = next
  run_leaves seat seated base v w _ d next (on _ pc s o c _ e r) =
      let m = subst (MoveFits serving (code_of seat) base s.visits (weight (length (code_of seat)) pc o.catches)) e (move_next serving seat seated base pc s o next.0) in
      later_leaves base v s.visits d (less_visits _ _ _ _ next.1) (run_leaves seat seated base s.visits _ c d m r)
  run_leaves seat seated base v w _ d next (into _ pc s o callee first back r _ e a b) =
      let m = subst (MoveFits serving (code_of seat) base s.visits (weight (length (code_of seat)) pc o.catches)) e (move_next serving seat seated base pc s o next.0) in
      let cf = callee_fits serving fits callee m.fits in
      let f = first_next callee m.own s.visits first (m.begun cf) in
      let h = run_leaves callee cf m.own s.visits f.0 first r f.1 a in
      later_leaves base v s.visits d (less_visits _ _ _ _ next.1) (run_leaves seat seated base s.visits _ (back r) d (m.backs r h) b)

  -- one turn
  pub turned_next : (seat : Seat) (seated : SeatFits seat) (base pc : ℕ) (s : State) (o : Open) (c : Config) → Stands (code_of seat) base pc (kept s) o → Turned serving seat (Running pc s o) c
      → Next (code_of seat) base s.visits (weight (length (code_of seat)) pc o.catches) c
  turned_next seat seated base pc s o c stands (moved _ _ _ _ e) =
      subst (MoveFits serving (code_of seat) base s.visits (weight (length (code_of seat)) pc o.catches)) e (move_next serving seat seated base pc s o stands)
  turned_next seat seated base pc s o c stands (called _ _ _ _ callee first back r e a q) =
      let m = subst (MoveFits serving (code_of seat) base s.visits (weight (length (code_of seat)) pc o.catches)) e (move_next serving seat seated base pc s o stands) in
      let cf = callee_fits serving fits callee m.fits in
      let f = first_next callee m.own s.visits first (m.begun cf) in
      subst (Next (code_of seat) base s.visits (weight (length (code_of seat)) pc o.catches)) q (m.backs r (run_leaves callee cf m.own s.visits f.0 first r f.1 a))

pub never_stuck : NeverStuck
never_stuck serving fits seat seated base pc s o stands e =
    subst (MoveFits serving (code_of seat) base s.visits (weight (length (code_of seat)) pc o.catches)) e (move_next serving seat seated base pc s o stands)

pub turns_stand : TurnsStand
turns_stand serving fits seat seated base pc s o stands to s2 o2 t = (turned_next serving fits seat seated base pc s o (Running to s2 o2) stands t).0

pub turns_come_nearer : TurnsComeNearer
turns_come_nearer serving fits seat seated base pc s o stands to s2 o2 t =
    let h = turned_next serving fits seat seated base pc s o (Running to s2 o2) stands t in
    fewer s.visits s2.visits (span (code_of seat)) _ _ h.1 (weight_span (code_of seat) base to (kept s2) o2 h.0)

pub runs_leave_bodies : RunsLeaveBodies
runs_leave_bodies serving fits seat seated base pc s o stands d r =
    run_leaves serving fits seat seated base s.visits (weight (length (code_of seat)) pc o.catches + 1) (Running pc s o) d (stands, nearer (omega arith) (omega arith)) r
