-- What so many turns give is a run.
use Rattle.std.proofs.Common.{◌≡◌, ℕ, zero, suc, Option, Some, None, refl, subst}
use Rattle.page_meaning.specs.State.{State}
use Rattle.page_meaning.specs.Went.{Did}
use Rattle.page_table.specs.Act.{move_of}
use Rattle.page_table.specs.Landing.{Config, Running, Over}
use Rattle.page_table.specs.Move.{Move, On, Into, Stuck}
use Rattle.page_table.specs.Open.{Open}
use Rattle.page_table.specs.Program.{Serving}
use Rattle.page_table.specs.Runs.{Runs, over, on, into}
use Rattle.page_table.specs.Seat.{Seat}
use Rattle.page_table_tests.specs.Steps.{end_of, moved, behind, StepsRun}

nothing : (d : Did) → None ≡ Some d → ⊥
nothing d e = cc

module _ (serving : Serving) where
  abbrev RunsIn : ℕ → Type 0
  RunsIn n = (seat : Seat) (c : Config) (d : Did) → end_of n serving seat c ≡ Some d → Runs serving seat c d

  move_runs : (n : ℕ) → RunsIn n → (seat : Seat) (pc : ℕ) (s : State) (o : Open) (d : Did) (m : Move) → move_of serving seat pc s o ≡ m → moved (λ at next. end_of n serving at next) seat m ≡ Some d → Runs serving seat (Running pc s o) d
  move_runs n runs seat pc s o d (On next) e h = on seat pc s o next d e (runs seat next d h)
  move_runs n runs seat pc s o d Stuck e h = absurd (nothing d h)
  move_runs n runs seat pc s o d (Into callee first back) e h = inner (end_of n serving callee first) refl h
    where
      inner : (r : Option Did) → end_of n serving callee first ≡ r → behind (λ at next. end_of n serving at next) seat back r ≡ Some d → Runs serving seat (Running pc s o) d
      inner None q g = absurd (nothing d g)
      inner (Some r) q g = into seat pc s o callee first back r d e (runs callee first r q) (runs seat (back r) d g)

  all_run : (n : ℕ) → RunsIn n
  all_run zero seat c d e = absurd (nothing d e)
  all_run (suc n) seat (Over r) d e = over_same r (some_is r d e)
    where
      some_is : (a b : Did) → Some a ≡ Some b → a ≡ b
      some_is a b q = cc

      over_same : (r : Did) → r ≡ d → Runs serving seat (Over r) d
      over_same r q = subst (λ x. Runs serving seat (Over r) x) q (over seat r)
  all_run (suc n) seat (Running pc s o) d e = move_runs n (all_run n) seat pc s o d (move_of serving seat pc s o) refl e

pub steps_run : StepsRun
steps_run n serving seat c d e = all_run serving n seat c d e
