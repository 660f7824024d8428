-- A run has one end.
use Rattle.std.proofs.Common.{◌≡◌, ℕ, refl, sym, subst}
use Rattle.page_meaning.specs.State.{State}
use Rattle.page_meaning.specs.Went.{Did}
use Rattle.page_table.specs.Act.{move_of}
use Rattle.page_table.specs.Landing.{Config, Running}
use Rattle.page_table.specs.Laws.{OneEnd}
use Rattle.page_table.specs.Move.{Move, On, Into, Stuck}
use Rattle.page_table.specs.Open.{Open}
use Rattle.page_table.specs.Program.{Serving}
use Rattle.page_table.specs.Runs.{Runs, over, on, into}
use Rattle.page_table.specs.Seat.{Seat}

-- what a run from a move is
abbrev pub Goes : Serving → Seat → Did → Move → Type 0
Goes serving seat d (On next) = Runs serving seat next d
Goes serving seat d (Into callee first back) = (r : Did) × Runs serving callee first r × Runs serving seat (back r) d
Goes serving seat d Stuck = ⊥

pub opened_run : (serving : Serving) (seat : Seat) (pc : ℕ) (s : State) (o : Open) (d : Did) → Runs serving seat (Running pc s o) d → Goes serving seat d (move_of serving seat pc s o)
opened_run serving seat pc s o d (on _ _ _ _ next _ e r) = subst (Goes serving seat d) (sym e) r
opened_run serving seat pc s o d (into _ _ _ _ callee first back r _ e a b) = subst (Goes serving seat d) (sym e) (r, a, b)

pub one_end : OneEnd
one_end serving seat c d other first second = go seat c d other first second
  where
    go : (seat : Seat) (c : Config) (d other : Did) → Runs serving seat c d → Runs serving seat c other → d ≡ other
    go seat _ d other (over _ _) (over _ _) = refl
    go seat _ d other (on _ pc s o next _ e r) q = go seat next d other r (subst (Goes serving seat other) e (opened_run serving seat pc s o other q))
    go seat _ d other (into _ pc s o callee first back r _ e a b) q =
        let g = subst (Goes serving seat other) e (opened_run serving seat pc s o other q) in
        let same = go callee first r g.0 a g.1 in
        go seat (back r) d other b (subst (λ x. Runs serving seat (back x) other) (sym same) g.2)
