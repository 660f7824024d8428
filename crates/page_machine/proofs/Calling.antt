-- A move that goes into a run of its own, with that run and what follows its end, is a turn.
use Rattle.std.proofs.Common.{◌≡◌, ℕ, List, ◌++◌, refl, sym, ap, ◌∙◌, subst, append_assoc}
use Rattle.http_in.specs.declared.params.Param.{Param}
use Rattle.run_moves.specs.Acted.{MoveGrows, LedSo, Moves}
use Rattle.run_world.specs.Part.{given}
use Rattle.page_machine.specs.Turn.{MoveLeads, MoveEnds, TurnsSo, Turns, RunFrom}
use Rattle.run_moves.specs.declared.flow.End.TheVariants as ends
use Rattle.run_moves.specs.declared.flow.Flow.{Flow}
use Rattle.run_moves.specs.declared.flow.Flow.TheVariants as flows
use Rattle.page_meaning.proofs.Growing.{both}
use Rattle.page_meaning.specs.Growth.{state_of, Grows}
use Rattle.page_meaning.specs.State.{State}
use Rattle.page_meaning.specs.Went.{Did, Well, Raised, Ended, Awaits, forwards, redirects}
use Rattle.page_table.specs.Landing.{Config, Running, Over}
use Rattle.page_table.specs.Move.{Move, On, Into, Stuck}
use Rattle.page_table.specs.Open.{Open}
use Rattle.page_table.specs.Pages.{page_entered}
use Rattle.page_table.specs.Program.{Program, Serving}
use Rattle.page_table.specs.Runs.{Runs, over, EndsBehind, config_state}
use Rattle.page_table.specs.Seat.{Seat, in_page}
use Rattle.page_table.proofs.Growing.{run_grows}
use Rattle.page_table.proofs.OneEnd.{one_end}
use Rattle.site_words.specs.Law.{Answer}

-- a move goes into a run of its own, and on as that ends
pub record Enters (serving : Serving) (seat : Seat) (m : Move) (runs : Did → Type 0) (back : Did → Config) : Type 0 where
  pub leads : (r : Did) (c : Config) → runs r → back r ≡ c → MoveLeads serving seat m c
  pub ends : (r d : Did) → runs r → Runs serving seat (back r) d → MoveEnds serving seat m d
  pub opened : (d : Did) → MoveEnds serving seat m d → (r : Did) × runs r × Runs serving seat (back r) d
  pub one : (r other : Did) → runs r → runs other → r ≡ other

pub into_enters : (serving : Serving) (seat callee : Seat) (first : Config) (back : Did → Config) → Enters serving seat (Into callee first back) (Runs serving callee first) back
into_enters serving seat callee first back = record {
  leads = λ r c h e. (r, h, e);
  ends = λ r d h k. (r, h, k);
  opened = λ d h. h;
  one = λ r other h k. one_end serving callee first r other h k;
}

-- the run of a page behind its beginning
pub page_enters : (serving : Serving) (seat : Seat) (program : Program) (params : List Param) (left : ℕ) (back : Did → Config) (begun : Did)
    → Enters serving seat (page_entered program params left back begun) (EndsBehind serving program params left begun) back
page_enters serving seat program params left back (Well u s) = record {
  leads = λ r c h e. (r, h, e);
  ends = λ r d h k. (r, h, k);
  opened = λ d h. h;
  one = λ r other h k. one_end serving (in_page program params) _ r other h k;
}
page_enters serving seat program params left back (Raised f place s) = record {
  leads = λ r c h e. sym (ap back h) ∙ e;
  ends = λ r d h k. subst (λ x. Runs serving seat (back x) d) h k;
  opened = λ d h. (Raised f place s, refl, h);
  one = λ r other h k. h ∙ sym k;
}
page_enters serving seat program params left back (Ended leaving s) = record {
  leads = λ r c h e. sym (ap back h) ∙ e;
  ends = λ r d h k. subst (λ x. Runs serving seat (back x) d) h k;
  opened = λ d h. (Ended leaving s, refl, h);
  one = λ r other h k. h ∙ sym k;
}
page_enters serving seat program params left back (Awaits step s) = record {
  leads = λ r c h e. sym (ap back h) ∙ e;
  ends = λ r d h k. subst (λ x. Runs serving seat (back x) d) h k;
  opened = λ d h. (Awaits step s, refl, h);
  one = λ r other h k. h ∙ sym k;
}

-- a move that is another
pub enters_as : (serving : Serving) (seat : Seat) (m other : Move) (runs : Did → Type 0) (back : Did → Config) → m ≡ other → Enters serving seat other runs back → Enters serving seat m runs back
enters_as serving seat m other runs back e h = subst (λ x. Enters serving seat x runs back) (sym e) h

-- the configuration of a move that goes on
abbrev config_in : Config → Move → Config
config_in c (On next) = next
config_in c (Into callee first back) = c
config_in c Stuck = c

on_same : (a b : Config) → On a ≡ On b → a ≡ b
on_same a b e = ap (config_in a) e

module _ (serving : Serving) (seat : Seat) (move : State → Move) (s s1 : State) (runs : State → Did → Type 0) (back : Did → Config)
    (enters : (future : List Answer) → Enters serving seat (move (given future s)) (runs (given future s1)) back) where
  -- where the run of its own ended, and what follows that end
  module _ (inner : List Answer) (after : State) (ended : State → Did) (ran : (future : List Answer) → runs (given (inner ++ future) s1) (ended (given future after)))
      (next : State → Move) (same : (t : State) → On (back (ended t)) ≡ next t) where
    leads_on : (future : List Answer) (c : Config) → next (given future after) ≡ On c → MoveLeads serving seat (move (given (inner ++ future) s)) c
    leads_on future c e = (enters (inner ++ future)).leads (ended (given future after)) c (ran future) (on_same (back (ended (given future after))) c (same (given future after) ∙ e))

    ends_over : (future : List Answer) (d : Did) → next (given future after) ≡ On (Over d) → MoveEnds serving seat (move (given (inner ++ future) s)) d
    ends_over future d e =
        (enters (inner ++ future)).ends (ended (given future after)) d (ran future)
        (subst (λ c. Runs serving seat c d) (sym (on_same (back (ended (given future after))) (Over d) (same (given future after) ∙ e))) (over seat d))

    grows_over : (future : List Answer) (t : State) (d : Did) → MoveGrows t (next (given future after)) → MoveEnds serving seat (move (given (inner ++ future) s)) d → Grows t (state_of d)
    grows_over future t d g r =
        let x = (enters (inner ++ future)).opened d r in
        let e = (enters (inner ++ future)).one x.0 (ended (given future after)) x.1 (ran future) in
        let b = subst (λ z. Runs serving seat (back z) d) e x.2 in
        let h : Grows t (config_state (back (ended (given future after)))) = subst (MoveGrows t) (sym (same (given future after))) g in
        both t (config_state (back (ended (given future after)))) (state_of d) h (run_grows serving seat (back (ended (given future after))) d b)

    pub call_behind : (stands : State → Type 0) (o : Open) (old between new : List Answer) (flow : Flow) → between ≡ old ++ inner → Moves next stands after o between new flow
        → Turns serving seat move stands s o old new flow
    call_behind stands o old between new flow e n = record {
      got = inner ++ n.got;
      replies = n.replies ∙ ap (λ x. x ++ n.got) e ∙ append_assoc old inner n.got;
      after = n.after;
      stood = n.stood;
      turns = go flow n.led;
    }
      where
        move_at : List Answer → Move
        move_at future = move (given ((inner ++ n.got) ++ future) s)

        here : (future : List Answer) → move (given (inner ++ (n.got ++ future)) s) ≡ move_at future
        here future = ap (λ x. move (given x s)) (sym (append_assoc inner n.got future))

        go : (flow : Flow) → LedSo (λ future. next (given (n.got ++ future) after)) flow n.after o → TurnsSo serving seat move_at flow n.after o
        go (flows.Go to) h = λ future. subst (λ m. MoveLeads serving seat m (Running to (given future n.after) o)) (here future) (leads_on (n.got ++ future) (Running to (given future n.after) o) (h future))
        go (flows.Over ends.Normal) h = λ future. subst (λ m. MoveEnds serving seat m (Well tt (given future n.after))) (here future) (ends_over (n.got ++ future) (Well tt (given future n.after)) (h future))
        go (flows.Over (ends.Forward path params left)) h = λ future. subst (λ m. MoveEnds serving seat m (Ended (forwards path params left) (given future n.after))) (here future) (ends_over (n.got ++ future) (Ended (forwards path params left) (given future n.after)) (h future))
        go (flows.Over (ends.Redirect location)) h = λ future. subst (λ m. MoveEnds serving seat m (Ended (redirects location) (given future n.after))) (here future) (ends_over (n.got ++ future) (Ended (redirects location) (given future n.after)) (h future))
        go (flows.Over (ends.Raised fault place)) h = λ future. subst (λ m. MoveEnds serving seat m (Raised fault place (given future n.after))) (here future) (ends_over (n.got ++ future) (Raised fault place (given future n.after)) (h future))
        go (flows.Over ends.NoMemory) h = λ future d r. grows_over (n.got ++ future) n.after d (h future) (subst (λ m. MoveEnds serving seat m d) (sym (here future)) r)

  -- memory ran out inside the run of its own
  pub call_short : (grows : (d : Did) → Grows (state_of d) (config_state (back d))) (stands : State → Type 0) (o : Open) (old new : List Answer)
      → RunFrom runs stands s1 old new ends.NoMemory → Turns serving seat move stands s o old new (flows.Over ends.NoMemory)
  call_short grows stands o old new run = record {
    got = run.got;
    replies = run.replies;
    after = run.after;
    stood = run.stood;
    turns = λ future d r.
        let x = (enters (run.got ++ future)).opened d r in
        both run.after (state_of x.0) (state_of d) (run.ends future x.0 x.1)
        (both (state_of x.0) (config_state (back x.0)) (state_of d) (grows x.0) (run_grows serving seat (back x.0) d x.2));
  }
