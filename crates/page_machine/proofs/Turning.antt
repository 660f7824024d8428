-- From a move to a turn, and from turns to a run.
use Rattle.std.proofs.Common.{◌≡◌, ℕ, List, ◌++◌, Ok, Err, refl, sym, ap, ◌∙◌, subst, append_assoc}
use Rattle.run_moves.specs.Acted.{MoveGrows, LedSo, Moves}
use Rattle.run_world.specs.Part.{given, Does}
use Rattle.page_machine.specs.Turn.{MoveLeads, MoveEnds, EndsSo, TurnsSo, Turns, RunFrom, CodeRuns}
use Rattle.run_moves.specs.declared.flow.End.{End}
use Rattle.run_moves.specs.declared.flow.End.TheVariants as ends
use Rattle.run_moves.specs.declared.flow.Flow.{Flow}
use Rattle.run_moves.specs.declared.flow.Flow.TheVariants as flows
use Rattle.page_meaning.proofs.Growing.{both}
use Rattle.page_meaning.specs.Growth.{state_of, Grows}
use Rattle.page_meaning.specs.State.{State}
use Rattle.page_meaning.specs.Went.{Did, Went, Well, Raised, Ended, forwards, redirects}
use Rattle.page_table.specs.Act.{move_of}
use Rattle.page_table.specs.Landing.{Config, Running, Over}
use Rattle.page_table.specs.Move.{Move, On, Into, Stuck}
use Rattle.page_table.specs.Open.{Open, fresh_open}
use Rattle.page_table.specs.Program.{Serving}
use Rattle.page_table.specs.Runs.{Runs, over, on, into, Turned, moved, called, config_state}
use Rattle.page_table.specs.Seat.{Seat}
use Rattle.page_table.proofs.Growing.{run_grows}
use Rattle.page_table.proofs.OneEnd.{Goes, opened_run, one_end}
use Rattle.pg_text.specs.declared.failure.Failure.TheVariants as failure
use Rattle.pg_text.specs.declared.place.Place.{Place}
use Rattle.pg_value.specs.declared.fault.RunFault.{RunFault}
use Rattle.site_words.specs.Law.{Answer}

-- what ends from the one configuration ends so from the other
pub record Leads (serving : Serving) (seat : Seat) (c other : Config) : Type 0 where
  pub forth : (d : Did) → Runs serving seat other d → Runs serving seat c d
  pub back : (d : Did) → Runs serving seat c d → Runs serving seat other d

module _ (serving : Serving) (seat : Seat) where
  pub leads_here : (c : Config) → Leads serving seat c c
  leads_here c = record { forth = λ d r. r; back = λ d r. r }

  pub leads_both : (a b c : Config) → Leads serving seat a b → Leads serving seat b c → Leads serving seat a c
  leads_both a b c h g = record { forth = λ d r. h.forth d (g.forth d r); back = λ d r. g.back d (h.back d r) }

  -- a run that begins with the move of its place
  ends_run : (pc : ℕ) (s : State) (o : Open) (d : Did) (m : Move) → move_of serving seat pc s o ≡ m → MoveEnds serving seat m d → Runs serving seat (Running pc s o) d
  ends_run pc s o d (On c) e r = on seat pc s o c d e r
  ends_run pc s o d (Into callee first back) e r = into seat pc s o callee first back r.0 d e r.1 r.2
  ends_run pc s o d Stuck e r = absurd r

  run_ends : (m : Move) (d : Did) → Goes serving seat d m → MoveEnds serving seat m d
  run_ends (On c) d r = r
  run_ends (Into callee first back) d r = r
  run_ends Stuck d r = absurd r

  pub ends_from : (pc : ℕ) (s : State) (o : Open) (d : Did) → MoveEnds serving seat (move_of serving seat pc s o) d → Runs serving seat (Running pc s o) d
  ends_from pc s o d r = ends_run pc s o d (move_of serving seat pc s o) refl r

  pub opened_ends : (pc : ℕ) (s : State) (o : Open) (d : Did) → Runs serving seat (Running pc s o) d → MoveEnds serving seat (move_of serving seat pc s o) d
  opened_ends pc s o d r = run_ends (move_of serving seat pc s o) d (opened_run serving seat pc s o d r)

  -- a move that leads on is a turn
  turned_by : (pc : ℕ) (s : State) (o : Open) (next : Config) (m : Move) → move_of serving seat pc s o ≡ m → MoveLeads serving seat m next → Turned serving seat (Running pc s o) next
  turned_by pc s o next (On c) e h = moved pc s o next (e ∙ ap On h)
  turned_by pc s o next (Into callee first back) e h = called pc s o next callee first back h.0 e h.1 h.2
  turned_by pc s o next Stuck e h = absurd h

  pub turned_from : (pc : ℕ) (s : State) (o : Open) (next : Config) → MoveLeads serving seat (move_of serving seat pc s o) next → Turned serving seat (Running pc s o) next
  turned_from pc s o next h = turned_by pc s o next (move_of serving seat pc s o) refl h

  pub turned_leads : (c next : Config) → Turned serving seat c next → Leads serving seat c next
  turned_leads _ next (moved pc s o _ e) = record {
    forth = λ d r. on seat pc s o next d e r;
    back = λ d r. subst (Goes serving seat d) e (opened_run serving seat pc s o d r);
  }
  turned_leads _ next (called pc s o _ callee first back r e run q) = record {
    forth = λ d x. into seat pc s o callee first back r d e run (subst (λ y. Runs serving seat y d) (sym q) x);
    back = λ d x.
        let g = subst (Goes serving seat d) e (opened_run serving seat pc s o d x) in
        subst (λ y. Runs serving seat y d) q (subst (λ y. Runs serving seat (back y) d) (one_end serving callee first g.0 r g.1 run) g.2);
  }

  pub ends_grow : (s : State) (m : Move) (d : Did) → MoveGrows s m → MoveEnds serving seat m d → Grows s (state_of d)
  ends_grow s (On c) d g r = both s (config_state c) (state_of d) g (run_grows serving seat c d r)
  ends_grow s (Into callee first back) d g r =
      both s (config_state first) (state_of d) g.0
      (both (config_state first) (state_of r.0) (state_of d) (run_grows serving callee first r.0 r.1)
      (both (state_of r.0) (config_state (back r.0)) (state_of d) (g.1 r.0) (run_grows serving seat (back r.0) d r.2)))
  ends_grow s Stuck d g r = absurd r

  -- a move that is at one with another
  pub turns_as : (m other : List Answer → Move) (flow : Flow) (s : State) (o : Open) → ((future : List Answer) → m future ≡ other future) → TurnsSo serving seat other flow s o → TurnsSo serving seat m flow s o
  turns_as m other (flows.Go to) s o e h = λ future. subst (λ x. MoveLeads serving seat x (Running to (given future s) o)) (sym (e future)) (h future)
  turns_as m other (flows.Over ends.Normal) s o e h = λ future. subst (λ x. MoveEnds serving seat x (Well tt (given future s))) (sym (e future)) (h future)
  turns_as m other (flows.Over (ends.Forward path params left)) s o e h = λ future. subst (λ x. MoveEnds serving seat x (Ended (forwards path params left) (given future s))) (sym (e future)) (h future)
  turns_as m other (flows.Over (ends.Redirect location)) s o e h = λ future. subst (λ x. MoveEnds serving seat x (Ended (redirects location) (given future s))) (sym (e future)) (h future)
  turns_as m other (flows.Over (ends.Raised fault place)) s o e h = λ future. subst (λ x. MoveEnds serving seat x (Raised fault place (given future s))) (sym (e future)) (h future)
  turns_as m other (flows.Over ends.NoMemory) s o e h = λ future d r. h future d (subst (λ x. MoveEnds serving seat x d) (e future) r)

  -- one move alone is a turn by it
  pub moves_turn : (move : State → Move) (stands : State → Type 0) (s : State) (o : Open) (old new : List Answer) (flow : Flow) → Moves move stands s o old new flow → Turns serving seat move stands s o old new flow
  moves_turn move stands s o old new flow h = record { got = h.got; replies = h.replies; after = h.after; stood = h.stood; turns = go flow h.led }
    where
      at : List Answer → Move
      at future = move (given (h.got ++ future) s)

      over_by : (future : List Answer) (d : Did) → at future ≡ On (Over d) → MoveEnds serving seat (at future) d
      over_by future d e = subst (λ m. MoveEnds serving seat m d) (sym e) (over seat d)

      on_by : (m : Move) (next : Config) → m ≡ On next → MoveLeads serving seat m next
      on_by m next e = subst (λ x. MoveLeads serving seat x next) (sym e) refl

      go : (flow : Flow) → LedSo at flow h.after o → TurnsSo serving seat at flow h.after o
      go (flows.Go to) e = λ future. on_by (at future) (Running to (given future h.after) o) (e future)
      go (flows.Over ends.Normal) e = λ future. over_by future _ (e future)
      go (flows.Over (ends.Forward path params left)) e = λ future. over_by future _ (e future)
      go (flows.Over (ends.Redirect location)) e = λ future. over_by future _ (e future)
      go (flows.Over (ends.Raised fault place)) e = λ future. over_by future _ (e future)
      go (flows.Over ends.NoMemory) e = λ future d r. ends_grow h.after (at future) d (e future) r

  -- a turn behind a part that went well, or by its fault
  pub turns_behind : {A B : Type 0} {view : A → B} {part : Place → State → Went B} {between stands : State → Type 0} (place : Place) (move next : State → Move) (s : State) (o : Open) (old mid new : List Answer) (a : A)
      (flow : Flow) → ((t u : State) → part place t ≡ Well (view a) u → move t ≡ next u) → (d : Does view part between s old mid (Ok a)) → Turns serving seat next stands d.after o mid new flow
      → Turns serving seat move stands s o old new flow
  turns_behind place move next s o old mid new a flow e d n = record {
    got = d.got ++ n.got;
    replies = n.replies ∙ ap (λ x. x ++ n.got) d.replies ∙ append_assoc old d.got n.got;
    after = n.after;
    stood = n.stood;
    turns = turns_as _ _ flow n.after o
        (λ future. ap (λ x. move (given x s)) (append_assoc d.got n.got future) ∙ e (given (d.got ++ (n.got ++ future)) s) (given (n.got ++ future) d.after) (d.went place (n.got ++ future))) n.turns;
  }

  pub turns_fault : {A B : Type 0} {view : A → B} {part : Place → State → Went B} {between stands : State → Type 0} (place : Place) (move next : State → Move) (s : State) (o : Open) (old mid new : List Answer) (f : RunFault)
      (flow : Flow) → ((t u : State) → part place t ≡ Raised f place u → move t ≡ next u) → (d : Does view part between s old mid (Err (failure.Fault f))) → Turns serving seat next stands d.after o mid new flow
      → Turns serving seat move stands s o old new flow
  turns_fault place move next s o old mid new f flow e d n = record {
    got = d.got ++ n.got;
    replies = n.replies ∙ ap (λ x. x ++ n.got) d.replies ∙ append_assoc old d.got n.got;
    after = n.after;
    stood = n.stood;
    turns = turns_as _ _ flow n.after o
        (λ future. ap (λ x. move (given x s)) (append_assoc d.got n.got future) ∙ e (given (d.got ++ (n.got ++ future)) s) (given (n.got ++ future) d.after) (d.went place (n.got ++ future))) n.turns;
  }

  -- a run so far: from the start to where it stands, with the answers that it got
  pub record SoFar (at left : ℕ) (start : State) (stands : State → Type 0) (first now : List Answer) (pc : ℕ) (o : Open) : Type 0 where
    pub got : List Answer
    pub replies : now ≡ first ++ got
    pub state : State
    pub stood : stands state
    pub leads : (future : List Answer) → Leads serving seat (Running at (given (got ++ future) start) (fresh_open left)) (Running pc (given future state) o)

  -- one more turn
  pub so_far_on : (at left : ℕ) (start : State) (stands more : State → Type 0) (first old new : List Answer) (pc to : ℕ) (o o2 : Open) (f : SoFar at left start stands first old pc o)
      → Turns serving seat (λ s. move_of serving seat pc s o) more f.state o2 old new (flows.Go to) → SoFar at left start more first new to o2
  so_far_on at left start stands more first old new pc to o o2 f t = record {
    got = f.got ++ t.got;
    replies = t.replies ∙ ap (λ x. x ++ t.got) f.replies ∙ append_assoc first f.got t.got;
    state = t.after;
    stood = t.stood;
    leads = λ future.
        subst (λ x. Leads serving seat (Running at (given x start) (fresh_open left)) (Running to (given future t.after) o2)) (sym (append_assoc f.got t.got future))
        (leads_both (Running at (given (f.got ++ (t.got ++ future)) start) (fresh_open left)) (Running pc (given (t.got ++ future) f.state) o) (Running to (given future t.after) o2)
        (f.leads (t.got ++ future)) (turned_leads _ _ (turned_from pc (given (t.got ++ future) f.state) o (Running to (given future t.after) o2) (t.turns future))));
  }

  -- the end of a run
  pub so_far_over : (at left : ℕ) (start : State) (stands more : State → Type 0) (first old new : List Answer) (pc : ℕ) (o o2 : Open) (end : End) (f : SoFar at left start stands first old pc o)
      → Turns serving seat (λ s. move_of serving seat pc s o) more f.state o2 old new (flows.Over end) → RunFrom (CodeRuns seat at left serving) more start first new end
  so_far_over at left start stands more first old new pc o o2 end f t = record {
    got = f.got ++ t.got;
    replies = t.replies ∙ ap (λ x. x ++ t.got) f.replies ∙ append_assoc first f.got t.got;
    after = t.after;
    stood = t.stood;
    ends = go end t.turns;
  }
    where
      from : List Answer → State
      from future = given ((f.got ++ t.got) ++ future) start

      here : List Answer → State
      here future = given (t.got ++ future) f.state

      joined : (future : List Answer) → Leads serving seat (Running at (from future) (fresh_open left)) (Running pc (here future) o)
      joined future = subst (λ x. Leads serving seat (Running at (given x start) (fresh_open left)) (Running pc (here future) o)) (sym (append_assoc f.got t.got future)) (f.leads (t.got ++ future))

      ended : (future : List Answer) (d : Did) → MoveEnds serving seat (move_of serving seat pc (here future) o) d → Runs serving seat (Running at (from future) (fresh_open left)) d
      ended future d r = (joined future).forth d (ends_from pc (here future) o d r)

      go : (end : End) → EndsSo (λ future d. MoveEnds serving seat (move_of serving seat pc (here future) o) d) end t.after → EndsSo (λ future d. CodeRuns seat at left serving (from future) d) end t.after
      go ends.Normal h = λ future. ended future _ (h future)
      go (ends.Forward path params l) h = λ future. ended future _ (h future)
      go (ends.Redirect location) h = λ future. ended future _ (h future)
      go (ends.Raised fault place) h = λ future. ended future _ (h future)
      go ends.NoMemory h = λ future d r. h future d (opened_ends pc (here future) o d ((joined future).back d r))
