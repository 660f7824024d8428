-- What a step, a new session and a look at a path do of the state for which a stage stands.
use Rattle.std.proofs.Common.{◌≡◌, ◌⊎◌, inl, inr, ◌≤◌, ◌+◌, ℕ, Bool, true, false, List, [], ◌∷◌, ◌++◌, Option, Some, None, Result, Ok, Err, refl, sym, ap, ◌∙◌, subst, append_assoc, append-nil, arith, length}
use Rattle.std.specs.Prelude.{IsErrAnd, IsNone, is_some, nat_le}
use Rattle.edges.proofs.Own.{front_same}
use Rattle.http_out.specs.declared.head.Head.{Head}
use Rattle.out_buffer.specs.Held.{Held, Stands}
use Rattle.out_buffer.specs.Writer.{Writer, has_committed}
use Rattle.page_meaning.specs.Growth.{state_of, Grows, IsOrdered}
use Rattle.page_meaning.specs.Includes.{session_started}
use Rattle.page_meaning.specs.State.{State, with_asked}
use Rattle.page_meaning.specs.Went.{Went, Well, Raised, either}
use Rattle.page_meaning.specs.Work.{answer_from, ask, charge_limit}
use Rattle.pg_text.specs.declared.failure.Failure.{Failure}
use Rattle.pg_text.specs.declared.failure.Failure.TheVariants as failure
use Rattle.pg_text.specs.declared.place.Place.{Place}
use Rattle.pg_value.specs.declared.fault.RunFault.{RunFault}
use Rattle.pg_value.specs.declared.fault.RunFault.TheVariants as fault
use Rattle.run_stage.specs.Stage.{Reached}
use Rattle.run_stage.specs.Keeping.{fresh_claim, head_after, naming}
use Rattle.run_stage.specs.declared.stage.Stage.{Stage}
use Rattle.page_meaning.proofs.Growing.{ordered_asked, same as grows_here, starts}
use Rattle.run_world.proofs.Parts.{adds_given}
use Rattle.run_world.specs.Origin.{Origin}
use Rattle.run_world.specs.Part.{Doing, given}
use Rattle.scopes.specs.Scopes.{Entries, ScopeState, with_session}
use Rattle.site_words.specs.Law.{Answer, told, id as id_told}
use Rattle.site_words.specs.PageSteps.{Step, app, fresh, step_charge}
use Rattle.site_words.specs.Running.{Asking}
use Rattle.site_words.specs.declared.words.AppReply.{AppReply}
use Rattle.site_words.specs.declared.words.AppStep.{AppStep}
use Rattle.source_tree.specs.declared.file.File.{File}

module _ {P K : Type 0} where
  -- with what was asked, and with this charge
  abbrev pub asked_stage : Stage P K → P → (charge : ℕ) → Stage P K
  asked_stage w port charge = record w { around = record w.around { now = record w.around.now { charge = charge } }; port = record w.port { now = port } }

  -- with a session of this id, which came to be
  abbrev pub session_stage : Stage P K → P → ScopeState → Held → (id : List ℕ) → (fresh : Bool) → Stage P K
  session_stage w port scopes held id is_fresh = record w {
    scopes = record w.scopes { now = scopes };
    writer = record w.writer { now = held };
    around = record w.around { now = record w.around.now { id = Some id; fresh = is_fresh } };
    port = record w.port { now = port };
  }

-- a charge that rises again is below its limit
rises : (old mid new : ℕ) → (mid ≡ old) ⊎ (mid ≤ 4197000) → (new ≡ mid) ⊎ (new ≤ 4197000) → (new ≡ old) ⊎ (new ≤ 4197000)
rises old mid new (inl e) (inl f) = inl (f ∙ e)
rises old mid new (inr h) (inl f) = inr (omega arith)
rises old mid new e (inr h) = inr h

-- a head names no session that isn't there
unnamed : (head : Head) (id : Option (List ℕ)) (is_fresh : Bool) → is_some id ≡ false → naming head id is_fresh ≡ head
unnamed head None is_fresh none = refl
unnamed head (Some id) is_fresh none = absurd (cc)

-- a session that isn't there has no id
pub no_id : (session : Option Entries) (id : Option (List ℕ)) → IsNone session → is_some session ≡ is_some id → is_some id ≡ false
no_id session id none e = sym e ∙ none

-- a session that is started only adds to the steps
pub session_adds : (answers : List Answer) (s : State) → has_committed s.writer ≡ false → Grows s (state_of (session_started answers s))
session_adds [] s free = grows_here s
session_adds (answer ∷ rest) s free = starts s (state_of (session_started (answer ∷ rest) s)) free (fresh ∷ [], refl) (length s.writer.pieces ∷ [], refl) refl

-- where there is no session there was none
none_before : (old new : Option (List ℕ)) → is_some new ≡ false → (is_some old ≡ true → new ≡ old) → is_some old ≡ false
none_before None new none stays = refl
none_before (Some id) new none stays = absurd (let e = stays refl in let f : is_some new ≡ true = ap is_some e in cc)

module _ {P K : Type 0} {taken : K → Option (List ℕ)} {faults : K → ℕ} {leads : P → P → Type 0} {asking : P → Asking} {tree : P → List File} where
  -- the port asked nothing
  pub stage_unasked : ((first second third : P) → leads first second → leads second third → leads first third) → (first w : Stage P K) (origin : Origin) (s : State) (port : P) (n : ℕ)
      → Reached taken faults leads asking tree first origin w s → leads w.port.now port → tree port ≡ tree w.port.now → asking port ≡ asking w.port.now → n ≡ w.around.now.charge
      → Reached taken faults leads asking tree first origin (asked_stage w port n) s
  stage_unasked leads_on first w origin s port n r on same e is = record {
    same = record { scopes = r.same.scopes; writer = r.same.writer; sink = r.same.sink; around = r.same.around; port = r.same.port };
    leads = leads_on first.port.now w.port.now port r.leads on;
    tree = same ∙ r.tree;
    writer = r.writer;
    scopes = r.scopes;
    asked = r.asked ∙ ap (λ a. origin.asked ++ a.asked) (sym e);
    ordered = r.ordered;
    depth = r.depth;
    visits = r.visits;
    charge = r.charge ∙ sym is;
    id = r.id;
    fresh = r.fresh;
    session = record { stays = r.session.stays };
    response = record { head = r.response.head; shown = r.response.shown };
    charged = record {
      charge = rises first.around.now.charge w.around.now.charge n r.charged.charge (inl is);
      promise = omega (arith, r.charged.promise, ap (λ (a : Asking). a.left) e);
    };
  }

  -- the port asked steps, which were charged
  pub stage_asked : ((first second third : P) → leads first second → leads second third → leads first third) → (first w : Stage P K) (origin : Origin) (s : State) (port : P) (n m : ℕ) (steps asked : List Step) (order : List ℕ)
      → Reached taken faults leads asking tree first origin w s → leads w.port.now port → tree port ≡ tree w.port.now → (asking port).asked ≡ (asking w.port.now).asked ++ steps → asked ≡ s.asked ++ steps
      → IsOrdered (record s { asked = asked; order = order; charge = m }) → (n ≡ w.around.now.charge) ⊎ (n ≤ 4197000) → w.around.now.charge + (asking w.port.now).left ≤ n + (asking port).left → m ≡ n
      → Reached taken faults leads asking tree first origin (asked_stage w port n) (record s { asked = asked; order = order; charge = m })
  stage_asked leads_on first w origin s port n m steps asked order r on same tells now ordered rise pays is = record {
    same = record { scopes = r.same.scopes; writer = r.same.writer; sink = r.same.sink; around = r.same.around; port = r.same.port };
    leads = leads_on first.port.now w.port.now port r.leads on;
    tree = same ∙ r.tree;
    writer = r.writer;
    scopes = r.scopes;
    asked = now ∙ ap (λ a. a ++ steps) r.asked ∙ append_assoc origin.asked (asking w.port.now).asked steps ∙ ap (λ a. origin.asked ++ a) (sym tells);
    ordered = ordered;
    depth = r.depth;
    visits = r.visits;
    charge = is;
    id = r.id;
    fresh = r.fresh;
    session = record { stays = r.session.stays };
    response = record { head = r.response.head; shown = r.response.shown };
    charged = record {
      charge = rises first.around.now.charge w.around.now.charge n r.charged.charge rise;
      promise = omega (arith, r.charged.promise, pays);
    };
  }

  -- the port gave a session
  pub stage_session : ((first second third : P) → leads first second → leads second third → leads first third) → (first w : Stage P K) (origin : Origin) (s : State) (port : P) (scopes : ScopeState) (held : Held) (id : List ℕ) (is_fresh : Bool)
      → Reached taken faults leads asking tree first origin w s → leads w.port.now port → tree port ≡ tree w.port.now → (asking port).asked ≡ (asking w.port.now).asked ++ fresh ∷ []
      → (asking port).left + 64 ≡ (asking w.port.now).left → is_some w.around.now.id ≡ false → scopes ≡ with_session w.scopes.now
      → Stands origin.start origin.before held (taken w.sink.now) (faults w.sink.now) s.writer → held.head ≡ naming w.writer.now.head (Some id) is_fresh → held.shown ≡ w.writer.now.shown
      → Reached taken faults leads asking tree first origin (session_stage w port scopes held id is_fresh) (record (with_asked fresh s) { id = Some id; is_fresh = is_fresh; scopes = with_session s.scopes })
  stage_session leads_on first w origin s port scopes held id is_fresh r on same tells left none started stands head shown =
      let before : is_some first.around.now.id ≡ false = none_before first.around.now.id w.around.now.id none (λ there. (r.session.stays there).0) in
      let untouched : w.writer.now.head ≡ first.writer.now.head =
      r.response.head ∙ ap (λ b. head_after first.writer.now.head b w.around.now.id w.around.now.fresh) before ∙ unnamed first.writer.now.head w.around.now.id w.around.now.fresh none in
      let no_claim : fresh_claim (is_some first.around.now.id) (is_some w.around.now.id) ≡ 0 = ap (λ b. fresh_claim b (is_some w.around.now.id)) before ∙ ap (fresh_claim false) none in
      let claim : fresh_claim (is_some first.around.now.id) true ≡ 64 = ap (λ b. fresh_claim b true) before in
      record {
        same = record { scopes = r.same.scopes; writer = r.same.writer; sink = r.same.sink; around = r.same.around; port = r.same.port };
        leads = leads_on first.port.now w.port.now port r.leads on;
        tree = same ∙ r.tree;
        writer = stands;
        scopes = ap with_session r.scopes ∙ sym started;
        asked = ap (λ a. a ++ fresh ∷ []) r.asked ∙ append_assoc origin.asked (asking w.port.now).asked (fresh ∷ []) ∙ ap (λ a. origin.asked ++ a) (sym tells);
        ordered = ordered_asked fresh s r.ordered;
        depth = r.depth;
        visits = r.visits;
        charge = r.charge;
        id = refl;
        fresh = refl;
        session = record { stays = λ there. absurd (cc) };
        response = record {
          head = head ∙ ap (λ h. naming h (Some id) is_fresh) untouched ∙ ap (λ b. head_after first.writer.now.head b (Some id) is_fresh) (sym before);
          shown = shown ∙ r.response.shown;
        };
        charged = record { charge = r.charged.charge; promise = omega (arith, r.charged.promise, no_claim, claim, left) };
      }

  module _ (leads_on : (first second third : P) → leads first second → leads second third → leads first third) where
    -- memory ran out before anything was asked
    pub unasked_doing : {A B : Type 0} {view : A → B} {part : Place → State → Went B} (w : Stage P K) (port : P) (n : ℕ) → leads w.port.now port → tree port ≡ tree w.port.now → asking port ≡ asking w.port.now
        → n ≡ w.around.now.charge → ((place : Place) (s : State) → has_committed s.writer ≡ w.writer.now.committed → Grows s (state_of (part place s)))
        → Doing (Reached taken faults leads asking tree) (λ w. (asking w.port.now).answers) view part w (asked_stage w port n) (Err failure.NoMemory)
    unasked_doing {part = part} w port n on same e is adds = record {
      by = λ first origin s r. record {
        got = [];
        replies = ap (λ (a : Asking). a.answers) e ∙ sym (append-nil (asking w.port.now).answers);
        after = s;
        stood = stage_unasked leads_on first w origin s port n r on same e is;
        went = λ place future. adds_given future s (state_of (part place (given future s))) (adds place (given future s) (sym r.writer.committed));
      };
    }

    pub unasked_at : {A B : Type 0} {view : A → B} {part : Place → State → Went B} (w : Stage P K) (port : P) (n : ℕ) (result : Result A (Failure RunFault)) → IsErrAnd result (λ e. e ≡ failure.NoMemory)
        → leads w.port.now port → tree port ≡ tree w.port.now → asking port ≡ asking w.port.now → n ≡ w.around.now.charge
        → ((place : Place) (s : State) → has_committed s.writer ≡ w.writer.now.committed → Grows s (state_of (part place s)))
        → Doing (Reached taken faults leads asking tree) (λ w. (asking w.port.now).answers) view part w (asked_stage w port n) result
    unasked_at w port n (Ok a) short on same e is adds = absurd short
    unasked_at {view = view} {part = part} w port n (Err f) short on same e is adds =
        subst (λ f. Doing (Reached taken faults leads asking tree) (λ w. (asking w.port.now).answers) view part w (asked_stage w port n) (Err f)) (sym short) (unasked_doing w port n on same e is adds)

    -- a step that was answered
    pub ask_doing : (w : Stage P K) (port : P) (n : ℕ) (x : AppStep) (reply answer : AppReply) → answer ≡ reply → nat_le charge_limit w.around.now.charge ≡ false → leads w.port.now port → tree port ≡ tree w.port.now
        → (asking port).asked ≡ (asking w.port.now).asked ++ app x ∷ [] → (asking port).answers ≡ (asking w.port.now).answers ++ told reply ∷ []
        → n ≡ w.around.now.charge + step_charge x (told reply) → n ≤ 4197000 → w.around.now.charge + (asking w.port.now).left ≤ n + (asking port).left
        → Doing (Reached taken faults leads asking tree) (λ w. (asking w.port.now).answers) told (λ place. ask place x) w (asked_stage w port n) (Ok answer)
    ask_doing w port n x reply answer told_so unspent on same asked answers is low pays = record {
      by = λ first origin s r.
          let sum : s.charge + step_charge x (told reply) ≡ n = ap (λ c. c + step_charge x (told reply)) r.charge ∙ sym is in
          record {
            got = told reply ∷ [];
            replies = answers;
            after = record (with_asked (app x) s) { charge = n };
            stood = stage_asked leads_on first w origin s port n n (app x ∷ []) (with_asked (app x) s).asked (with_asked (app x) s).order r on same asked refl (ordered_asked (app x) s r.ordered) (inr low) pays refl;
            went = λ place future.
                let s1 = given (told reply ∷ future) s in
                ap (λ b. either b (Raised fault.AppTooMuch place) (answer_from x (told reply ∷ future)) s1) (ap (nat_le charge_limit) r.charge ∙ unspent)
                ∙ ap (λ c. Well (told reply) (record (with_asked (app x) s) { answers = future; charge = c })) sum
                ∙ ap (λ a. Well (told a) (record (with_asked (app x) s) { answers = future; charge = n })) (sym told_so);
          };
    }

  -- a step under a charge that is spent
  pub spent_doing : (w : Stage P K) (x : AppStep) → nat_le charge_limit w.around.now.charge ≡ true
      → Doing (Reached taken faults leads asking tree) (λ w. (asking w.port.now).answers) told (λ place. ask place x) w w (Err (failure.Fault fault.AppTooMuch))
  spent_doing w x spent = record {
    by = λ first origin s r. record {
      got = [];
      replies = sym (append-nil (asking w.port.now).answers);
      after = s;
      stood = r;
      went = λ place future. ap (λ b. either b (Raised fault.AppTooMuch place) (answer_from x future) (given future s)) (ap (nat_le charge_limit) r.charge ∙ spent);
    };
  }

  -- a session that was given, which the head names
  pub fresh_doing : ((first second third : P) → leads first second → leads second third → leads first third) → (w : Stage P K) (port : P) (scopes : ScopeState) (held : Held) (id : List ℕ)
      → is_some w.around.now.id ≡ false → scopes ≡ with_session w.scopes.now → leads w.port.now port → tree port ≡ tree w.port.now
      → (asking port).asked ≡ (asking w.port.now).asked ++ fresh ∷ [] → (asking port).answers ≡ (asking w.port.now).answers ++ id_told id ∷ [] → (asking port).left + 64 ≡ (asking w.port.now).left
      → ((start : Option (List ℕ)) (before : ℕ) (written : Option (List ℕ)) (faults : ℕ) (writer : Writer) → Stands start before w.writer.now written faults writer → Stands start before held written faults writer)
      → held ≡ record w.writer.now { head = record w.writer.now.head { set_cookie = Some id } }
      → Doing (Reached taken faults leads asking tree) (λ w. (asking w.port.now).answers) (λ u. u) (λ place s. session_started s.answers s) w (session_stage w port scopes held id true) (Ok tt)
  fresh_doing leads_on w port scopes held id none started on same asked answers left stands is = record {
    by = λ first origin s r. record {
      got = id_told id ∷ [];
      replies = answers;
      after = record (with_asked fresh s) { id = Some id; is_fresh = true; scopes = with_session s.scopes };
      stood = stage_session leads_on first w origin s port scopes held id true r on same asked left none started
          (stands origin.start origin.before (taken w.sink.now) (faults w.sink.now) s.writer r.writer) (ap (λ x. x.head) is) (ap (λ x. x.shown) is);
      went = λ place future. refl;
    };
  }

  -- a session that was given, where memory ran out for the cookie that names it
  pub fresh_short : ((first second third : P) → leads first second → leads second third → leads first third) → (w : Stage P K) (port : P) (scopes : ScopeState) (id : List ℕ)
      → is_some w.around.now.id ≡ false → scopes ≡ with_session w.scopes.now → leads w.port.now port → tree port ≡ tree w.port.now
      → (asking port).asked ≡ (asking w.port.now).asked ++ fresh ∷ [] → (asking port).answers ≡ (asking w.port.now).answers ++ id_told id ∷ [] → (asking port).left + 64 ≡ (asking w.port.now).left
      → w.writer.now.committed ≡ false
      → Doing (Reached taken faults leads asking tree) (λ w. (asking w.port.now).answers) (λ u. u) (λ place s. session_started s.answers s) w (session_stage w port scopes w.writer.now id false) (Err failure.NoMemory)
  fresh_short leads_on w port scopes id none started on same asked answers left free = record {
    by = λ first origin s r.
        let after : State = record (with_asked fresh s) { id = Some id; is_fresh = false; scopes = with_session s.scopes } in
        record {
          got = id_told id ∷ [];
          replies = answers;
          after = after;
          stood = stage_session leads_on first w origin s port scopes w.writer.now id false r on same asked left none started r.writer refl refl;
          went = λ place future.
              starts after (record (with_asked fresh s) { answers = future; id = Some id; is_fresh = true; scopes = with_session s.scopes }) (sym r.writer.committed ∙ free) (front_same after.asked) (front_same after.order) refl;
        };
  }
