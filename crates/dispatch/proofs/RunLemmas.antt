-- What stands where a request has just begun, and what the run of its pages comes to.
use Rattle.std.proofs.Common.{◌≡◌, ◌≤◌, ◌+◌, ℕ, Bool, true, false, List, [], ◌++◌, Option, Some, None, refl, sym, ap, subst, ◌∙◌, arith}
use Rattle.std.specs.Prelude.{is_some, IsErr, Result, Ok, Err, OnOk}
use Rattle.std.specs.List.{list_all}
use Rattle.std.specs.Option.{option_map}
use Rattle.std.specs.declared.alloc.AllocError.{AllocError}
use Rattle.dispatch.proofs.AnsweredLemmas.{reply_within}
use Rattle.dispatch.proofs.CountLemmas.{turns_asked, turns_told}
use Rattle.dispatch.specs.Begun.{IsBegun, around_of, empty_head}
use Rattle.dispatch.specs.Opened.{IsOpened}
use Rattle.dispatch.specs.Started.{Ran, RunsSo, Start, Starves, meant, origin_of}
use Rattle.http_out.proofs.SentLemmas.{sent_none}
use Rattle.http_out.specs.declared.head.Head.{Head}
use Rattle.http_out.specs.declared.status.Status.TheVariants as status
use Rattle.out_buffer.specs.Held.{Held, Stands, fresh}
use Rattle.out_buffer.specs.Writer.{empty_writer}
use Rattle.page_answers.specs.Standing.{found}
use Rattle.page_answers.specs.Turns.{Turn, all_bytes, all_calls, answers_of, are_whole_but_last, is_whole, steps_of}
use Rattle.request_pages.specs.Run.{IsInOrder, StandsFor}
use Rattle.compiled_pages.specs.Pages.{needs_at}
use Rattle.page_meaning.specs.Respond.{beginning}
use Rattle.page_meaning.specs.Response.{Answered}
use Rattle.page_meaning.specs.State.{State}
use Rattle.pass_course.specs.Course.{HasDone}
use Rattle.pass_course.specs.Under.{Under}
use Rattle.request_pages.specs.Closed.{Closed, ClosedSo, Reached}
use Rattle.request_pages.specs.Headed.{IsHeaded, head_for}
use Rattle.request_pages.specs.Played.{IsFunded, session_claim}
use Rattle.request_pages.specs.Within.{GoesWithin}
use Rattle.request_pages.specs.declared.request_state.RequestState.{RequestState}
use Rattle.request_pages.specs.declared.reply.Reply.{Reply}
use Rattle.request_pages.proofs.AskedLemmas.{asking_at}
use Rattle.request_pages.specs.Asked.{asked_in, asking_of, told_in}
use Rattle.run_stage.specs.Keeping.{session_weight}
use Rattle.run_world.specs.Origin.{Origin}
use Rattle.run_world.specs.declared.around.Around.{Around}
use Rattle.scopes.specs.Scopes.{Entries, ScopeState, starting}
use Rattle.site_words.specs.Answers.{IsSamePort}
use Rattle.site_words.specs.Fits.{has_session}
use Rattle.site_words.specs.Law.{Answer, own}
use Rattle.site_words.specs.Running.{Asking}
use Rattle.site_words.specs.Weights.{attrs_limit, attrs_weight}
use Rattle.site_words.specs.declared.words.Entry.{Entry}
use Rattle.site_words.specs.declared.words.Opening.{Opening}
use Rattle.site_words.specs.declared.words.Run.{Run}
use Rattle.source_tree.specs.declared.file.File.{File}

-- by the session that was found

starts_so : (cookie : List ℕ) (attrs : Entries) (session : Option ℕ) → option_map (λ f. f.1) (found cookie session attrs) ≡ option_map (λ (number : ℕ). attrs) session
starts_so cookie attrs None = refl
starts_so cookie attrs (Some number) = refl

names_so : (cookie : List ℕ) (attrs : Entries) (session : Option ℕ) → option_map (λ f. f.0) (found cookie session attrs) ≡ option_map (λ (number : ℕ). cookie) session
names_so cookie attrs None = refl
names_so cookie attrs (Some number) = refl

same_session : (cookie : List ℕ) (attrs : Entries) (session : Option ℕ) → is_some (option_map (λ (number : ℕ). attrs) session) ≡ is_some (option_map (λ (number : ℕ). cookie) session)
same_session cookie attrs None = refl
same_session cookie attrs (Some number) = refl

has_so : (cookie : List ℕ) (run : Run) (session : Option ℕ) → run.session ≡ session → has_session (Some run) ≡ is_some (option_map (λ (number : ℕ). cookie) session)
has_so cookie run None is = ap (λ s. has_session (Some (record { request = 0; version = 0; session = s; left = 0 }))) is
has_so cookie run (Some number) is = ap (λ s. has_session (Some (record { request = 0; version = 0; session = s; left = 0 }))) is

light_so : (attrs : Entries) (session : Option ℕ) → attrs_weight attrs ≤ attrs_limit → session_weight (option_map (λ (number : ℕ). attrs) session) ≤ 65536
light_so attrs None light = omega arith
light_so attrs (Some number) light = light

claims_so : (cookie : List ℕ) (session : Option ℕ) → session_claim (option_map (λ (number : ℕ). cookie) session) ≤ 64
claims_so cookie None = omega arith
claims_so cookie (Some number) = omega arith

-- what is asked of a request that has just begun
opened_asking : (x : Opening) (pass : ℕ) (seen : List Entry) (number : ℕ) (session : Option ℕ) (tree : List File) (opened : IsOpened x pass seen number session tree)
    → asking_of x pass seen number tree ≡ record { asked = []; answers = []; has_session = has_session (Some opened.run); left = opened.run.left }
opened_asking x pass seen number session tree opened =
    asking_at x pass seen number tree opened.run opened.under
    ∙ (ap (λ a. record { asked = a; answers = told_in x.seed (own pass seen); has_session = has_session (Some opened.run); left = opened.run.left }) opened.asked
    ∙ ap (λ a. record { asked = []; answers = a; has_session = has_session (Some opened.run); left = opened.run.left }) opened.told)

-- a writer at the start of a response has written nothing
fresh_stands : (head : Head) (shown : Bool) (taken : Option (List ℕ)) (faults : ℕ) → Stands taken faults (fresh head None true shown) taken faults (empty_writer None true)
fresh_stands head shown taken faults = record { holds = refl; committed = refl; streamed = record { sent = sent_none taken; later = omega arith; cause = λ is. absurd (cc) } }

module _ (cookie : List ℕ) (session : Option ℕ) (attrs : Entries) (close shown : Bool) (state : RequestState) (begun : IsBegun cookie session attrs close shown state) where
  pub begun_headed : IsHeaded close shown state.around state.writer
  begun_headed = record {
    status = status.Ok;
    content_type = None;
    head = ap (λ (w : Held). w.head) begun.writer ∙ sym (ap (head_for status.Ok None close) begun.around);
    shown_is = ap (λ (w : Held). w.shown) begun.writer;
  }

  module _ (x : Opening) (pass : ℕ) (seen : List Entry) (number : ℕ) (held : Option ℕ) (tree : List File) (opened : IsOpened x pass seen number held tree) where
    pub begun_in_order : held ≡ session → attrs_weight attrs ≤ attrs_limit → IsInOrder state.scopes state.around (asking_of x pass seen number tree)
    begun_in_order same light =
        let asking = asking_of x pass seen number tree in
        let in_order : IsInOrder (starting (option_map (λ (number : ℕ). attrs) session)) (around_of cookie session) asking = record {
          session = same_session cookie attrs session;
          asked = ap (λ (a : Asking). a.has_session) (opened_asking x pass seen number held tree opened) ∙ has_so cookie opened.run session (opened.session_is ∙ same);
          weight = light_so attrs session light;
          visits = omega arith;
          charge = omega arith;
        } in
        subst (λ scopes. IsInOrder scopes state.around asking) (sym begun.scopes) (subst (λ around. IsInOrder (starting (option_map (λ (number : ℕ). attrs) session)) around asking) (sym begun.around) in_order)

    pub begun_funded : IsFunded state.around (asking_of x pass seen number tree)
    begun_funded =
        let left : (asking_of x pass seen number tree).left ≡ opened.run.left = ap (λ (a : Asking). a.left) (opened_asking x pass seen number held tree opened) in
        let claim = claims_so cookie session in
        let enough = opened.left in
        subst (λ (around : Around). IsFunded around (asking_of x pass seen number tree)) (sym begun.around) (omega (arith, left, claim, enough))

    pub begun_stands : (taken : Option (List ℕ)) (faults : ℕ) → StandsFor (record { start = taken; before = faults; asked = [] }) state.scopes state.writer taken faults state.around (asking_of x pass seen number tree) (beginning (found cookie session attrs) [])
    begun_stands taken faults = record {
      scopes = ap starting (starts_so cookie attrs session) ∙ sym begun.scopes;
      asked = sym (ap (λ (a : Asking). a.asked) (opened_asking x pass seen number held tree opened));
      ordered = (refl, tt);
      writer = subst (λ held. Stands taken faults held taken faults (empty_writer None true)) (sym begun.writer) (fresh_stands (empty_head close) shown taken faults);
      visits = sym (ap (λ (a : Around). a.visits) begun.around);
      charge = sym (ap (λ (a : Around). a.charge) begun.around);
      id = names_so cookie attrs session ∙ sym (ap (λ (a : Around). a.id) begun.around);
      fresh = sym (ap (λ (a : Around). a.fresh) begun.around);
    }

-- the same of a port that came back

module _ {Q : Type 0} (opening : Q → Opening) (pass : Q → ℕ) (seen : Q → List Entry) where
  pub in_order_back : {E : Type 0} (result : Result Reply E) (scopes : ScopeState) (around : Around) (q r : Q) (n m : ℕ) (t u : List File) → q ≡ r → m ≡ n → u ≡ t → OnOk result (IsInOrder scopes around (asking_of (opening r) (pass r) (seen r) m u))
      → OnOk result (IsInOrder scopes around (asking_of (opening q) (pass q) (seen q) n t))
  in_order_back result scopes around q r n m t u port number tree in_order =
      subst (λ q. OnOk result (IsInOrder scopes around (asking_of (opening q) (pass q) (seen q) n t))) (sym port)
      (subst (λ n. OnOk result (IsInOrder scopes around (asking_of (opening r) (pass r) (seen r) n t))) number (subst (λ t. OnOk result (IsInOrder scopes around (asking_of (opening r) (pass r) (seen r) m t))) tree in_order))

  pub runs_back : {E : Type 0} (result : Result Reply E) (x : Opening) (p : ℕ) (start : Start) (state : RequestState) (taken : Option (List ℕ)) (faults : ℕ) (q r : Q) (a b : ℕ) → q ≡ r → a ≡ b → RunsSo x p start (seen r) b state taken faults result
      → RunsSo x p start (seen q) a state taken faults result
  runs_back result x p start state taken faults q r a b port steps runs =
      subst (λ q. RunsSo x p start (seen q) a state taken faults result) (sym port) (subst (λ n. RunsSo x p start (seen r) n state taken faults result) (sym steps) runs)

  pub under_back : (x : Opening) (p : ℕ) (number : ℕ) (tree : List File) (q r : Q) → q ≡ r → IsSamePort {H = Unit {0}} p (pass r) x (opening r) tt tt → (next : Run) × Under x p (seen r) number tree next → (next : Run) × Under (opening q) (pass q) (seen q) number tree next
  under_back x p number tree q r port same under =
      subst (λ q. (next : Run) × Under (opening q) (pass q) (seen q) number tree next) (sym port)
      (under.0, subst (λ x. Under x (pass r) (seen r) number tree under.0) (sym same.1) (subst (λ p. Under x p (seen r) number tree under.0) (sym same.0) under.1))

-- and of a port that is told to be the same
pub closed_at : {E : Type 0} (answers : List Answer → State → Answered) (origin : Origin) (state : RequestState) (taken : Option (List ℕ)) (faults : ℕ) (x y : Opening) (pass other : ℕ) (new : List Entry) (number : ℕ) (tree : List File) (s : State) (old : List Answer)
    (result : Result Reply E) → y ≡ x → other ≡ pass
    → Closed answers (Reached origin state.scopes state.writer taken faults state.around (asking_of y other new number tree)) s old (told_in y.seed (own other new)) state.writer result
    → Closed answers (Reached origin state.scopes state.writer taken faults state.around (asking_of x pass new number tree)) s old (told_in x.seed (own pass new)) state.writer result
closed_at answers origin state taken faults x y pass other new number tree s old result opening same closed =
    subst (λ x. Closed answers (Reached origin state.scopes state.writer taken faults state.around (asking_of x pass new number tree)) s old (told_in x.seed (own pass new)) state.writer result) opening
    (subst (λ p. Closed answers (Reached origin state.scopes state.writer taken faults state.around (asking_of y p new number tree)) s old (told_in y.seed (own p new)) state.writer result) same closed)

-- what the run of its pages comes to

closed_within : {E : Type 0} (answers : List Answer → Answered) (held : Held) (after : State) (result : Result Reply E) → ClosedSo answers held after result → (future : List Answer) → GoesWithin held.head after (answers future)
closed_within answers held after (Ok r) closed future = subst (GoesWithin held.head after) (sym (closed.1 future)) (reply_within held r future after closed.0)
closed_within answers held after (Err e) closed future = closed future

module _ (x : Opening) (pass : ℕ) (p : Start) (new : List Entry) (turns : List Turn) (did : HasDone needs_at x pass p.begun new (all_calls p.number turns)) (stops : are_whole_but_last turns ≡ true) (asked : asked_in (own pass p.begun) ≡ []) (told : told_in x.seed (own pass p.begun) ≡ []) where
  asked_so : asked_in (own pass new) ≡ steps_of turns
  asked_so = turns_asked needs_at x pass p.begun new p.number turns did ∙ ap (λ a. a ++ steps_of turns) asked

  told_so : (got : List Answer) → told_in x.seed (own pass new) ≡ told_in x.seed (own pass p.begun) ++ got → got ≡ answers_of x.seed turns
  told_so got replies =
      ap (λ a. a ++ got) (sym told) ∙ (sym replies ∙ (turns_told needs_at x pass p.begun new p.number turns did ∙ ap (λ a. a ++ answers_of x.seed turns) told))

  module _ {E : Type 0} (number : ℕ) (tree : List File) (s : State) (answers : List Answer → State → Answered) (means : (a : List Answer) → answers a s ≡ meant p a) (state : RequestState) (taken : Option (List ℕ)) (faults : ℕ) (result : Result Reply E)
      (headed : IsHeaded p.close p.shown state.around state.writer)
      (closed : Closed answers (Reached (origin_of p) state.scopes state.writer taken faults state.around (asking_of x pass new number tree)) s (told_in x.seed (own pass p.begun)) (told_in x.seed (own pass new)) state.writer result) where
    abbrev ran : Ran x pass p new state taken faults
    ran = record {
      turns = turns;
      did = did;
      after = closed.after;
      asked = closed.stood.asked ∙ asked_so;
      asking = asking_of x pass new number tree;
      stood = closed.stood;
      headed = headed;
    }

    meant_so : (future : List Answer) → meant p (answers_of x.seed turns ++ future) ≡ answers (closed.got ++ future) s
    meant_so future = ap (λ got. meant p (got ++ future)) (sym (told_so closed.got closed.replies)) ∙ sym (means (closed.got ++ future))

    -- memory ran out
    pub ran_short : (now : ℕ) → now ≤ p.steps + all_bytes p.tree turns → (ran : Ran x pass p new state taken faults) × Starves x pass p new now state.writer.head ran.after
    ran_short now read = (
      ran,
      record {
        turns = turns;
        stops = stops;
        did = did;
        asked = ran.asked;
        ordered = closed.stood.ordered;
        read = read;
        means = λ more. subst (GoesWithin state.writer.head closed.after) (sym (meant_so more)) (closed_within (λ future. answers (closed.got ++ future) s) state.writer closed.after result closed.ends more);
      },
    )

    -- or it was not
    pub ran_whole : (now : ℕ) → list_all is_whole turns ≡ true → now ≡ p.steps + all_bytes p.tree turns → RunsSo x pass p new now state taken faults result
    ran_whole now whole read = go result refl
      where
        go : (r : Result Reply E) → result ≡ r → RunsSo x pass p new now state taken faults r
        go (Err e) is = ran_short now (omega (arith, read))
        go (Ok r) is =
            let ends : ClosedSo {E = E} (λ future. answers (closed.got ++ future) s) state.writer closed.after (Ok r) = subst (ClosedSo {E = E} (λ future. answers (closed.got ++ future) s) state.writer closed.after) is closed.ends in
            record {
              ran = ran;
              whole = whole;
              read = read;
              is_open = ends.0;
              means = λ future. meant_so future ∙ ends.1 future;
            }

-- unless memory ever ran out while a page was found

pub ok_unless : (P : Type 0) (starved : Bool) (replied result : Result Reply AllocError) → (starved ≡ true → IsErr result) → (starved ≡ false → result ≡ replied) → OnOk replied P → OnOk result P
ok_unless P true replied (Ok r) err fed h = absurd (cc (err refl))
ok_unless P true replied (Err e) err fed h = tt
ok_unless P false replied result err fed h = subst (λ r. OnOk r P) (sym (fed refl)) h

pub runs_unless : (x : Opening) (pass : ℕ) (p : Start) (new : List Entry) (now : ℕ) (state : RequestState) (taken : Option (List ℕ)) (faults : ℕ) (starved : Bool) (replied result : Result Reply AllocError) → (starved ≡ true → IsErr result)
    → (starved ≡ false → result ≡ replied) → (starved ≡ false → RunsSo x pass p new now state taken faults replied) → (ran : Ran x pass p new state taken faults) × Starves x pass p new now state.writer.head ran.after → RunsSo x pass p new now state taken faults result
runs_unless x pass p new now state taken faults true replied (Ok r) err fed whole short = absurd (cc (err refl))
runs_unless x pass p new now state taken faults true replied (Err e) err fed whole short = short
runs_unless x pass p new now state taken faults false replied result err fed whole short = subst (RunsSo x pass p new now state taken faults) (sym (fed refl)) (whole refl)
