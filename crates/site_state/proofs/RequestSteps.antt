-- A Begin, a Fresh, an End and an Abandon, by what their parts did.
use Rattle.std.proofs.Common.{◌≡◌, ℕ, ◌+◌, ◌-◌, ◌^◌, min, max, List, [], ◌∷◌, ◌++◌, length, set, Option, Some, None, option_map, refl, sym, ap, subst, ◌∙◌, arith}
use Rattle.std.specs.Prelude.{slice_get}
use Rattle.std.proofs.lemmas.List.{map-append}
use Rattle.source_tree.specs.declared.file.File.{File}
use Rattle.pg_value.specs.Datum.{Datum}
use Rattle.site_words.specs.declared.words.Entry.{Entry}
use Rattle.site_words.specs.declared.words.KeptSession.{KeptSession}
use Rattle.site_words.specs.declared.words.Op.TheVariants as op
use Rattle.site_words.specs.declared.words.Opening.{Opening}
use Rattle.site_words.specs.declared.words.Reply.{Reply}
use Rattle.site_words.specs.declared.words.Reply.TheVariants as reply
use Rattle.site_words.specs.Runs.{UnderWay, freshened, promised, run_at, seated, session_in, tree_in, under_at}
use Rattle.site_words.specs.Sessions.{attrs_of, awake, dropped_sessions, ended_sessions, freed, holder, number_of, numbered, unless_none, without, begun_sessions}
use Rattle.site_words.specs.Step.{begun_session, busy, full_of, or_else, refusal_of}
use Rattle.site_words.specs.Trees.{Needs}
use Rattle.site_words.specs.Weights.{capped, op_weight, promise}
use Rattle.site_state.specs.declared.gift.Done.{Done}
use Rattle.site_state.specs.declared.gift.Gift.{Gift}
use Rattle.site_state.specs.declared.gift.Gift.TheVariants.{Nothing, Start, Made, Id, Picture, Old}
use Rattle.site_state.specs.declared.session.Session.{Session}
use Rattle.site_state.specs.declared.session.Source.{Source}
use Rattle.site_state.specs.declared.session.Source.TheVariants.{Nowhere, Ended}
use Rattle.site_state.specs.Conditions.{CanWork}
use Rattle.site_state.specs.Gifts.{IsId, IsStart}
use Rattle.site_state.specs.Parts.{Parts, state_of}
use Rattle.site_state.specs.ReadDone.{IsBegun, IsStartOf, attrs_in}
use Rattle.site_state.specs.ReadSessions.{begun_list, dropped_list, found_at, freed_list, held_by, named, number_in, others, roomy, source_in, still_awake}
use Rattle.site_state.specs.Sources.{AreThere, IsThere, attrs_at, session_of, sessions_of, written_in}
use Rattle.site_state.specs.Works.{IsDone, entry_of}
use Rattle.site_state.proofs.AttributeLemmas.{attrs_is, awake_is, found_is, holder_is, named_is, number_is, others_is, others_if_is, roomy_is, source_is, there_later, there_named, there_others, there_others_if, there_push, there_roomy, there_touched, touched_is}
use Rattle.site_state.proofs.Steps.{claim_alone, done_by, sum_alone}

module _ {P : Type 0} (needs : Needs) (made : P → List File → List ℕ → Type 0) where
  -- a session is made

  pub fresh_done : (x : Opening) (history : List Entry) (old new : Parts P) (pass request w sum : ℕ) (done : Done P) (id : List ℕ) (sessions : List Session) (runs : List (Option UnderWay)) → CanWork needs made x history old pass (op.Fresh request) None
      → new ≡ record old { sessions = sessions; runs = runs; freshes = old.freshes + 1; weight = sum }
      → sessions ≡ roomy old.runs old.sessions ++ record { number = old.freshes; used = old.moment; source = Nowhere } ∷ []
      → runs ≡ set old.runs pass (seated (freshened (run_at old.runs pass) (reply.Made old.freshes)) (tree_in (under_at old.runs pass))) → sum ≡ min (old.weight + w) (2 ^ 64 - 1) → w ≡ capped (op_weight (op.Fresh request))
      → done.reply ≡ reply.Made old.freshes → done.given.reply ≡ reply.Made old.freshes → IsId x (state_of x history old) done.given.gift
      → IsDone needs made x history old new pass (op.Fresh request) done
  fresh_done x history old new pass request w sum done id sessions runs can is sessions_are runs_are added claim told given gift =
      subst (λ (n : Parts P). IsDone needs made x history old n pass (op.Fresh request) done) (sym is)
      (done_by needs made x history old (record old { sessions = sessions; runs = runs; freshes = old.freshes + 1; weight = sum }) pass (op.Fresh request) (reply.Made old.freshes) done refl refl told given gift
      (record {
        tree = refl;
        version = refl;
        app = refl;
        sessions = λ h at.
            ap (λ l. sessions_of x.sessions h l) sessions_are
            ∙ (map-append (session_of x.sessions h) (roomy old.runs old.sessions) (record { number = old.freshes; used = old.moment; source = Nowhere } ∷ [])
            ∙ ap (λ l. l ++ record { number = old.freshes; used = old.moment; attrs = [] } ∷ []) (roomy_is x.sessions h old.runs old.sessions));
        runs = runs_are;
        begins = refl;
        freshes = refl;
        moment = refl;
        ready = refl;
        weight = sum_alone old.weight sum w (op_weight (op.Fresh request)) added claim (can.room refl);
      })
      (λ all. subst (λ l. AreThere (length history + 1) l) (sym sessions_are)
      (there_push (length history + 1) (roomy old.runs old.sessions) (record { number = old.freshes; used = old.moment; source = Nowhere }) (there_roomy (length history + 1) old.runs old.sessions (there_later (length history) old.sessions all)) tt))
      (λ all. all))

  -- a request ends

  freed_is : (opened : List KeptSession) (h : List Entry) (number moment : ℕ) (source : Source) (attrs : List (List ℕ × Datum)) (sessions : List Session) → attrs_at opened h source ≡ attrs
      → sessions_of opened h (others number sessions ++ record { number = number; used = moment; source = source } ∷ []) ≡ freed number moment attrs (sessions_of opened h sessions)
  freed_is opened h number moment source attrs sessions is =
      map-append (session_of opened h) (others number sessions) (record { number = number; used = moment; source = source } ∷ [])
      ∙ (ap (λ l. l ++ record { number = number; used = moment; attrs = attrs_at opened h source } ∷ []) (others_is opened h number sessions)
      ∙ ap (λ a. without number (sessions_of opened h sessions) ++ record { number = number; used = moment; attrs = a } ∷ []) is)

  there_freed : (n : ℕ) (number : Option ℕ) (moment : ℕ) (source : Source) (sessions : List Session) → AreThere n sessions → IsThere n source → AreThere n (freed_list number moment source sessions)
  there_freed n None moment source sessions all is = all
  there_freed n (Some number) moment source sessions all is = there_push n (others number sessions) (record { number = number; used = moment; source = source }) (there_others n number sessions all) is

  pub end_done : (x : Opening) (history : List Entry) (old new : Parts P) (pass request w sum : ℕ) (attrs : List (List ℕ × Datum)) (done : Done P) (sessions : List Session) (runs : List (Option UnderWay))
      → CanWork needs made x history old pass (op.End request attrs) None
      → new ≡ record old { sessions = sessions; runs = runs; weight = sum }
      → sessions ≡ freed_list (session_in (run_at old.runs pass)) old.moment (Ended (length history)) old.sessions → runs ≡ set old.runs pass None
      → sum ≡ min (old.weight + w) (2 ^ 64 - 1) → w ≡ capped (op_weight (op.End request attrs)) → done.reply ≡ reply.Ended → done.given.reply ≡ reply.Ended → IsDone needs made x history old new pass (op.End request attrs) done
  end_done x history old new pass request w sum attrs done sessions runs can is sessions_are runs_are added claim told given =
      subst (λ (n : Parts P). IsDone needs made x history old n pass (op.End request attrs) done) (sym is)
      (done_by needs made x history old (record old { sessions = sessions; runs = runs; weight = sum }) pass (op.End request attrs) reply.Ended done refl refl told given tt
      (record {
        tree = refl;
        version = refl;
        app = refl;
        sessions = λ h at. ap (λ l. sessions_of x.sessions h l) sessions_are ∙ ends h (session_in (run_at old.runs pass)) at;
        runs = runs_are;
        begins = refl;
        freshes = refl;
        moment = refl;
        ready = refl;
        weight = sum_alone old.weight sum w (op_weight (op.End request attrs)) added claim (can.room refl);
      })
      (λ all. subst (λ l. AreThere (length history + 1) l) (sym sessions_are)
      (there_freed (length history + 1) (session_in (run_at old.runs pass)) old.moment (Ended (length history)) old.sessions (there_later (length history) old.sessions all) (omega arith)))
      (λ all. all))
    where
      ends : (h : List Entry) (number : Option ℕ) → slice_get h (length history) ≡ Some (entry_of pass (op.End request attrs) reply.Ended)
          → sessions_of x.sessions h (freed_list number old.moment (Ended (length history)) old.sessions) ≡ ended_sessions number old.moment attrs (sessions_of x.sessions h old.sessions)
      ends h None at = refl
      ends h (Some number) at = freed_is x.sessions h number old.moment (Ended (length history)) attrs old.sessions (ap (λ e. written_in e) at)

  pub abandon_done : (x : Opening) (history : List Entry) (old new : Parts P) (pass request w sum : ℕ) (done : Done P) (sessions : List Session) (runs : List (Option UnderWay))
      → CanWork needs made x history old pass (op.Abandon request) None
      → new ≡ record old { sessions = sessions; runs = runs; weight = sum }
      → sessions ≡ dropped_list (session_in (run_at old.runs pass)) old.moment old.sessions → runs ≡ set old.runs pass None
      → sum ≡ min (old.weight + w) (2 ^ 64 - 1) → w ≡ capped (op_weight (op.Abandon request)) → done.reply ≡ reply.Dropped → done.given.reply ≡ reply.Dropped → IsDone needs made x history old new pass (op.Abandon request) done
  abandon_done x history old new pass request w sum done sessions runs can is sessions_are runs_are added claim told given =
      subst (λ (n : Parts P). IsDone needs made x history old n pass (op.Abandon request) done) (sym is)
      (done_by needs made x history old (record old { sessions = sessions; runs = runs; weight = sum }) pass (op.Abandon request) reply.Dropped done refl refl told given tt
      (record {
        tree = refl;
        version = refl;
        app = refl;
        sessions = λ h at. ap (λ l. sessions_of x.sessions h l) sessions_are ∙ drops h (session_in (run_at old.runs pass));
        runs = runs_are;
        begins = refl;
        freshes = refl;
        moment = refl;
        ready = refl;
        weight = sum_alone old.weight sum w (op_weight (op.Abandon request)) added claim (can.room refl);
      })
      (λ all. subst (λ l. AreThere (length history + 1) l) (sym sessions_are) (there (session_in (run_at old.runs pass)) (there_later (length history) old.sessions all)))
      (λ all. all))
    where
      drops : (h : List Entry) (number : Option ℕ) → sessions_of x.sessions h (dropped_list number old.moment old.sessions) ≡ dropped_sessions number old.moment (sessions_of x.sessions h old.sessions)
      drops h None = refl
      drops h (Some number) =
          freed_is x.sessions h number old.moment (source_in (named number old.sessions)) (attrs_of (numbered number (sessions_of x.sessions h old.sessions))) old.sessions
          (sym (ap (λ (k : Option KeptSession). attrs_of k) (named_is x.sessions h number old.sessions) ∙ source_is x.sessions h (named number old.sessions)))

      there : (number : Option ℕ) → AreThere (length history + 1) old.sessions → AreThere (length history + 1) (dropped_list number old.moment old.sessions)
      there None all = all
      there (Some number) all = there_freed (length history + 1) (Some number) old.moment (source_in (named number old.sessions)) old.sessions all (there_named (length history + 1) number old.sessions all)

  -- a request begins

  begun_is : (x : Opening) (history : List Entry) (old : Parts P) (cookie : List ℕ) (now : ℕ)
      → begun_session x (state_of x history old) cookie now ≡ option_map (session_of x.sessions history) (still_awake x.idle now (found_at x.seed cookie old.sessions))
  begun_is x history old cookie now =
      ap (λ k. awake x.idle now k) (found_is x.sessions history x.seed cookie old.sessions) ∙ awake_is x.sessions history x.idle now (found_at x.seed cookie old.sessions)

  -- why a Begin is refused
  pub begin_refusal : (x : Opening) (history : List Entry) (old : Parts P) (pass : ℕ) (cookie : List ℕ) (moment : ℕ)
      → refusal_of needs x (state_of x history old) pass (op.Begin cookie moment) ≡ or_else (busy (held_by (found_at x.seed cookie old.sessions) old.runs)) (full_of x.limit old.weight (promised old.runs) promise)
  begin_refusal x history old pass cookie moment =
      ap (λ h. or_else (busy h) (full_of x.limit old.weight (promised old.runs) promise))
      (ap (λ k. holder k old.runs) (found_is x.sessions history x.seed cookie old.sessions) ∙ holder_is x.sessions history (found_at x.seed cookie old.sessions) old.runs)

  start_gift : (g : Gift P) (x : Opening) (history : List Entry) (old : Parts P) (cookie : List ℕ) (now : ℕ) (session : Option Session) → session ≡ still_awake x.idle now (found_at x.seed cookie old.sessions)
      → IsStartOf old.tree (attrs_in x.sessions history session) g → IsStart x (state_of x history old) cookie now g
  start_gift (Start tree attrs) x history old cookie now session is gift =
      (gift.0, gift.1 ∙ sym (ap (λ (k : Option KeptSession). attrs_of k) (begun_is x history old cookie now ∙ ap (λ s. option_map (session_of x.sessions history) s) (sym is)) ∙ attrs_is x.sessions history session))
  start_gift Nothing x history old cookie now session is gift = absurd gift
  start_gift (Made v) x history old cookie now session is gift = absurd gift
  start_gift (Id i) x history old cookie now session is gift = absurd gift
  start_gift (Picture t a b) x history old cookie now session is gift = absurd gift
  start_gift (Old t values) x history old cookie now session is gift = absurd gift

  pub begin_done : (x : Opening) (history : List Entry) (old new : Parts P) (pass w sum moment now : ℕ) (cookie : List ℕ) (found session : Option Session) (done : Done P) (sessions : List Session) (runs : List (Option UnderWay))
      → CanWork needs made x history old pass (op.Begin cookie moment) None → refusal_of needs x (state_of x history old) pass (op.Begin cookie moment) ≡ None
      → new ≡ record old { sessions = sessions; runs = runs; begins = old.begins + 1; moment = now; weight = sum }
      → found ≡ found_at x.seed cookie old.sessions → now ≡ max old.moment moment → session ≡ still_awake x.idle now found → sessions ≡ begun_list now found session old.sessions
      → runs ≡ set old.runs pass (Some (record { run = record { request = old.begins; version = old.version; session = number_in session; left = promise - w }; tree = old.tree }))
      → sum ≡ min (old.weight + w) (2 ^ 64 - 1) → w ≡ capped (op_weight (op.Begin cookie moment)) → IsBegun x.sessions history old session done
      → IsDone needs made x history old new pass (op.Begin cookie moment) done
  begin_done x history old new pass w sum moment now cookie found session done sessions runs can none is found_here now_is session_is sessions_are runs_are added claim begun =
      let r : Reply = reply.Begun old.begins old.version (number_in session) in
      let awake_here : session ≡ still_awake x.idle (max old.moment moment) (found_at x.seed cookie old.sessions) = session_is ∙ (ap (λ n. still_awake x.idle n found) now_is ∙ ap (λ f. still_awake x.idle (max old.moment moment) f) found_here) in
      let number : number_in session ≡ number_of (begun_session x (state_of x history old) cookie (max old.moment moment)) =
      sym (ap (λ (k : Option KeptSession). number_of k) (begun_is x history old cookie (max old.moment moment) ∙ ap (λ s. option_map (session_of x.sessions history) s) (sym awake_here)) ∙ number_is x.sessions history session) in
      let room = can.room none in
      subst (λ (n : Parts P). IsDone needs made x history old n pass (op.Begin cookie moment) done) (sym is)
      (done_by needs made x history old (record old { sessions = sessions; runs = runs; begins = old.begins + 1; moment = now; weight = sum }) pass (op.Begin cookie moment) r done none
      (ap (λ n. reply.Begun old.begins old.version n) number) begun.0.0 begun.0.1
      (start_gift done.given.gift x history old cookie (max old.moment moment) session awake_here begun.1)
      (record {
        tree = refl;
        version = refl;
        app = refl;
        sessions = λ h at. ap (λ l. sessions_of x.sessions h l) sessions_are ∙ (listed h session ∙ ap (λ n. begun_sessions x.seed n cookie (sessions_of x.sessions h old.sessions) r) now_is);
        runs = runs_are ∙ ap (λ n. set old.runs pass (Some (record { run = record { request = old.begins; version = old.version; session = number_in session; left = promise - n }; tree = old.tree }))) (claim_alone old.weight w (op_weight (op.Begin cookie moment)) claim room);
        begins = refl;
        freshes = refl;
        moment = now_is;
        ready = refl;
        weight = sum_alone old.weight sum w (op_weight (op.Begin cookie moment)) added claim room;
      })
      (λ all. subst (λ l. AreThere (length history + 1) l) (sym sessions_are) (there session (there_later (length history) old.sessions all)))
      (λ all. all))
    where
      listed : (h : List Entry) (got : Option Session) → sessions_of x.sessions h (begun_list now found got old.sessions) ≡ begun_sessions x.seed now cookie (sessions_of x.sessions h old.sessions) (reply.Begun old.begins old.version (number_in got))
      listed h (Some s) = touched_is x.sessions h s.number now old.sessions
      listed h None =
          others_if_is x.sessions h (number_in found) old.sessions
          ∙ ap (λ n. unless_none n (sessions_of x.sessions h old.sessions))
          (sym (ap (λ (k : Option KeptSession). number_of k) (found_is x.sessions h x.seed cookie old.sessions ∙ ap (λ f. option_map (session_of x.sessions h) f) (sym found_here)) ∙ number_is x.sessions h found))

      there : (got : Option Session) → AreThere (length history + 1) old.sessions → AreThere (length history + 1) (begun_list now found got old.sessions)
      there (Some s) all = there_touched (length history + 1) s.number now old.sessions all
      there None all = there_others_if (length history + 1) (number_in found) old.sessions all
