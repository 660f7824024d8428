-- Where the calls of a visit leave its pass.
use Rattle.std.proofs.Common.{◌≡◌, ℕ, ◌+◌, ◌-◌, ◌≤◌, true, false, List, length, Option, Some, None, Result, Ok, Err, refl, sym, ap, subst, ◌∙◌, arith}
use Rattle.edges.specs.declared.acted.Acted.TheVariants.{Did}
use Rattle.pg_value.specs.declared.value.Value.{Value}
use Rattle.site_words.specs.declared.port.Begun.{Begun}
use Rattle.site_words.specs.declared.words.AppReply.{AppReply}
use Rattle.site_words.specs.declared.words.AppStep.TheVariants as step
use Rattle.site_words.specs.declared.words.Entry.{Entry}
use Rattle.site_words.specs.declared.words.Op.{Op}
use Rattle.site_words.specs.declared.words.Op.TheVariants as op
use Rattle.site_words.specs.declared.words.Opening.{Opening}
use Rattle.site_words.specs.declared.words.Reply.{Reply}
use Rattle.site_words.specs.declared.words.Reply.TheVariants as reply
use Rattle.site_words.specs.declared.words.Run.{Run}
use Rattle.site_words.specs.Answers.{of_app, of_begun, of_fetched}
use Rattle.site_words.specs.Calls.{Calls, Stays}
use Rattle.site_words.specs.Law.{own, run_of}
use Rattle.site_words.specs.Runs.{run_after}
use Rattle.site_words.specs.Trees.{Needs}
use Rattle.site_words.specs.Weights.{op_weight, reply_weight}
use Rattle.site_words.proofs.Items.{fold-push}
use Rattle.pass_course.specs.Course.{IsIdle}
use Rattle.site_shared_tests.specs.Visits.{IsServing}

module _ (needs : Needs) (x y : Opening) (pass k : ℕ) (old new : List Entry) where
  run_next : (o : Op) (r : Reply) → Calls needs x pass old new o (Did r) → run_of (own pass new) ≡ run_after (run_of (own pass old)) o r
  run_next o r acts =
      ap (λ l. run_of l) acts.grown
      ∙ (fold-push (λ run (e : ℕ × Entry). run_after run e.1.op e.1.reply) None (own pass old) (length acts.front, acts.entry)
      ∙ ap (λ (e : Entry). run_after (run_of (own pass old)) e.op e.reply) acts.said)

  run_stays : Stays needs x pass old new → run_of (own pass new) ≡ run_of (own pass old)
  run_stays stays = ap (λ l. run_of l) stays.same

  serving_at : (request : ℕ) (session : Option ℕ) (left : ℕ) → k ≡ pass → y ≡ x → IsServing x pass new request session left → IsServing y k new request session left
  serving_at request session left mine site serving =
      subst (λ z. IsServing z k new request session left) (sym site) (subst (λ n. IsServing x n new request session left) (sym mine) serving)

  -- the request that has begun is under way
  pub begun : (cookie : List ℕ) (moment : ℕ) (b : Begun) → k ≡ pass → y ≡ x → IsIdle x pass old → length cookie ≤ 48 → Calls needs x pass old new (op.Begin cookie moment) (of_begun (Did b))
      → IsServing y k new b.request b.session 4325000
  begun cookie moment b mine site idle short acts =
      serving_at b.request b.session 4325000 mine site (
        idle.0,
        record {
          run = record { request = b.request; version = b.version; session = b.session; left = 4325376 - (64 + (16 + length cookie)) };
          found = run_next (op.Begin cookie moment) (reply.Begun b.request b.version b.session) acts;
          numbered = refl;
          holds = refl;
          roomy = omega arith;
        },
      )

  still_serves : (request : ℕ) (session : Option ℕ) (left less : ℕ) → less ≤ left → IsServing x pass old request session left → Stays needs x pass old new → IsServing x pass new request session less
  still_serves request session left less le serving stays = (
    serving.0,
    record {
      run = serving.1.run;
      found = run_stays stays ∙ serving.1.found;
      numbered = serving.1.numbered;
      holds = serving.1.holds;
      roomy = let roomy : left ≤ serving.1.run.left = serving.1.roomy in omega arith;
    },
  )

  -- a request of which so much is spent
  spends : (o : Op) (r : Reply) (request : ℕ) (session : Option ℕ) (left less weight : ℕ) → less + weight ≤ left
      → ((run : Run) → run_after (Some run) o r ≡ Some (record { request = run.request; version = run.version; session = run.session; left = run.left - weight }))
      → IsServing x pass old request session left → Calls needs x pass old new o (Did r) → IsServing x pass new request session less
  spends o r request session left less weight le moves serving acts = (
    serving.0,
    record {
      run = record { request = serving.1.run.request; version = serving.1.run.version; session = serving.1.run.session; left = serving.1.run.left - weight };
      found = run_next o r acts ∙ (ap (λ run. run_after run o r) serving.1.found ∙ moves serving.1.run);
      numbered = serving.1.numbered;
      holds = serving.1.holds;
      roomy = let roomy : left ≤ serving.1.run.left = serving.1.roomy in omega arith;
    },
  )

  pub fetched : {V E : Type 0} (request : ℕ) (session : Option ℕ) (path : List ℕ) (a : Result (Option V) E) → k ≡ pass → y ≡ x → length path ≤ 1024 → IsServing x pass old request session 4325000
      → Calls needs x pass old new (op.Fetch request path) (of_fetched a) → IsServing y k new request session 4000000
  fetched request session path (Ok None) mine site short serving acts = serving_at request session 4000000 mine site
      (spends (op.Fetch request path) (reply.Fetched false) request session 4325000 4000000 (64 + (16 + length path)) (omega arith) (λ run. refl) serving acts)
  fetched request session path (Ok (Some v)) mine site short serving acts = serving_at request session 4000000 mine site
      (spends (op.Fetch request path) (reply.Fetched true) request session 4325000 4000000 (64 + (16 + length path)) (omega arith) (λ run. refl) serving acts)
  fetched request session path (Err e) mine site short serving stays = serving_at request session 4000000 mine site (still_serves request session 4325000 4000000 (omega arith) serving stays)

  -- whatever a step on the application's attributes was told, its request is under way
  pub stepped : {E : Type 0} (request : ℕ) (session : Option ℕ) (name : List ℕ) (value : Value) (a : Result AppReply E) → k ≡ pass → y ≡ x → IsServing x pass old request session 4000000
      → Calls needs x pass old new (op.App request (step.Set name value)) (of_app a) → IsServing y k new request session 0
  stepped request session name value (Ok r) mine site serving acts =
      let weight : ℕ = op_weight (op.App request (step.Set name value)) + reply_weight (reply.App r) in
      serving_at request session 0 mine site (
        serving.0,
        record {
          run = record { request = serving.1.run.request; version = serving.1.run.version; session = serving.1.run.session; left = serving.1.run.left - weight };
          found = run_next (op.App request (step.Set name value)) (reply.App r) acts ∙ ap (λ run. run_after run (op.App request (step.Set name value)) (reply.App r)) serving.1.found;
          numbered = serving.1.numbered;
          holds = serving.1.holds;
          roomy = omega arith;
        },
      )
  stepped request session name value (Err e) mine site serving stays = serving_at request session 0 mine site (still_serves request session 4000000 0 (omega arith) serving stays)
