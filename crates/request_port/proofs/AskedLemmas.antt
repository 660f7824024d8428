-- What a call of the port does to what was asked of the request.
use Rattle.std.proofs.Common.{◌≡◌, ◌⊎◌, inl, inr, ℕ, ◌+◌, ◌-◌, ◌<◌, ◌≤◌, Bool, true, false, List, [], ◌∷◌, ◌++◌, Option, Some, None, refl, sym, ap, subst, ◌∙◌, arith}
use Rattle.std.specs.Prelude.{◌&&◌, not, if◌then◌else◌, Result, Ok, Err}
use Rattle.std.specs.Cmp.Lexicographic.{same_text}
use Rattle.std.specs.Str.{bytes_eq}
use Rattle.edges.specs.declared.acted.Acted.TheVariants.{Did}
use Rattle.page_answers.specs.Turns.{all_calls, hit, missed, unoffered}
use Rattle.pass_course.proofs.CourseLemmas.{done_acts, done_counts, done_stays}
use Rattle.pass_course.proofs.UnderLemmas.{under_holds, under_on, under_told}
use Rattle.pass_course.specs.Course.{HasDone}
use Rattle.pass_course.specs.Under.{Under, is_under}
use Rattle.pg_value.proofs.Inverses.{datum_of-value_of}
use Rattle.pg_value.specs.Attrs.{entry_at}
use Rattle.pg_value.specs.Datum.{Datum, rec, entries_of}
use Rattle.pg_value.specs.Limits.{is_over}
use Rattle.pg_value.specs.Weight.{weight_of}
use Rattle.pg_value.specs.declared.value.Value.TheVariants as variant
use Rattle.request_port.specs.Asked.{asked_after, asked_in, asking_of, left_if, told_after, told_in}
use Rattle.request_port.specs.Finding.{Finds, IsFound}
use Rattle.request_port.proofs.FindLemmas.{has_run_so}
use Rattle.site_words.proofs.Items.{and_both, and_left, and_right}
use Rattle.site_words.proofs.Legal.{legal_rest}
use Rattle.site_words.proofs.Promise.{app_light, within}
use Rattle.site_words.specs.Answers.{IsNamed, of_app, of_fresh}
use Rattle.site_words.specs.App.{app_reply, ensure_reply, value_or_null}
use Rattle.site_words.specs.Calls.{Acts, Calls}
use Rattle.site_words.specs.Fits.{fits_step, has_run, has_session}
use Rattle.site_words.specs.Invariants.{IsFit}
use Rattle.site_words.specs.Law.{Legal, LegalFrom, May, told, id, own, run_of}
use Rattle.site_words.specs.Opening.{is_sound, sound_app, sound_counts, sound_sessions, sound_tree}
use Rattle.site_words.specs.PageSteps as asks
use Rattle.site_words.specs.Running.{Asking, HasLooked, IsGivenSession, IsPageFile, IsTold, Looks, fits_step_reply, is_page, keeps_limits, look_claim, look_steps, page_claim}
use Rattle.site_words.specs.State.{after, start_of}
use Rattle.site_words.specs.Step.{step as step_of}
use Rattle.site_words.specs.Trees.{Each, Needs}
use Rattle.site_words.specs.Weights.{answer_weight, capped, end_weight, op_weight, step_weight, value_limit}
use Rattle.site_words.specs.declared.port.Fresh.{Fresh}
use Rattle.site_words.specs.declared.words.AppReply.{AppReply}
use Rattle.site_words.specs.declared.words.AppReply.TheVariants as answer
use Rattle.site_words.specs.declared.words.AppStep.{AppStep}
use Rattle.site_words.specs.declared.words.AppStep.TheVariants as step
use Rattle.site_words.specs.declared.words.Entry.{Entry}
use Rattle.site_words.specs.declared.words.Op.{Op}
use Rattle.site_words.specs.declared.words.Op.TheVariants as op
use Rattle.site_words.specs.declared.words.Opening.{Opening}
use Rattle.site_words.specs.declared.words.Reply.{Reply}
use Rattle.site_words.specs.declared.words.Reply.TheVariants as reply
use Rattle.site_words.specs.declared.words.Run.{Run}
use Rattle.source_tree.specs.Edits.{file_at}
use Rattle.source_tree.specs.declared.file.File.{File}

-- the request under way, where something is left of its promise

pub under_room : (x : Opening) (pass : ℕ) (seen : List Entry) (request : ℕ) (tree : List File) (claim : ℕ) → 0 < claim → claim ≤ (asking_of x pass seen request tree).left → (run : Run) × Under x pass seen request tree run × (claim ≤ run.left)
under_room x pass seen request tree claim some room = go (is_under x pass seen request tree) refl room
  where
    go : (b : Bool) → is_under x pass seen request tree ≡ b → claim ≤ left_if b (run_of (own pass seen)) → (run : Run) × Under x pass seen request tree run × (claim ≤ run.left)
    go true is h = let u = under_holds x pass seen request tree is in (u.0, u.1, subst (λ r. claim ≤ left_if true r) u.1.run_is h)
    go false is h = absurd (omega (arith, some, h))

-- what is asked of a request that is under way
pub asking_at : (x : Opening) (pass : ℕ) (seen : List Entry) (request : ℕ) (tree : List File) (run : Run) → Under x pass seen request tree run
    → asking_of x pass seen request tree ≡ record { asked = asked_in (own pass seen); answers = told_in x.seed (own pass seen); has_session = has_session (Some run); left = run.left }
asking_at x pass seen request tree run under =
    ap (λ b. record { asked = asked_in (own pass seen); answers = told_in x.seed (own pass seen); has_session = has_session (run_of (own pass seen)); left = left_if b (run_of (own pass seen)) }) (under_told x pass seen request tree run under)
    ∙ ap (λ r. record { asked = asked_in (own pass seen); answers = told_in x.seed (own pass seen); has_session = has_session r; left = left_if true r }) under.run_is

-- where nothing was done it is as it was
pub asking_stays : (needs : Needs) (x : Opening) (pass : ℕ) (old new : List Entry) (request : ℕ) (tree : List File) (run : Run) → Under x pass old request tree run → HasDone needs x pass old new []
    → asking_of x pass new request tree ≡ asking_of x pass old request tree
asking_stays needs x pass old new request tree run under done =
    let later = under_on needs x pass old new [] request tree run run under done refl refl refl in
    let asked : asked_in (own pass new) ≡ asked_in (own pass old) = done_counts asked_after [] needs x pass old new [] done in
    let answers : told_in x.seed (own pass new) ≡ told_in x.seed (own pass old) = done_counts (told_after x.seed) [] needs x pass old new [] done in
    asking_at x pass new request tree run later
    ∙ (ap (λ a. record { asked = a; answers = told_in x.seed (own pass new); has_session = has_session (Some run); left = run.left }) asked
    ∙ (ap (λ a. record { asked = asked_in (own pass old); answers = a; has_session = has_session (Some run); left = run.left }) answers ∙ sym (asking_at x pass old request tree run under)))

-- what was done of a legal history is what its step gives
acts_did : (needs : Needs) (x : Opening) (pass : ℕ) (old new : List Entry) (o : Op) (r : Reply) (acts : Acts needs x pass old new o r) → step_of needs x (after needs x acts.front) pass o ≡ Did r
acts_did needs x pass old new o r acts =
    let whole : Legal needs x (acts.front ++ acts.entry ∷ []) = subst (λ h. Legal needs x h) acts.seen acts.is_legal in
    let rest : LegalFrom needs x (after needs x acts.front) (acts.entry ∷ []) = legal_rest needs x (start_of x) acts.front (acts.entry ∷ []) whole in
    subst (λ (e : Entry). step_of needs x (after needs x acts.front) e.pass e.op ≡ Did e.reply) acts.said rest.0.did

-- a value that is told keeps its limits, and fits its step

not_over : (d : Datum) → not (is_over d) ≡ true → is_over d ≡ false
not_over d h = go (is_over d) h
  where
    go : (b : Bool) → not b ≡ true → b ≡ false
    go true h = absurd (cc)
    go false h = refl

looked_limits : (name : List ℕ) (app : List (List ℕ × Datum)) → Each IsFit app → keeps_limits (answer.Value (value_or_null (entry_at name app)))
looked_limits name [] all = refl
looked_limits name (e ∷ app) all = go (Rattle.std.specs.Str.bytes_eq name e.0) (looked_limits name app all.1)
  where
    go : (b : Bool) → keeps_limits (answer.Value (value_or_null (entry_at name app))) → keeps_limits (answer.Value (value_or_null (if b then Some e.1 else entry_at name app)))
    go true rest = subst (λ d. is_over d ≡ false) (sym (datum_of-value_of e.1)) (not_over e.1 all.0)
    go false rest = rest

ensured_limits : (o : Option Datum) → keeps_limits (answer.Value (value_or_null o)) → keeps_limits (ensure_reply o)
ensured_limits None h = tt
ensured_limits (Some d) h = h

ensured_fits : (name : List ℕ) (value : Rattle.pg_value.specs.declared.value.Value.Value) (o : Option Datum) → fits_step_reply (step.Ensure name value) (ensure_reply o) ≡ true
ensured_fits name value None = refl
ensured_fits name value (Some d) = refl

abbrev all_reply : List (List ℕ × Datum) → Bool → AppReply
all_reply app b = if b then answer.Large (capped (weight_of (rec (entries_of app)))) else answer.Value (variant.Rec app)

all_fits : (app : List (List ℕ × Datum)) (b : Bool) → is_over (rec (entries_of app)) ≡ b → (fits_step_reply step.All (all_reply app b) ≡ true) × keeps_limits (all_reply app b)
all_fits app true is = (refl, tt)
all_fits app false is = (refl, is)

pub app_keeps : (app : List (List ℕ × Datum)) (s : AppStep) → Each IsFit app → (fits_step_reply s (app_reply app s) ≡ true) × keeps_limits (app_reply app s)
app_keeps app (step.Get name) all = (refl, looked_limits name app all)
app_keeps app (step.Set name value) all = (refl, tt)
app_keeps app (step.Remove name) all = (refl, tt)
app_keeps app (step.Ensure name value) all = (ensured_fits name value (entry_at name app), ensured_limits (entry_at name app) (looked_limits name app all))
app_keeps app step.All all = all_fits app (is_over (rec (entries_of app))) refl

app_sound : (x : Opening) → is_sound x ≡ true → sound_app x ≡ true
app_sound x h = and_left (sound_app x) (sound_sessions x) (and_right (sound_tree x) (sound_app x && sound_sessions x) (and_right (sound_counts x) (sound_tree x && (sound_app x && sound_sessions x)) h))

-- a step on the application's attributes

pub may_app : (x : Opening) (pass : ℕ) (seen : List Entry) (request : ℕ) (tree : List File) (s : AppStep) → fits_step s ≡ true → 64 + step_weight s + value_limit + end_weight ≤ (asking_of x pass seen request tree).left
    → May x seen pass (own pass seen) (op.App request s)
may_app x pass seen request tree s fit room =
    let u = under_room x pass seen request tree (64 + step_weight s + value_limit + end_weight) (omega arith) room in (
      u.1.within,
      and_both (has_run (run_of (own pass seen)) request (op_weight (op.App request s) + value_limit + end_weight)) (fits_step s)
          (has_run_so (run_of (own pass seen)) u.0 request (op_weight (op.App request s) + value_limit + end_weight) u.1.run_is u.1.request_is u.2) fit,
      tt,
    )

spends : (left weight : ℕ) → weight ≤ left → left - weight + weight ≡ left
spends left weight h = omega (arith, h)

same_reply : (a b : AppReply) → (let d : Rattle.edges.specs.declared.acted.Acted.Acted Reply Rattle.site_words.specs.declared.words.Refusal.Refusal = Did (reply.App a) in d) ≡ Did (reply.App b) → a ≡ b
same_reply a b h = cc

pub app_told : {E : Type 0} (needs : Needs) (x : Opening) (pass : ℕ) (old new : List Entry) (request : ℕ) (tree : List File) (s : AppStep) (result : Result AppReply E) → is_sound x ≡ true
    → 64 + step_weight s + value_limit + end_weight ≤ (asking_of x pass old request tree).left → Calls needs x pass old new (op.App request s) (of_app result)
    → IsTold (asking_of x pass old request tree) (asking_of x pass new request tree) s result
app_told needs x pass old new request tree s (Err e) sound room call =
    let u = under_room x pass old request tree (64 + step_weight s + value_limit + end_weight) (omega arith) room in
    asking_stays needs x pass old new request tree u.0 u.1 (done_stays needs x pass old new call)
app_told needs x pass old new request tree s (Ok r) sound room call =
    let u = under_room x pass old request tree (64 + step_weight s + value_limit + end_weight) (omega arith) room in
    let run = u.0 in
    let done = done_acts needs x pass old new (op.App request s) (reply.App r) call in
    let weight : ℕ = op_weight (op.App request s) + answer_weight r in
    let next : Run = record { request = run.request; version = run.version; session = run.session; left = run.left - weight } in
    let later = under_on needs x pass old new ((op.App request s, reply.App r) ∷ []) request tree run next u.1 done refl refl refl in
    let before = asking_at x pass old request tree run u.1 in
    let now = asking_at x pass new request tree next later in
    let good = within needs x call.front (app_sound x sound) call.stays.is_legal in
    let state = after needs x call.front in
    let is : app_reply state.app s ≡ r = same_reply (app_reply state.app s) r (acts_did needs x pass old new (op.App request s) (reply.App r) call) in
    let keeps = subst (λ r. (fits_step_reply s r ≡ true) × keeps_limits r) is (app_keeps state.app s good.app) in
    let light : answer_weight r ≤ 1048576 = subst (λ r. answer_weight r ≤ 1048576) is (app_light state.app s good.app) in
    let asked : asked_in (own pass new) ≡ asked_in (own pass old) ++ asks.app s ∷ [] = done_counts asked_after [] needs x pass old new ((op.App request s, reply.App r) ∷ []) done in
    let answers : told_in x.seed (own pass new) ≡ told_in x.seed (own pass old) ++ told r ∷ [] = done_counts (told_after x.seed) [] needs x pass old new ((op.App request s, reply.App r) ∷ []) done in (
      ap (λ a. a.asked) now ∙ (asked ∙ ap (λ a. a.asked ++ asks.app s ∷ []) (sym before)),
      ap (λ a. a.answers) now ∙ (answers ∙ ap (λ a. a.answers ++ told r ∷ []) (sym before)),
      ap (λ a. a.has_session) now ∙ ap (λ a. a.has_session) (sym before),
      ap (λ a. a.left + weight) now ∙ (spends run.left weight (omega (arith, u.2, light)) ∙ ap (λ a. a.left) (sym before)),
      keeps.0,
      keeps.1,
    )

-- a session

pub may_fresh : (x : Opening) (pass : ℕ) (seen : List Entry) (request : ℕ) (tree : List File) → (asking_of x pass seen request tree).has_session ≡ false → 64 + end_weight ≤ (asking_of x pass seen request tree).left
    → May x seen pass (own pass seen) (op.Fresh request)
may_fresh x pass seen request tree none room =
    let u = under_room x pass seen request tree (64 + end_weight) (omega arith) room in (
      u.1.within,
      and_both (has_run (run_of (own pass seen)) request (op_weight (op.Fresh request) + end_weight)) (not (has_session (run_of (own pass seen))))
          (has_run_so (run_of (own pass seen)) u.0 request (op_weight (op.Fresh request) + end_weight) u.1.run_is u.1.request_is u.2) (ap not none),
      tt,
    )

pub fresh_given : {E : Type 0} (needs : Needs) (x : Opening) (pass : ℕ) (old new : List Entry) (request : ℕ) (tree : List File) (result : Result Fresh E) → 64 + end_weight ≤ (asking_of x pass old request tree).left
    → Calls needs x pass old new (op.Fresh request) (of_fresh result) → IsNamed x.seed result → IsGivenSession (asking_of x pass old request tree) (asking_of x pass new request tree) result
fresh_given needs x pass old new request tree (Err e) room call named =
    let u = under_room x pass old request tree (64 + end_weight) (omega arith) room in
    asking_stays needs x pass old new request tree u.0 u.1 (done_stays needs x pass old new call)
fresh_given needs x pass old new request tree (Ok fresh) room call named =
    let u = under_room x pass old request tree (64 + end_weight) (omega arith) room in
    let run = u.0 in
    let done = done_acts needs x pass old new (op.Fresh request) (reply.Made fresh.session) call in
    let next : Run = record { request = run.request; version = run.version; session = Some fresh.session; left = run.left - 64 } in
    let later = under_on needs x pass old new ((op.Fresh request, reply.Made fresh.session) ∷ []) request tree run next u.1 done refl refl refl in
    let before = asking_at x pass old request tree run u.1 in
    let now = asking_at x pass new request tree next later in
    let asked : asked_in (own pass new) ≡ asked_in (own pass old) ++ asks.fresh ∷ [] = done_counts asked_after [] needs x pass old new ((op.Fresh request, reply.Made fresh.session) ∷ []) done in
    let answers : told_in x.seed (own pass new) ≡ told_in x.seed (own pass old) ++ id (Rattle.site_words.specs.Ids.id_of x.seed fresh.session) ∷ [] =
    done_counts (told_after x.seed) [] needs x pass old new ((op.Fresh request, reply.Made fresh.session) ∷ []) done in (
      ap (λ a. a.asked) now ∙ (asked ∙ ap (λ a. a.asked ++ asks.fresh ∷ []) (sym before)),
      ap (λ a. a.answers) now ∙ (answers ∙ (ap (λ t. told_in x.seed (own pass old) ++ id t ∷ []) (sym named) ∙ ap (λ a. a.answers ++ id fresh.id ∷ []) (sym before))),
      ap (λ a. a.has_session) now,
      ap (λ a. a.left + 64) now ∙ (spends run.left 64 (omega (arith, u.2)) ∙ ap (λ a. a.left) (sym before)),
    )

-- a page that was looked for

claim_at : (b : Bool) (n : ℕ) → b ≡ true → (if b then n else 0) ≡ n
claim_at true n e = refl
claim_at false n e = absurd (cc)

steps_at : (b : Bool) (steps : List asks.Step) → b ≡ true → (if b then steps else []) ≡ steps
steps_at true steps e = refl
steps_at false steps e = absurd (cc)

-- what a look at a page's file takes of the promise, and what it asks
pub page_looks : (path : List ℕ) (file : Option File) → IsPageFile path file → (look_claim path file ≡ op_weight (op.Fetch 0 path) + op_weight (op.Offer 0 path)) × (look_steps path file ≡ asks.fetch path ∷ [])
page_looks path None is = absurd is
page_looks path (Some file) is = let c = claim_at (is_page path) (asks.page_charge path) is in (omega (arith, c), steps_at (is_page path) (asks.fetch path ∷ []) is)

pub page_claims : (path : List ℕ) (file : Option File) → IsPageFile path file → page_claim path ≡ op_weight (op.Fetch 0 path) + op_weight (op.Offer 0 path)
page_claims path None is = absurd is
page_claims path (Some file) is = let c = claim_at (is_page path) (asks.page_charge path) is in omega (arith, c)

looked_by : (needs : Needs) (x : Opening) (pass : ℕ) (old new : List Entry) (request : ℕ) (tree : List File) (run next : Run) (path : List ℕ) (calls : List (Op × Reply)) → Under x pass old request tree run → Under x pass new request tree next
    → HasDone needs x pass old new calls → IsPageFile path (file_at path tree) → asked_in (own pass new) ≡ asked_in (own pass old) ++ asks.fetch path ∷ [] → told_in x.seed (own pass new) ≡ told_in x.seed (own pass old) → next.session ≡ run.session
    → run.left ≤ next.left + (op_weight (op.Fetch 0 path) + op_weight (op.Offer 0 path)) → HasLooked (asking_of x pass old request tree) (asking_of x pass new request tree) path (file_at path tree)
looked_by needs x pass old new request tree run next path calls under later done file asked answers session left =
    let before = asking_at x pass old request tree run under in
    let now = asking_at x pass new request tree next later in
    let looks = page_looks path (file_at path tree) file in
    record {
      asked = ap (λ a. a.asked) now ∙ (asked ∙ (ap (λ a. a.asked ++ asks.fetch path ∷ []) (sym before) ∙ ap (λ steps. (asking_of x pass old request tree).asked ++ steps) (sym looks.1)));
      answers = ap (λ a. a.answers) now ∙ (answers ∙ ap (λ a. a.answers) (sym before));
      has_session = ap (λ a. a.has_session) now ∙ (ap (λ s. has_session (Some (record { request = 0; version = 0; session = s; left = 0 }))) session ∙ ap (λ a. a.has_session) (sym before));
      left = let b = ap (λ a. a.left) before in let n = ap (λ a. a.left) now in let l = looks.0 in omega (arith, b, n, l, left);
    }

less : (left a b : ℕ) → a + b ≤ left → left ≤ left - a - b + (a + b)
less left a b h = omega (arith, h)

less_one : (left a b : ℕ) → a + b ≤ left → left ≤ left - a + (a + b)
less_one left a b h = omega (arith, h)

-- by the turn that it was
turn_looks : (needs : Needs) (x : Opening) (pass : ℕ) (old new : List Entry) (request : ℕ) (tree : List File) (run : Run) (path : List ℕ) → Under x pass old request tree run → IsPageFile path (file_at path tree)
    → op_weight (op.Fetch request path) + op_weight (op.Offer request path) + end_weight ≤ run.left → (turn : Rattle.page_answers.specs.Turns.Turn)
    → (turn ≡ hit path) ⊎ (((kept : Bool) × (turn ≡ missed path kept)) ⊎ (turn ≡ unoffered path)) → HasDone needs x pass old new (all_calls request (turn ∷ []))
    → HasLooked (asking_of x pass old request tree) (asking_of x pass new request tree) path (file_at path tree)
turn_looks needs x pass old new request tree run path under file room turn (inl is) done =
    let calls : List (Op × Reply) = (op.Fetch request path, reply.Fetched true) ∷ [] in
    let did : HasDone needs x pass old new calls = subst (λ t. HasDone needs x pass old new (all_calls request (t ∷ []))) is done in
    let next : Run = record { request = run.request; version = run.version; session = run.session; left = run.left - op_weight (op.Fetch request path) } in
    looked_by needs x pass old new request tree run next path calls under (under_on needs x pass old new calls request tree run next under did refl refl refl) did file
    (done_counts asked_after [] needs x pass old new calls did) (done_counts (told_after x.seed) [] needs x pass old new calls did) refl
    (less_one run.left (op_weight (op.Fetch request path)) (op_weight (op.Offer request path)) (omega (arith, room)))
turn_looks needs x pass old new request tree run path under file room turn (inr (inl is)) done =
    let calls : List (Op × Reply) = (op.Fetch request path, reply.Fetched false) ∷ (op.Offer request path, reply.Offered is.0) ∷ [] in
    let did : HasDone needs x pass old new calls = subst (λ t. HasDone needs x pass old new (all_calls request (t ∷ []))) is.1 done in
    let next : Run = record { request = run.request; version = run.version; session = run.session; left = run.left - op_weight (op.Fetch request path) - op_weight (op.Offer request path) } in
    looked_by needs x pass old new request tree run next path calls under (under_on needs x pass old new calls request tree run next under did refl refl refl) did file
    (done_counts asked_after [] needs x pass old new calls did) (done_counts (told_after x.seed) [] needs x pass old new calls did) refl
    (less run.left (op_weight (op.Fetch request path)) (op_weight (op.Offer request path)) (omega (arith, room)))
turn_looks needs x pass old new request tree run path under file room turn (inr (inr is)) done =
    let calls : List (Op × Reply) = (op.Fetch request path, reply.Fetched false) ∷ [] in
    let did : HasDone needs x pass old new calls = subst (λ t. HasDone needs x pass old new (all_calls request (t ∷ []))) is done in
    let next : Run = record { request = run.request; version = run.version; session = run.session; left = run.left - op_weight (op.Fetch request path) } in
    looked_by needs x pass old new request tree run next path calls under (under_on needs x pass old new calls request tree run next under did refl refl refl) did file
    (done_counts asked_after [] needs x pass old new calls did) (done_counts (told_after x.seed) [] needs x pass old new calls did) refl
    (less_one run.left (op_weight (op.Fetch request path)) (op_weight (op.Offer request path)) (omega (arith, room)))

-- a page that was found was looked for
pub found_looked : {A E : Type 0} (needs : Needs) (x : Opening) (pass : ℕ) (old new : List Entry) (before now request : ℕ) (tree : List File) (run : Run) (path : List ℕ) (result : Result A E) → Under x pass old request tree run → IsPageFile path (file_at path tree)
    → op_weight (op.Fetch request path) + op_weight (op.Offer request path) + end_weight ≤ run.left → IsFound needs x pass old new before now request tree path result
    → Looks (asking_of x pass old request tree) (asking_of x pass new request tree) path (file_at path tree) result
found_looked {A = A} {E = E} needs x pass old new before now request tree run path (Ok a) under file room found = go found.finds
  where
    go : Finds path {A = A} {E = E} (Ok a) found.turns → HasLooked (asking_of x pass old request tree) (asking_of x pass new request tree) path (file_at path tree)
    go (inl is) = turn_looks needs x pass old new request tree run path under file room (hit path) (inl refl) (subst (λ t. HasDone needs x pass old new (all_calls request t)) is found.did)
    go (inr is) = turn_looks needs x pass old new request tree run path under file room (missed path is.0) (inr (inl (is.0, refl))) (subst (λ t. HasDone needs x pass old new (all_calls request t)) is.1 found.did)
found_looked {A = A} {E = E} needs x pass old new before now request tree run path (Err e) under file room found = go found.finds
  where
    go : Finds path {A = A} {E = E} (Err e) found.turns
        → HasLooked (asking_of x pass old request tree) (asking_of x pass new request tree) path (file_at path tree) ⊎ (asking_of x pass new request tree ≡ asking_of x pass old request tree)
    go (inl is) = inr (asking_stays needs x pass old new request tree run under (subst (λ t. HasDone needs x pass old new (all_calls request t)) is found.did))
    go (inr is) = inl (turn_looks needs x pass old new request tree run path under file room (unoffered path) (inr (inr refl)) (subst (λ t. HasDone needs x pass old new (all_calls request t)) is found.did))

-- and whatever comes of it then
pub looks_still : {B F : Type 0} (old new : Asking) (path : List ℕ) (file : Option File) (result : Result B F) → HasLooked old new path file → Looks old new path file result
looks_still old new path file (Ok b) looked = looked
looks_still old new path file (Err e) looked = inl looked

pub room_there : (path : List ℕ) (file : Option File) (request left : ℕ) → IsPageFile path file → page_claim path + end_weight ≤ left → op_weight (op.Fetch request path) + op_weight (op.Offer request path) + end_weight ≤ left
room_there path file request left is room = let c = page_claims path file is in omega (arith, c, room)

-- the file that was found is that of a page
pub page_file : (tree : List File) (path : List ℕ) (file : File) → Some file ≡ file_at path tree → true ≡ is_page path → IsPageFile path (file_at path tree)
page_file tree path file there page = subst (IsPageFile path) there (sym page)

-- the request under way has room to find it
pub under_page : (x : Opening) (pass : ℕ) (seen : List Entry) (request : ℕ) (tree : List File) (path : List ℕ) → IsPageFile path (file_at path tree) → page_claim path + end_weight ≤ (asking_of x pass seen request tree).left
    → (run : Run) × Under x pass seen request tree run × (op_weight (op.Fetch request path) + op_weight (op.Offer request path) + end_weight ≤ run.left)
under_page x pass seen request tree path is room =
    let u = under_room x pass seen request tree (page_claim path + end_weight) (omega arith) room in
    (u.0, u.1, room_there path (file_at path tree) request u.0.left is u.2)

-- a file that stands at a path has it
pub file_path : (tree : List File) (path : List ℕ) (file : File) → Some file ≡ file_at path tree → file.path ≡ path
file_path [] path file is = absurd (cc)
file_path (x ∷ rest) path file is = by (bytes_eq x.path path) refl is (file_path rest path file)
  where
    by : (b : Bool) → bytes_eq x.path path ≡ b → Some file ≡ (if b then Some x else file_at path rest) → (Some file ≡ file_at path rest → file.path ≡ path) → file.path ≡ path
    by true same is rest = let here : x ≡ file = cc in subst (λ (f : File). f.path ≡ path) here (same_text x.path path (sym same))
    by false same is rest = rest is
