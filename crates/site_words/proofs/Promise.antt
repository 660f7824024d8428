-- Weight and promises stay within the limit, and a request within its promise.
use Rattle.std.proofs.Common.{◌≡◌, ℕ, zero, suc, ◌+◌, ◌*◌, ◌<◌, ◌≤◌, List, [], ◌∷◌, length, Option, Some, None, refl, sym, ap, subst, ◌∙◌, arith, true, false, set, replicate}
use Rattle.std.specs.Prelude.{Bool, ◌==◌, ◌&&◌, ◌||◌, not, if◌then◌else◌, nat_lt, nat_le}
use Rattle.std.specs.Cmp.Lexicographic.{slice_cmp}
use Rattle.std.specs.List.{fold}
use Rattle.std.specs.Ordering.{nat_cmp, match_ordering}
use Rattle.std.specs.Str.{bytes_eq}
use Rattle.std.specs.declared.cmp.Ordering.{Ordering}
use Rattle.std.specs.declared.cmp.Ordering.TheVariants.{Less, Equal, Greater}
use Rattle.std.proofs.Math.ListN.{length-set, length-replicate}
use Rattle.pg_value.specs.Attrs.{entry_at, with_entry}
use Rattle.pg_value.specs.Datum.{Datum, rec, entries_of}
use Rattle.pg_value.specs.Limits.{is_over, is_too_heavy, is_too_deep}
use Rattle.pg_value.specs.Value.{datum_of}
use Rattle.pg_value.specs.Weight.{weight_of}
use Rattle.pg_value.specs.declared.value.Value.{Value}
use Rattle.pg_value.proofs.Inverses.{datum_of-value_of}
use Rattle.edges.specs.declared.acted.Acted.TheVariants.{Did}
use Rattle.site_words.specs.declared.words.AppStep.{AppStep}
use Rattle.site_words.specs.declared.words.AppStep.TheVariants as step
use Rattle.site_words.specs.declared.words.AppReply.TheVariants as answer
use Rattle.site_words.specs.declared.words.Refusal.TheVariants.{JournalFull}
use Rattle.pg_value.specs.declared.value.Value.TheVariants as variant
use Rattle.site_words.specs.declared.words.Run.{Run}
use Rattle.site_words.specs.declared.words.Entry.{Entry}
use Rattle.site_words.specs.declared.words.Opening.{Opening}
use Rattle.site_words.specs.declared.words.Op.{Op}
use Rattle.site_words.specs.declared.words.Op.TheVariants as op
use Rattle.site_words.specs.declared.words.Refusal.{Refusal}
use Rattle.site_words.specs.declared.words.Reply.{Reply}
use Rattle.site_words.specs.declared.words.Reply.TheVariants as reply
use Rattle.site_words.specs.App.{app_step, app_reply, app_after, ensured, ensure_reply, value_or_null}
use Rattle.site_words.specs.Fits.{asks, fits_step, finds, rests, has_run, has_none, has_session, is_empty, is_null}
use Rattle.site_words.specs.History.{goes_on}
use Rattle.site_words.specs.Law.{Follows, LegalFrom, Legal}
use Rattle.site_words.specs.Opening.{sound_app}
use Rattle.site_words.specs.Runs.{UnderWay, under_at, run_in, run_at, under_after, base_after, tree_in, run_after, promised, spent, begun, freshened}
use Rattle.site_words.specs.State.{State, after, moved, start_of}
use Rattle.site_words.specs.Step.{step as step_of, refusal_of, reply_to, full_of, or_else}
use Rattle.site_words.specs.Trees.{Needs, Each, every}
use Rattle.site_words.specs.Weights.{capped, weight_after, weight_with, op_weight, answer_weight, attrs_weight}
use Rattle.site_words.proofs.Items.{each_filter, each_set, each_at, every_each, and_left, and_right, le_of, lt_of, not_lt}
use Rattle.site_words.proofs.Lasting.{seated_run}
use Rattle.site_words.proofs.Trees.{did_reply}
use Rattle.site_words.specs.Invariants.{IsFit, HasEnd, IsWithin}

-- the application's values

light : (d : Datum) → not (is_over d) ≡ true → weight_of d ≤ 1048576
light d h = go (is_too_heavy d) (is_too_deep d) refl h
  where
    go : (a b : Bool) → nat_lt 1048576 (weight_of d) ≡ a → not (a || b) ≡ true → weight_of d ≤ 1048576
    go true b is h = absurd (cc)
    go false b is h = not_lt 1048576 (weight_of d) is

looked : (name : List ℕ) (app : List (List ℕ × Datum)) → Each IsFit app → answer_weight (answer.Value (value_or_null (entry_at name app))) ≤ 1048576
looked name [] all = omega arith
looked name (e ∷ app) all = go (bytes_eq name e.0) (looked name app all.1)
  where
    go : (b : Bool) → answer_weight (answer.Value (value_or_null (entry_at name app))) ≤ 1048576
        → answer_weight (answer.Value (value_or_null (if b then Some e.1 else entry_at name app))) ≤ 1048576
    go true rest = subst (λ d. weight_of d ≤ 1048576) (sym (datum_of-value_of e.1)) (light e.1 all.0)
    go false rest = rest

ensured_light : (o : Option Datum) → answer_weight (answer.Value (value_or_null o)) ≤ 1048576 → answer_weight (ensure_reply o) ≤ 1048576
ensured_light None h = omega arith
ensured_light (Some d) h = h

-- what a step is told weighs at most 1,048,576
pub app_light : (app : List (List ℕ × Datum)) (s : AppStep) → Each IsFit app → answer_weight (app_reply app s) ≤ 1048576
app_light app (step.Get name) all = looked name app all
app_light app (step.Set name value) all = omega arith
app_light app (step.Remove name) all = omega arith
app_light app (step.Ensure name value) all = ensured_light (entry_at name app) (looked name app all)
app_light app step.All all = go (is_over (rec (entries_of app))) refl
  where
    go : (b : Bool) → is_over (rec (entries_of app)) ≡ b
        → answer_weight (if b then answer.Large (capped (weight_of (rec (entries_of app)))) else answer.Value (variant.Rec app)) ≤ 1048576
    go true is = omega arith
    go false is = light (rec (entries_of app)) (ap not is)

inserted : (name : List ℕ) (d : Datum) (app : List (List ℕ × Datum)) → not (is_over d) ≡ true → Each IsFit app → Each IsFit (with_entry app name d)
inserted name d [] h all = (h, tt)
inserted name d (e ∷ app) h all = go (slice_cmp nat_cmp name e.0) (inserted name d app h all.1)
  where
    go : (o : Ordering) → Each IsFit (with_entry app name d) → Each IsFit (match_ordering o ((name, d) ∷ e ∷ app) ((e.0, d) ∷ app) (e ∷ with_entry app name d))
    go Less rest = (h, all)
    go Equal rest = (h, all.1)
    go Greater rest = (all.0, rest)

ensured_fit : (o : Option Datum) (name : List ℕ) (value : Value) (app : List (List ℕ × Datum)) → not (is_over (datum_of value)) ≡ true → Each IsFit app → Each IsFit (ensured o name value app)
ensured_fit None name value app h all = inserted name (datum_of value) app h all
ensured_fit (Some d) name value app h all = all

app_kept : (app : List (List ℕ × Datum)) (s : AppStep) → fits_step s ≡ true → Each IsFit app → Each IsFit (app_step app s)
app_kept app (step.Get name) fit all = all
app_kept app (step.Set name value) fit all = inserted name (datum_of value) app (and_right (not (is_null value)) (not (is_over (datum_of value))) fit) all
app_kept app (step.Remove name) fit all = each_filter IsFit (λ e. not (bytes_eq name e.0)) app all
app_kept app (step.Ensure name value) fit all = ensured_fit (entry_at name app) name value app fit all
app_kept app step.All fit all = all

-- promises

abbrev pub left_in : Option Run → ℕ
left_in None = 0
left_in (Some run) = run.left

pub promised_set : (runs : List (Option UnderWay)) (k : ℕ) (u : Option UnderWay) → k < length runs → promised (set runs k u) + left_in (run_in (under_at runs k)) ≡ promised runs + left_in (run_in u)
promised_set [] k u h = let bad : ⊥ = omega arith in absurd bad
promised_set (None ∷ runs) zero None h = refl
promised_set (None ∷ runs) zero (Some u) h = omega arith
promised_set (Some v ∷ runs) zero None h = omega arith
promised_set (Some v ∷ runs) zero (Some u) h = omega arith
promised_set (None ∷ runs) (suc k) u h = let h' : k < length runs = omega arith in promised_set runs k u h'
promised_set (Some v ∷ runs) (suc k) u h = let h' : k < length runs = omega arith in let rest = promised_set runs k u h' in omega arith

-- what an operation does to the weight and to the promise of its pass, the others' promises being rest
pub record Pays (limit rest weight : ℕ) (run : Option Run) : Type 0 where
  pub total : weight + (rest + left_in run) ≤ limit
  pub end : HasEnd run

spent_pays : (limit w rest : ℕ) (run : Option Run) (request claim weight : ℕ) → has_run run request claim ≡ true → weight + 65600 ≤ claim → Pays limit rest w run → Pays limit rest (w + weight) (spent weight run)
spent_pays limit w rest None request claim weight has enough pays = absurd (cc)
spent_pays limit w rest (Some run) request claim weight has enough pays =
    let left = le_of claim run.left (and_right (run.request == request) (nat_le claim run.left) has) in
    let total = pays.total in
    record { total = omega arith; end = omega arith }

fresh_pays : (limit w rest : ℕ) (run : Option Run) (request session : ℕ) → has_run run request (64 + 65600) ≡ true → Pays limit rest w run → Pays limit rest (w + (64 + 0)) (freshened run (reply.Made session))
fresh_pays limit w rest None request session has pays = absurd (cc)
fresh_pays limit w rest (Some run) request session has pays =
    let left = le_of (64 + 65600) run.left (and_right (run.request == request) (nat_le (64 + 65600) run.left) has) in
    let total = pays.total in
    record { total = omega arith; end = omega arith }

end_pays : (limit w rest : ℕ) (run : Option Run) (request weight : ℕ) → has_run run request 0 ≡ true → weight ≤ 65600 → Pays limit rest w run → Pays limit rest (w + weight) None
end_pays limit w rest None request weight has enough pays = absurd (cc)
end_pays limit w rest (Some run) request weight has enough pays =
    let left = pays.end in
    let total = pays.total in
    record { total = omega arith; end = tt }

begin_pays : (limit w rest : ℕ) (run : Option Run) (weight request version : ℕ) (session : Option ℕ) → has_none run ≡ true → weight ≤ 128 → w + (rest + left_in run) + 4325376 ≤ limit
    → Pays limit rest (w + (weight + 0)) (begun weight run (reply.Begun request version session))
begin_pays limit w rest None weight request version session none small room = record { total = omega arith; end = omega arith }
begin_pays limit w rest (Some run) weight request version session none small room = absurd (cc)

same_pays : (limit w rest : ℕ) (run : Option Run) (weight : ℕ) → w + (rest + left_in run) + weight ≤ limit → Pays limit rest w run → Pays limit rest (w + weight) run
same_pays limit w rest run weight room pays = record { total = omega arith; end = pays.end }

room_of : (limit w p claim : ℕ) → full_of limit w p claim ≡ None → w + p + claim ≤ limit
room_of limit w p claim h = go (nat_lt limit (w + p + claim)) refl h
  where
    go : (b : Bool) → nat_lt limit (w + p + claim) ≡ b → (if b then Some (JournalFull w p) else None) ≡ None → w + p + claim ≤ limit
    go true is h = absurd (cc)
    go false is h = not_lt limit (w + p + claim) is

or_none : (a b : Option Refusal) → or_else a b ≡ None → b ≡ None
or_none None b h = h
or_none (Some r) b h = absurd (cc)

rolled_pays : (limit w rest : ℕ) (run : Option Run) → Pays limit rest w run → Pays limit rest 0 run
rolled_pays limit w rest run pays = let total = pays.total in record { total = omega arith; end = pays.end }

-- one operation that was done
pub step_pays : (needs : Needs) (x : Opening) (s : State) (pass rest : ℕ) (o : Op) (r : Reply) → Each IsFit s.app → promised s.runs ≡ rest + left_in (run_at s.runs pass)
    → Pays x.limit rest s.weight (run_at s.runs pass) → asks (run_at s.runs pass) o ≡ true → step_of needs x s pass o ≡ Did r → Pays x.limit rest (weight_after s.weight o r) (run_after (run_at s.runs pass) o r)
step_pays needs x s pass rest o r app sum pays ask did =
    let both = did_reply (refusal_of needs x s pass o) (reply_to needs x s pass o) r did in
    subst (λ r. Pays x.limit rest (weight_after s.weight o r) (run_after (run_at s.runs pass) o r)) both.0 (go o ask both.1)
  where
    room : (claim : ℕ) → full_of x.limit s.weight (promised s.runs) claim ≡ None → s.weight + (rest + left_in (run_at s.runs pass)) + claim ≤ x.limit
    room claim h = subst (λ p. s.weight + p + claim ≤ x.limit) sum (room_of x.limit s.weight (promised s.runs) claim h)

    go : (o : Op) → asks (run_at s.runs pass) o ≡ true → refusal_of needs x s pass o ≡ None → Pays x.limit rest (weight_after s.weight o (reply_to needs x s pass o)) (run_after (run_at s.runs pass) o (reply_to needs x s pass o))
    go (op.Publish base edits) ask none =
        same_pays x.limit s.weight rest (run_at s.runs pass) (weight_with (op.Publish base edits) (reply_to needs x s pass (op.Publish base edits)))
        (room (weight_with (op.Publish base edits) (reply_to needs x s pass (op.Publish base edits))) (or_none _ _ (or_none _ _ none))) pays
    go (op.Begin cookie moment) ask none =
        let short = le_of (length cookie) 48 (and_right (has_none (run_at s.runs pass)) (nat_le (length cookie) 48) ask) in
        begin_pays x.limit s.weight rest (run_at s.runs pass) (op_weight (op.Begin cookie moment)) _ _ _ (and_left (has_none (run_at s.runs pass)) (nat_le (length cookie) 48) ask) (omega arith)
        (room 4325376 (or_none _ _ none))
    go (op.App request st) ask none =
        let told = app_light s.app st app in
        spent_pays x.limit s.weight rest (run_at s.runs pass) request (op_weight (op.App request st) + 1048576 + 65600) (weight_with (op.App request st) (reply.App (app_reply s.app st)))
        (and_left (has_run (run_at s.runs pass) request (op_weight (op.App request st) + 1048576 + 65600)) (fits_step st) ask) (omega arith) pays
    go (op.Fresh request) ask none =
        fresh_pays x.limit s.weight rest (run_at s.runs pass) request s.freshes (and_left (has_run (run_at s.runs pass) request (64 + 65600)) (not (has_session (run_at s.runs pass))) ask) pays
    go (op.Fetch request path) ask none =
        let more : s.weight + (op_weight (op.Fetch request path) + 0) ≡ s.weight + op_weight (op.Fetch request path) = omega arith in
        subst (λ n. Pays x.limit rest n (spent (op_weight (op.Fetch request path)) (run_at s.runs pass))) (sym more)
        (spent_pays x.limit s.weight rest (run_at s.runs pass) request (op_weight (op.Fetch request path) + 65600) (op_weight (op.Fetch request path)) ask (omega arith) pays)
    go (op.Offer request path) ask none =
        let more : s.weight + (op_weight (op.Offer request path) + 0) ≡ s.weight + op_weight (op.Offer request path) = omega arith in
        subst (λ n. Pays x.limit rest n (spent (op_weight (op.Offer request path)) (run_at s.runs pass))) (sym more)
        (spent_pays x.limit s.weight rest (run_at s.runs pass) request (op_weight (op.Offer request path) + 65600) (op_weight (op.Offer request path)) ask (omega arith) pays)
    go (op.End request attrs) ask none =
        let small = le_of (attrs_weight attrs) 65536 (and_left (nat_le (attrs_weight attrs) 65536) (has_session (run_at s.runs pass) || is_empty attrs) (and_right (has_run (run_at s.runs pass) request 0) (nat_le (attrs_weight attrs) 65536 && (has_session (run_at s.runs pass) || is_empty attrs)) ask)) in
        end_pays x.limit s.weight rest (run_at s.runs pass) request (weight_with (op.End request attrs) reply.Ended)
        (and_left (has_run (run_at s.runs pass) request 0) (nat_le (attrs_weight attrs) 65536 && (has_session (run_at s.runs pass) || is_empty attrs)) ask) (omega arith) pays
    go (op.Abandon request) ask none = end_pays x.limit s.weight rest (run_at s.runs pass) request (64 + 0) ask (omega arith) pays
    go (op.Snapshot cookie) ask none =
        let more : s.weight + (op_weight (op.Snapshot cookie) + 0) ≡ s.weight + op_weight (op.Snapshot cookie) = omega arith in
        subst (λ n. Pays x.limit rest n (run_at s.runs pass)) (sym more) (same_pays x.limit s.weight rest (run_at s.runs pass) (op_weight (op.Snapshot cookie)) (room (op_weight (op.Snapshot cookie)) none) pays)
    go op.Roll ask none = rolled_pays x.limit s.weight rest (run_at s.runs pass) pays

app_after_kept : (app : List (List ℕ × Datum)) (run : Option Run) (o : Op) → asks run o ≡ true → Each IsFit app → Each IsFit (app_after app o)
app_after_kept app run (op.App request st) ask all = app_kept app st (and_right (has_run run request (op_weight (op.App request st) + 1048576 + 65600)) (fits_step st) ask) all
app_after_kept app run other ask all = all

pub step_within : (needs : Needs) (x : Opening) (s : State) (e : Entry) → IsWithin x s → Follows needs x s e → IsWithin x (moved needs x s e)
step_within needs x s e within follows =
    let more = and_right (nat_lt e.pass x.passes) (asks (run_at s.runs e.pass) e.op && (finds (under_at s.runs e.pass) e.op && rests s.runs e.op)) follows.fit in
    let ask : asks (run_at s.runs e.pass) e.op ≡ true = and_left (asks (run_at s.runs e.pass) e.op) (finds (under_at s.runs e.pass) e.op && rests s.runs e.op) more in
    let below = lt_of e.pass x.passes (and_left (nat_lt e.pass x.passes) (asks (run_at s.runs e.pass) e.op && (finds (under_at s.runs e.pass) e.op && rests s.runs e.op)) follows.fit) in
    let len = within.len in
    let at : e.pass < length s.runs = omega arith in
    let new : Option UnderWay = under_after s.tree (under_at s.runs e.pass) e.op e.reply in
    let rest : ℕ = promised (set s.runs e.pass None) in
    let sum : rest + left_in (run_at s.runs e.pass) ≡ promised s.runs + 0 = promised_set s.runs e.pass None at in
    let sum' : promised s.runs ≡ rest + left_in (run_at s.runs e.pass) = omega arith in
    let now : promised (set s.runs e.pass new) + left_in (run_at s.runs e.pass) ≡ promised s.runs + left_in (run_in new) = promised_set s.runs e.pass new at in
    let run_is : run_in new ≡ run_after (run_at s.runs e.pass) e.op e.reply = seated_run (run_after (run_at s.runs e.pass) e.op e.reply) (base_after s.tree (tree_in (under_at s.runs e.pass)) e.op) in
    let was_end : HasEnd (run_at s.runs e.pass) = each_at (λ (u : Option UnderWay). HasEnd (run_in u)) s.runs e.pass None tt within.ends in
    let was = within.total in
    let pays : Pays x.limit rest s.weight (run_at s.runs e.pass) = record { total = omega arith; end = was_end } in
    let paid = step_pays needs x s e.pass rest e.op e.reply within.app sum' pays ask follows.did in
    let paid' : Pays x.limit rest (weight_after s.weight e.op e.reply) (run_in new) = subst (λ run. Pays x.limit rest (weight_after s.weight e.op e.reply) run) (sym run_is) paid in
    let total = paid'.total in
    record {
      total = omega arith;
      ends = each_set (λ (u : Option UnderWay). HasEnd (run_in u)) s.runs e.pass new paid'.end within.ends;
      app = app_after_kept s.app (run_at s.runs e.pass) e.op ask within.app;
      len = length-set s.runs e.pass new ∙ within.len;
    }

fold_within : (needs : Needs) (x : Opening) (s : State) (entries : List Entry) → IsWithin x s → LegalFrom needs x s entries → IsWithin x (fold (moved needs x) s entries)
fold_within needs x s [] within legal = within
fold_within needs x s (e ∷ entries) within legal = fold_within needs x (moved needs x s e) entries (step_within needs x s e within legal.0) legal.1

no_promise : (n : ℕ) → promised (replicate n None) ≡ 0
no_promise zero = refl
no_promise (suc n) = no_promise n

no_ends : (n : ℕ) → Each (λ (u : Option UnderWay). HasEnd (run_in u)) (replicate n None)
no_ends zero = tt
no_ends (suc n) = (tt, no_ends n)

-- weight and promises never exceed the limit, and each request has its end's weight left
pub within : (needs : Needs) (x : Opening) (history : List Entry) → sound_app x ≡ true → Legal needs x history → IsWithin x (after needs x history)
within needs x history sound legal =
    let none : promised (replicate x.passes None) ≡ 0 = no_promise x.passes in
    fold_within needs x (start_of x) history
    (record { total = omega arith; ends = no_ends x.passes; app = every_each (λ (e : List ℕ × Datum). not (is_over e.1)) x.app sound; len = length-replicate x.passes None }) legal

-- without a Roll each entry weighs at least 64

heavy_one : (w : ℕ) (o : Op) (r : Reply) → goes_on o ≡ true → w + 64 ≤ weight_after w o r
heavy_one w (op.Publish base edits) r on = omega arith
heavy_one w (op.Begin cookie moment) r on = omega arith
heavy_one w (op.App request step) r on = omega arith
heavy_one w (op.Fresh request) r on = omega arith
heavy_one w (op.Fetch request path) r on = omega arith
heavy_one w (op.Offer request path) r on = omega arith
heavy_one w (op.End request attrs) r on = omega arith
heavy_one w (op.Abandon request) r on = omega arith
heavy_one w (op.Snapshot cookie) r on = omega arith
heavy_one w op.Roll r on = absurd (cc)

pub heavy : (needs : Needs) (x : Opening) (s : State) (entries : List Entry) → every (λ (e : Entry). goes_on e.op) entries ≡ true → s.weight + 64 * length entries ≤ (fold (moved needs x) s entries).weight
heavy needs x s [] on = omega arith
heavy needs x s (e ∷ entries) on =
    let one = heavy_one s.weight e.op e.reply (and_left (goes_on e.op) (every (λ (e : Entry). goes_on e.op) entries) on) in
    let rest = heavy needs x (moved needs x s e) entries (and_right (goes_on e.op) (every (λ (e : Entry). goes_on e.op) entries) on) in
    omega arith
