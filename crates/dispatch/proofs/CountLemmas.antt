-- What the turns of a request make of what was asked and told, and of the request under way.
use Rattle.std.proofs.Common.{◌≡◌, ℕ, ◌-◌, List, [], ◌∷◌, ◌++◌, Some, refl, sym, ap, ◌∙◌, append_assoc, append-nil}
use Rattle.page_answers.specs.Turns.{Turn, all_calls, answer_of, answers_of, calls_of, hit, made, missed, step_of, stepped, steps_of, unoffered}
use Rattle.pass_course.proofs.CourseLemmas.{counted_on, done_counts}
use Rattle.pass_course.proofs.UnderLemmas.{under_on}
use Rattle.pass_course.specs.Course.{HasDone}
use Rattle.pass_course.specs.Under.{Under}
use Rattle.request_pages.specs.Asked.{asked_after, asked_in, told_after, told_in}
use Rattle.site_words.proofs.Items.{fold-both}
use Rattle.site_words.specs.Law.{Answer, own}
use Rattle.site_words.specs.PageSteps as asks
use Rattle.site_words.specs.Runs.{run_after}
use Rattle.site_words.specs.Trees.{Needs}
use Rattle.site_words.specs.Weights.{op_weight, weight_with}
use Rattle.site_words.specs.declared.words.Entry.{Entry}
use Rattle.site_words.specs.declared.words.Op.{Op}
use Rattle.site_words.specs.declared.words.Op.TheVariants as op
use Rattle.site_words.specs.declared.words.Opening.{Opening}
use Rattle.site_words.specs.declared.words.Reply.{Reply}
use Rattle.site_words.specs.declared.words.Reply.TheVariants as reply
use Rattle.site_words.specs.declared.words.Run.{Run}
use Rattle.source_tree.specs.declared.file.File.{File}

-- the steps that were asked

step_counted : (request : ℕ) (asked : List asks.Step) (turn : Turn) → counted_on asked_after asked (calls_of request turn) ≡ asked ++ step_of turn ∷ []
step_counted request asked (stepped step r) = refl
step_counted request asked (made session) = refl
step_counted request asked (hit path) = refl
step_counted request asked (missed path kept) = refl
step_counted request asked (unoffered path) = refl

steps_counted : (request : ℕ) (asked : List asks.Step) (turns : List Turn) → counted_on asked_after asked (all_calls request turns) ≡ asked ++ steps_of turns
steps_counted request asked [] = sym (append-nil asked)
steps_counted request asked (turn ∷ turns) =
    fold-both (λ b (c : Op × Reply). asked_after b c.0 c.1) asked (calls_of request turn) (all_calls request turns)
    ∙ (ap (λ a. counted_on asked_after a (all_calls request turns)) (step_counted request asked turn)
    ∙ (steps_counted request (asked ++ step_of turn ∷ []) turns ∙ append_assoc asked (step_of turn ∷ []) (steps_of turns)))

-- the answers to them

answer_counted : (seed : List ℕ) (request : ℕ) (told : List Answer) (turn : Turn) → counted_on (told_after seed) told (calls_of request turn) ≡ told ++ answer_of seed turn
answer_counted seed request told (stepped step r) = refl
answer_counted seed request told (made session) = refl
answer_counted seed request told (hit path) = sym (append-nil told)
answer_counted seed request told (missed path kept) = sym (append-nil told)
answer_counted seed request told (unoffered path) = sym (append-nil told)

answers_counted : (seed : List ℕ) (request : ℕ) (told : List Answer) (turns : List Turn) → counted_on (told_after seed) told (all_calls request turns) ≡ told ++ answers_of seed turns
answers_counted seed request told [] = sym (append-nil told)
answers_counted seed request told (turn ∷ turns) =
    fold-both (λ b (c : Op × Reply). told_after seed b c.0 c.1) told (calls_of request turn) (all_calls request turns)
    ∙ (ap (λ a. counted_on (told_after seed) a (all_calls request turns)) (answer_counted seed request told turn)
    ∙ (answers_counted seed request (told ++ answer_of seed turn) turns ∙ append_assoc told (answer_of seed turn) (answers_of seed turns)))

-- the request goes on under the same number and version
pub record GoesOn (run : Run) (calls : List (Op × Reply)) : Type 0 where
  pub next : Run
  pub counted : counted_on run_after (Some run) calls ≡ Some next
  pub request : next.request ≡ run.request
  pub version : next.version ≡ run.version

abbrev lighter : ℕ → Run → Run
lighter weight run = record { request = run.request; version = run.version; session = run.session; left = run.left - weight }

run_counted : (request : ℕ) (run : Run) (turn : Turn) → GoesOn run (calls_of request turn)
run_counted request run (stepped step r) = record { next = lighter (weight_with (op.App request step) (reply.App r)) run; counted = refl; request = refl; version = refl }
run_counted request run (made session) = record { next = record { request = run.request; version = run.version; session = Some session; left = run.left - 64 }; counted = refl; request = refl; version = refl }
run_counted request run (hit path) = record { next = lighter (op_weight (op.Fetch request path)) run; counted = refl; request = refl; version = refl }
run_counted request run (missed path kept) = record { next = lighter (op_weight (op.Offer request path)) (lighter (op_weight (op.Fetch request path)) run); counted = refl; request = refl; version = refl }
run_counted request run (unoffered path) = record { next = lighter (op_weight (op.Fetch request path)) run; counted = refl; request = refl; version = refl }

runs_counted : (request : ℕ) (run : Run) (turns : List Turn) → GoesOn run (all_calls request turns)
runs_counted request run [] = record { next = run; counted = refl; request = refl; version = refl }
runs_counted request run (turn ∷ turns) =
    let one = run_counted request run turn in
    let rest = runs_counted request one.next turns in
    record {
      next = rest.next;
      counted = fold-both (λ b (c : Op × Reply). run_after b c.0 c.1) (Some run) (calls_of request turn) (all_calls request turns) ∙ (ap (λ r. counted_on run_after r (all_calls request turns)) one.counted ∙ rest.counted);
      request = rest.request ∙ one.request;
      version = rest.version ∙ one.version;
    }

module _ (needs : Needs) (x : Opening) (pass : ℕ) (old new : List Entry) (request : ℕ) (turns : List Turn) (done : HasDone needs x pass old new (all_calls request turns)) where
  pub turns_asked : asked_in (own pass new) ≡ asked_in (own pass old) ++ steps_of turns
  turns_asked = done_counts asked_after [] needs x pass old new (all_calls request turns) done ∙ steps_counted request (asked_in (own pass old)) turns

  pub turns_told : told_in x.seed (own pass new) ≡ told_in x.seed (own pass old) ++ answers_of x.seed turns
  turns_told = done_counts (told_after x.seed) [] needs x pass old new (all_calls request turns) done ∙ answers_counted x.seed request (told_in x.seed (own pass old)) turns

  pub turns_under : (tree : List File) (run : Run) → Under x pass old request tree run → (next : Run) × Under x pass new request tree next
  turns_under tree run under =
      let on = runs_counted request run turns in
      (on.next, under_on needs x pass old new (all_calls request turns) request tree run on.next under done on.counted on.request on.version)
