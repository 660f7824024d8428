-- What a running page has asked of its request, and what it was told, by its pass's own entries since the request's Begin.
use Rattle.std.specs.Prelude.{ℕ, Bool, true, false, List, [], ◌∷◌, ◌++◌, Option, Some, None}
use Rattle.std.specs.List.{fold}
use Rattle.pass_course.specs.Under.{is_under}
use Rattle.site_words.specs.Fits.{has_session}
use Rattle.site_words.specs.Ids.{id_of}
use Rattle.site_words.specs.Law.{Answer, told, id, own, run_of}
use Rattle.site_words.specs.PageSteps as asks
use Rattle.site_words.specs.Running.{Asking}
use Rattle.site_words.specs.declared.words.Entry.{Entry}
use Rattle.site_words.specs.declared.words.Op.{Op}
use Rattle.site_words.specs.declared.words.Op.TheVariants as op
use Rattle.site_words.specs.declared.words.Opening.{Opening}
use Rattle.site_words.specs.declared.words.Reply.{Reply}
use Rattle.site_words.specs.declared.words.Reply.TheVariants as reply
use Rattle.site_words.specs.declared.words.Run.{Run}
use Rattle.source_tree.specs.declared.file.File.{File}

-- the steps that were asked once this entry has come: a Begin begins anew, and an Offer belongs to its Fetch
abbrev pub asked_after : List asks.Step → Op → Reply → List asks.Step
asked_after asked (op.Begin cookie moment) r = []
asked_after asked (op.App request step) r = asked ++ asks.app step ∷ []
asked_after asked (op.Fresh request) r = asked ++ asks.fresh ∷ []
asked_after asked (op.Fetch request path) r = asked ++ asks.fetch path ∷ []
asked_after asked other r = asked

-- the answers to them, of a site with this seed
abbrev pub told_after : (seed : List ℕ) → List Answer → Op → Reply → List Answer
told_after seed answers (op.Begin cookie moment) r = []
told_after seed answers (op.App request step) (reply.App answer) = answers ++ told answer ∷ []
told_after seed answers (op.Fresh request) (reply.Made session) = answers ++ id (id_of seed session) ∷ []
told_after seed answers other r = answers

abbrev pub asked_in : List (ℕ × Entry) → List asks.Step
asked_in entries = fold (λ asked (e : ℕ × Entry). asked_after asked e.1.op e.1.reply) [] entries

abbrev pub told_in : (seed : List ℕ) → List (ℕ × Entry) → List Answer
told_in seed entries = fold (λ answers (e : ℕ × Entry). told_after seed answers e.1.op e.1.reply) [] entries

-- what is left of the promise of a request that is under way
abbrev pub left_if : Bool → Option Run → ℕ
left_if true (Some run) = run.left
left_if true None = 0
left_if false run = 0

-- what is asked of this request; nothing is left of its promise where it isn't under way with this tree
abbrev pub asking_of : Opening → (pass : ℕ) → List Entry → (request : ℕ) → List File → Asking
asking_of x pass seen request tree = record {
  asked = asked_in (own pass seen);
  answers = told_in x.seed (own pass seen);
  has_session = has_session (run_of (own pass seen));
  left = left_if (is_under x pass seen request tree) (run_of (own pass seen));
}
