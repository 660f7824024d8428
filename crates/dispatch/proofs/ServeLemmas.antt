-- A request that was begun, by the values that its calls take.
use Rattle.std.proofs.Common.{◌≡◌, ℕ, Bool, false, List, [], Option, refl, sym, subst, arith}
use Rattle.dispatch.specs.Started.{HasBegun, Start, Starves, started}
use Rattle.edges.proofs.Own.{front_none}
use Rattle.edges.specs.Clock.{Moments}
use Rattle.http_in.specs.declared.request.Request.{Request}
use Rattle.http_out.proofs.SentLemmas.{sent_none}
use Rattle.http_out.specs.declared.head.Head.{Head}
use Rattle.out_buffer.specs.Streamed.{HasTaken}
use Rattle.page_answers.specs.Standing.{Standing}
use Rattle.compiled_pages.specs.Pages.{needs_at}
use Rattle.page_meaning.specs.Respond.{FoundSession, beginning}
use Rattle.pass_course.proofs.CourseLemmas.{done_none}
use Rattle.site_words.specs.Law.{Legal}
use Rattle.site_words.specs.declared.words.Entry.{Entry}
use Rattle.site_words.specs.declared.words.Opening.{Opening}
use Rattle.source_tree.specs.declared.file.File.{File}
use Rattle.page_meaning.proofs.Growing.{behind_none}

-- the same of a port that is told to be the same
pub at_same : (F : Opening → ℕ → Type 0) (x y : Opening) (pass other : ℕ) → y ≡ x → other ≡ pass → F y other → F x pass
at_same F x y pass other opening same h = subst (λ x. F x pass) opening (subst (F y) same h)

-- of the tree that a reference shows
pub begun_as : (x : Opening) (pass : ℕ) (old : Standing) (moments : Moments) (request : Request) (close shown : Bool) (number : ℕ) (tree other : List File) (found : Option FoundSession) (begun : List Entry) (steps : ℕ) (taken : Option (List ℕ)) (faults : ℕ)
    → other ≡ tree → HasBegun x pass old moments (started request close shown number tree found begun steps taken faults) → HasBegun x pass old moments (started request close shown number other found begun steps taken faults)
begun_as x pass old moments request close shown number tree other found begun steps taken faults same h = subst (λ tree. HasBegun x pass old moments (started request close shown number tree found begun steps taken faults)) (sym same) h

-- where memory ran out before any page ran
pub begun_starves : (x : Opening) (pass : ℕ) (p : Start) (head : Head) → Legal needs_at x p.begun → Starves x pass p p.begun p.steps head (beginning p.found [])
begun_starves x pass p head legal = record {
  turns = [];
  stops = refl;
  did = done_none needs_at x pass p.begun legal;
  asked = refl;
  ordered = (refl, tt);
  read = omega arith;
  means = λ more. (record { asked = front_none _; order = (_, refl, behind_none [] refl _); pieces = front_none _; session = λ committed. absurd (cc) }, tt);
}

-- nothing was sent yet
pub none_taken : (taken : Option (List ℕ)) (faults : ℕ) → HasTaken taken faults [] false taken faults
none_taken taken faults = record { sent = sent_none taken; later = omega arith; cause = λ is. absurd (cc) }
