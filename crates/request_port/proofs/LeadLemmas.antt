-- What a call of the port leads to.
use Rattle.std.proofs.Common.{Global, ◌≡◌, inl, inr, ℕ, true, false, List, [], ◌∷◌, Option, refl, ap, arith}
use Rattle.std.specs.Prelude.{Result, Ok, Err}
use Rattle.std.specs.List.{list_all}
use Rattle.std.specs.declared.sync.Arc.{Arc}
use Rattle.page_answers.proofs.TurnLemmas.{whole_but_last}
use Rattle.page_answers.specs.Turns.{Turn, all_bytes, all_calls, is_whole, made, stepped}
use Rattle.compiled_pages.specs.Pages.{needs_at}
use Rattle.compiled_pages.specs.declared.made.Made.{Made}
use Rattle.pass_course.proofs.CourseLemmas.{done_acts, done_stays}
use Rattle.pass_course.specs.Course.{HasDone}
use Rattle.request_port.specs.Finding.{Finds, IsFound}
use Rattle.request_port.specs.Leading.{IsLast, Leads}
use Rattle.request_port.specs.declared.port.RequestPort.{RequestPort}
use Rattle.site_words.specs.Answers.{IsSamePort, of_app, of_fresh}
use Rattle.site_words.specs.Calls.{Calls}
use Rattle.site_words.specs.declared.port.Fresh.{Fresh}
use Rattle.site_words.specs.declared.words.AppReply.{AppReply}
use Rattle.site_words.specs.declared.words.AppStep.{AppStep}
use Rattle.site_words.specs.declared.words.Entry.{Entry}
use Rattle.site_words.specs.declared.words.Op.TheVariants as op
use Rattle.site_words.specs.declared.words.Opening.{Opening}
use Rattle.site_words.specs.declared.words.Reply.TheVariants as reply

found_whole : {A E : Type 0} (path : List ℕ) (result : Result A E) (a : A) (turns : List Turn) → result ≡ Ok a → Finds path result turns → list_all is_whole turns ≡ true
found_whole path (Ok b) a turns e (inl is) = ap (list_all is_whole) is
found_whole path (Ok b) a turns e (inr is) = ap (list_all is_whole) is.1
found_whole path (Err f) a turns e is = absurd (cc)

module _ {Q L H : Type 0} (pass : Q → ℕ) (opening : Q → Opening) (home : Q → H) (seen : Q → List Entry) where
  -- with this port where it was
  abbrev pub at_port : RequestPort Q L → Q → RequestPort Q L
  at_port w port = record w { port = record w.port { now = port } }

  -- turns that read nothing
  pub leads_by : (w : RequestPort Q L) (port : Q) (turns : List Turn) → IsSamePort (pass w.port.now) (pass port) (opening w.port.now) (opening port) (home w.port.now) (home port)
      → HasDone needs_at (opening w.port.now) (pass w.port.now) (seen w.port.now) (seen port) (all_calls w.request turns) → w.starved ≡ false → list_all is_whole turns ≡ true → all_bytes w.tree.now turns ≡ 0
      → Leads needs_at pass opening home seen w (at_port w port)
  leads_by w port turns same done fed whole none = record {
    port = refl;
    steps = refl;
    same = same;
    request = refl;
    tree = refl;
    turns = turns;
    did = λ legal. done;
    read = omega (arith, none);
    last = λ h. h;
    spent = λ starved. absurd (cc);
    stops = whole_but_last turns whole;
    whole = λ s. (s, whole, omega (arith, none));
  }

  pub leads_app : {E : Type 0} (w : RequestPort Q L) (port : Q) (s : AppStep) (result : Result AppReply E) → IsSamePort (pass w.port.now) (pass port) (opening w.port.now) (opening port) (home w.port.now) (home port)
      → Calls needs_at (opening w.port.now) (pass w.port.now) (seen w.port.now) (seen port) (op.App w.request s) (of_app result) → w.starved ≡ false → Leads needs_at pass opening home seen w (at_port w port)
  leads_app w port s (Ok r) same call fed = leads_by w port (stepped s r ∷ []) same (done_acts needs_at (opening w.port.now) (pass w.port.now) (seen w.port.now) (seen port) (op.App w.request s) (reply.App r) call) fed refl refl
  leads_app w port s (Err e) same call fed = leads_by w port [] same (done_stays needs_at (opening w.port.now) (pass w.port.now) (seen w.port.now) (seen port) call) fed refl refl

  pub leads_fresh : {E : Type 0} (w : RequestPort Q L) (port : Q) (result : Result Fresh E) → IsSamePort (pass w.port.now) (pass port) (opening w.port.now) (opening port) (home w.port.now) (home port)
      → Calls needs_at (opening w.port.now) (pass w.port.now) (seen w.port.now) (seen port) (op.Fresh w.request) (of_fresh result) → w.starved ≡ false → Leads needs_at pass opening home seen w (at_port w port)
  leads_fresh w port (Ok fresh) same call fed = leads_by w port (made fresh.session ∷ []) same (done_acts needs_at (opening w.port.now) (pass w.port.now) (seen w.port.now) (seen port) (op.Fresh w.request) (reply.Made fresh.session) call) fed refl refl
  leads_fresh w port (Err e) same call fed = leads_by w port [] same (done_stays needs_at (opening w.port.now) (pass w.port.now) (seen w.port.now) (seen port) call) fed refl refl

  -- with this port and this count, and what was found last
  abbrev pub at_found : RequestPort Q L → Q → ℕ → Option (List ℕ × Arc Made Global) → RequestPort Q L
  at_found w port steps last = record w { port = record w.port { now = port }; steps = record w.steps { now = steps }; last = last }

  -- a page was found
  pub leads_found : {A E : Type 0} (w : RequestPort Q L) (port : Q) (steps : ℕ) (path : List ℕ) (result : Result A E) (a : A) (last : Option (List ℕ × Arc Made Global)) → result ≡ Ok a
      → IsSamePort (pass w.port.now) (pass port) (opening w.port.now) (opening port) (home w.port.now) (home port)
      → IsFound needs_at (opening w.port.now) (pass w.port.now) (seen w.port.now) (seen port) w.steps.now steps w.request w.tree.now path result → (IsLast w.tree.now w.last → IsLast w.tree.now last) → w.starved ≡ false
      → Leads needs_at pass opening home seen w (at_found w port steps last)
  leads_found w port steps path result a last is same found kept fed = record {
    port = refl;
    steps = refl;
    same = same;
    request = refl;
    tree = refl;
    turns = found.turns;
    did = λ legal. found.did;
    read = found.read;
    last = kept;
    spent = λ starved. absurd (cc);
    stops = whole_but_last found.turns (found_whole path result a found.turns is found.finds);
    whole = λ s. let all = found_whole path result a found.turns is found.finds in (s, all, found.exact all);
  }
