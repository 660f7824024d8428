-- The laws of what leads from a request's port to a later one.
use Rattle.std.proofs.Common.{◌≡◌, ℕ, Bool, true, false, List, [], ◌++◌, refl, sym, ap, subst, ◌∙◌, append-nil, arith}
use Rattle.page_answers.proofs.TurnLemmas.{but_last_join, bytes_join, calls_join, whole_join}
use Rattle.page_answers.specs.Turns.{Turn, all_bytes, all_calls, are_whole_but_last}
use Rattle.pass_course.proofs.CourseLemmas.{courses_join, done_none}
use Rattle.pass_course.specs.Course.{HasDone}
use Rattle.request_port.specs.Leading.{Leads}
use Rattle.request_port.specs.declared.port.RequestPort.{RequestPort}
use Rattle.site_words.specs.Law.{Legal}
use Rattle.site_words.specs.Trees.{Needs}
use Rattle.site_words.specs.declared.words.Entry.{Entry}
use Rattle.site_words.specs.declared.words.Opening.{Opening}

-- a course of the same pass and opening
pub same_done : (needs : Needs) (x y : Opening) (pass other : ℕ) (old new : List Entry) (request number : ℕ) (turns : List Turn) → y ≡ x → other ≡ pass → number ≡ request
    → HasDone needs y other old new (all_calls number turns) → HasDone needs x pass old new (all_calls request turns)
same_done needs x y pass other old new request number turns opening same is done =
    subst (λ x. HasDone needs x pass old new (all_calls request turns)) opening
    (subst (λ p. HasDone needs y p old new (all_calls request turns)) same (subst (λ r. HasDone needs y other old new (all_calls r turns)) is done))

pub joined : (needs : Needs) (x : Opening) (pass : ℕ) (old mid new : List Entry) (request : ℕ) (turns more : List Turn) → HasDone needs x pass old mid (all_calls request turns) → HasDone needs x pass mid new (all_calls request more)
    → HasDone needs x pass old new (all_calls request (turns ++ more))
joined needs x pass old mid new request turns more first second =
    subst (HasDone needs x pass old new) (sym (calls_join request turns more)) (courses_join needs x pass old mid new (all_calls request turns) (all_calls request more) first second)

module _ {Q L H : Type 0} {needs : Needs} {pass : Q → ℕ} {opening : Q → Opening} {home : Q → H} {seen : Q → List Entry} where
  pub leads_here : (port : RequestPort Q L) → Leads needs pass opening home seen port port
  leads_here port = record {
    port = refl;
    steps = refl;
    same = (refl, refl, refl);
    request = refl;
    tree = refl;
    turns = [];
    did = λ legal. done_none needs (opening port.port.now) (pass port.port.now) (seen port.port.now) legal;
    read = omega arith;
    last = λ h. h;
    spent = λ starved. refl;
    stops = refl;
    whole = λ s. (s, refl, omega arith);
  }

  -- that memory ran out while a page was found stays so
  still_starved : (first second : RequestPort Q L) → Leads needs pass opening home seen first second → first.starved ≡ true → second.starved ≡ true
  still_starved first second a starved = go second.starved refl
    where
      go : (b : Bool) → second.starved ≡ b → b ≡ true
      go true is = refl
      go false is = absurd (let fed = (a.whole is).0 in cc)

  joined_stops : (first second third : RequestPort Q L) (a : Leads needs pass opening home seen first second) (b : Leads needs pass opening home seen second third) → are_whole_but_last (a.turns ++ b.turns) ≡ true
  joined_stops first second third a b = go second.starved refl
    where
      go : (starved : Bool) → second.starved ≡ starved → are_whole_but_last (a.turns ++ b.turns) ≡ true
      go true is = ap (λ more. are_whole_but_last (a.turns ++ more)) (b.spent is) ∙ (ap are_whole_but_last (append-nil a.turns) ∙ a.stops)
      go false is = but_last_join a.turns b.turns (a.whole is).1 b.stops

  pub leads_on : (first second third : RequestPort Q L) → Leads needs pass opening home seen first second → Leads needs pass opening home seen second third → Leads needs pass opening home seen first third
  leads_on first second third a b =
      let bytes = bytes_join first.tree.now a.turns b.turns in
      let same : all_bytes second.tree.now b.turns ≡ all_bytes first.tree.now b.turns = ap (λ t. all_bytes t b.turns) a.tree in
      record {
        port = b.port ∙ a.port;
        steps = b.steps ∙ a.steps;
        same = (b.same.0 ∙ a.same.0, b.same.1 ∙ a.same.1, b.same.2 ∙ a.same.2);
        request = b.request ∙ a.request;
        tree = b.tree ∙ a.tree;
        turns = a.turns ++ b.turns;
        did = λ legal.
            let done = a.did legal in
            joined needs (opening first.port.now) (pass first.port.now) (seen first.port.now) (seen second.port.now) (seen third.port.now) first.request a.turns b.turns done
            (same_done needs (opening first.port.now) (opening second.port.now) (pass first.port.now) (pass second.port.now) (seen second.port.now) (seen third.port.now) first.request second.request b.turns a.same.1 a.same.0 a.request
            (b.did (subst (λ x. Legal needs x (seen second.port.now)) (sym a.same.1) done.is_legal)));
        read = let r = a.read in let q = b.read in omega (arith, bytes, same, r, q);
        last = λ h. b.last (a.last h);
        spent = λ starved. ap (λ turns. turns ++ b.turns) (a.spent starved) ∙ b.spent (still_starved first second a starved);
        stops = joined_stops first second third a b;
        whole = λ s.
            let w = b.whole s in
            let v = a.whole w.0 in
            (v.0, whole_join a.turns b.turns v.1 w.1, omega (arith, bytes, same, v.2, w.2));
      }
