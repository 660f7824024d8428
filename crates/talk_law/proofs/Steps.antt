-- A run that has asked steps and got answers: how many there are, and which comes next.
use Rattle.std.proofs.Common.{◌≡◌, ◌<◌, ◌≤◌, ℕ, ◌+◌, Bool, true, false, List, [], ◌∷◌, ◌++◌, length, refl, sym, ap, subst, ◌∙◌, arith, append_assoc, append-nil}
use Rattle.std.proofs.lemmas.List.{append_cancel_left, length-append, length_push}
use Rattle.http_out.specs.Response.{Response}
use Rattle.page_answers.proofs.TurnLemmas.{answers_join, steps_join}
use Rattle.page_answers.specs.Turns.{Turn, answers_of, hit, made, missed, step_of, stepped, steps_of, unoffered}
use Rattle.page_meaning.specs.Growth.{Grows, takes_answer, with_more}
use Rattle.page_meaning.specs.Laws.{RequestAsksOn, RequestGoesOn}
use Rattle.page_meaning.specs.Response.{Answered, awaits, end_state, responds}
use Rattle.page_meaning.specs.State.{State, with_asked}
use Rattle.edges.specs.History.{IsFront}
use Rattle.site_words.specs.Law.{Answer}
use Rattle.site_words.specs.PageSteps.{Step}

-- how many of these steps have an answer

abbrev one_if : Bool → ℕ
one_if true = 1
one_if false = 0

abbrev pub answered : List Step → ℕ
answered [] = 0
answered (step ∷ steps) = one_if (takes_answer step) + answered steps

answered_join : (a b : List Step) → answered (a ++ b) ≡ answered a + answered b
answered_join [] b = omega arith
answered_join (step ∷ a) b = let rest = answered_join a b in omega (arith, rest)

answers_counted : (seed : List ℕ) (turns : List Turn) → length (answers_of seed turns) ≡ answered (steps_of turns)
answers_counted seed [] = refl
answers_counted seed (stepped step r ∷ turns) = let rest = answers_counted seed turns in omega (arith, rest)
answers_counted seed (made session ∷ turns) = let rest = answers_counted seed turns in omega (arith, rest)
answers_counted seed (hit path ∷ turns) = let rest = answers_counted seed turns in omega (arith, rest)
answers_counted seed (missed path kept ∷ turns) = let rest = answers_counted seed turns in omega (arith, rest)
answers_counted seed (unoffered path ∷ turns) = let rest = answers_counted seed turns in omega (arith, rest)

-- of two fronts of one list that with more answered steps is longer
longer : (p q m r : List Step) → p ++ m ≡ q ++ r → answered q < answered p → length q < length p
longer [] q m r e more = absurd (omega (arith, more))
longer (a ∷ p) [] m r e more = omega arith
longer (a ∷ p) (b ∷ q) m r e more =
    let same : a ≡ b = cc in
    let rest : p ++ m ≡ q ++ r = cc in
    let fewer : answered q < answered p = omega (arith, more, ap (λ s. one_if (takes_answer s)) same) in
    let l = longer p q m r rest fewer in
    omega (arith, l)

-- what stands in a common front is the same
same_there : (p q m n r s : List Step) (a b : Step) → p ++ m ≡ q ++ a ∷ r → p ++ n ≡ q ++ b ∷ s → length q < length p → a ≡ b
same_there [] q m n r s a b one two within = absurd (omega (arith, within))
same_there (c ∷ p) [] m n r s a b one two within = cc
same_there (c ∷ p) (d ∷ q) m n r s a b one two within =
    let first : p ++ m ≡ q ++ a ∷ r = cc in
    let second : p ++ n ≡ q ++ b ∷ s = cc in
    same_there p q m n r s a b first second (omega (arith, within))

-- the run ended whole under the answers of these turns, having asked their steps
pub record Ends (resp : List Answer → Answered) (seed : List ℕ) (turns : List Turn) : Type 0 where
  pub response : Response
  pub end : State
  pub means : resp (answers_of seed turns) ≡ responds response end
  pub asked : end.asked ≡ steps_of turns
  pub used : end.answers ≡ []

module _ (resp : List Answer → Answered) (goes : (answers more : List Answer) → RequestGoesOn more (resp answers) (resp (answers ++ more))) where
  -- a run waits for no step but one that has an answer
  waits_for : (answers : List Answer) (step : Step) (s : State) → resp answers ≡ awaits step s → takes_answer step ≡ true
  waits_for answers step s is = let on = subst (λ a. RequestGoesOn [] a (resp (answers ++ []))) is (goes answers []) in on.2

  -- where the run waits, it has asked a step for each answer
  abbrev AsksEnough : List Answer → Type 0
  AsksEnough answers = (step : Step) (s : State) → resp answers ≡ awaits step s → length answers ≤ answered s.asked

  enough_none : AsksEnough []
  enough_none step s waits = omega arith

  enough_push : (answers : List Answer) (a : Answer) → AsksEnough answers → AsksEnough (answers ++ a ∷ [])
  enough_push answers a enough step s waits = go (resp answers) refl (goes answers (a ∷ []))
    where
      go : (x : Answered) → resp answers ≡ x → RequestGoesOn (a ∷ []) x (resp (answers ++ a ∷ [])) → length (answers ++ a ∷ []) ≤ answered s.asked
      go (responds response t) is on = let off : responds response (with_more (a ∷ []) t) ≡ awaits step s = sym on ∙ waits in absurd (cc)
      go (awaits other t) is on =
          let grows = subst (λ y. Grows (with_asked other t) (end_state y)) waits on.1 in
          let count : answered s.asked ≡ answered (t.asked ++ other ∷ []) + answered grows.asked.0 = ap answered grows.asked.1 ∙ answered_join (t.asked ++ other ∷ []) grows.asked.0 in
          let last = answered_join t.asked (other ∷ []) in
          let takes : one_if (takes_answer other) ≡ 1 = ap one_if (waits_for answers other t is) in
          let before = enough other t is in
          let long = length_push answers a in
          omega (arith, count, last, takes, before, long)

  enough_all : (answers rest : List Answer) → AsksEnough answers → AsksEnough (answers ++ rest)
  enough_all answers [] enough = subst AsksEnough (sym (append-nil answers)) enough
  enough_all answers (a ∷ rest) enough = subst AsksEnough (append_assoc answers (a ∷ []) rest) (enough_all (answers ++ a ∷ []) rest (enough_push answers a enough))

  asks_enough : (answers : List Answer) → AsksEnough answers
  asks_enough answers = enough_all [] answers enough_none

  -- a run that waits for a step asks it next, whatever it is answered
  asked_next : (step : Step) (s : State) (more : List Answer) (x : Answered) (response : Response) (end : State) → x ≡ responds response end → RequestAsksOn step s more x → IsFront (s.asked ++ step ∷ []) end.asked
  asked_next step s [] x response end is on = let off : responds response end ≡ awaits step (with_more [] s) = sym is ∙ on in absurd (cc)
  asked_next step s (a ∷ more) x response end is on = let grows = subst (λ y. Grows (with_asked step s) (end_state y)) is on in grows.asked

  module _ (seed : List ℕ) where
    goes_turns : (c t : List Turn) → RequestGoesOn (answers_of seed t) (resp (answers_of seed c)) (resp (answers_of seed (c ++ t)))
    goes_turns c t = subst (λ all. RequestGoesOn (answers_of seed t) (resp (answers_of seed c)) (resp all)) (sym (answers_join seed c t)) (goes (answers_of seed c) (answers_of seed t))

    -- a run that ended under the answers so far asks nothing more under more
    whole_end : (c t : List Turn) (response : Response) (e : State) → resp (answers_of seed c) ≡ responds response e → (ends : Ends resp seed (c ++ t)) → steps_of (c ++ t) ≡ e.asked
    whole_end c t response e is ends =
        let on = subst (λ y. RequestGoesOn (answers_of seed t) y (resp (answers_of seed (c ++ t)))) is (goes_turns c t) in
        let same : responds ends.response ends.end ≡ responds response (with_more (answers_of seed t) e) = sym ends.means ∙ on in
        sym ends.asked ∙ ap (λ y. (end_state y).asked) same

    -- the step behind these turns is the same in both runs
    pub next_step : (c t u : List Turn) (v w : Turn) → Ends resp seed (c ++ v ∷ t) → Ends resp seed (c ++ w ∷ u) → step_of v ≡ step_of w
    next_step c t u v w a b = go (resp (answers_of seed c)) refl
      where
        go : (x : Answered) → resp (answers_of seed c) ≡ x → step_of v ≡ step_of w
        go (responds response e) is =
            let same : steps_of c ++ steps_of (v ∷ t) ≡ steps_of c ++ steps_of (w ∷ u)
            = sym (steps_join c (v ∷ t)) ∙ whole_end c (v ∷ t) response e is a ∙ sym (whole_end c (w ∷ u) response e is b) ∙ steps_join c (w ∷ u) in
            let rest : step_of v ∷ steps_of t ≡ step_of w ∷ steps_of u = append_cancel_left (steps_of c) (steps_of (v ∷ t)) (steps_of (w ∷ u)) same in
            cc
        go (awaits step s) is =
            let one = subst (λ y. RequestGoesOn (answers_of seed (v ∷ t)) y (resp (answers_of seed (c ++ v ∷ t)))) is (goes_turns c (v ∷ t)) in
            let two = subst (λ y. RequestGoesOn (answers_of seed (w ∷ u)) y (resp (answers_of seed (c ++ w ∷ u)))) is (goes_turns c (w ∷ u)) in
            let first = asked_next step s (answers_of seed (v ∷ t)) (resp (answers_of seed (c ++ v ∷ t))) a.response a.end a.means one.1 in
            let second = asked_next step s (answers_of seed (w ∷ u)) (resp (answers_of seed (c ++ w ∷ u))) b.response b.end b.means two.1 in
            let enough = asks_enough (answers_of seed c) step s is in
            let counted = answers_counted seed c in
            let takes : one_if (takes_answer step) ≡ 1 = ap one_if (waits_for (answers_of seed c) step s is) in
            let last = answered_join s.asked (step ∷ []) in
            let more : answered (steps_of c) < answered (s.asked ++ step ∷ []) = omega (arith, enough, counted, takes, last) in
            let p = s.asked ++ step ∷ [] in
            let left : p ++ first.0 ≡ steps_of c ++ steps_of (v ∷ t) = sym first.1 ∙ a.asked ∙ steps_join c (v ∷ t) in
            let right : p ++ second.0 ≡ steps_of c ++ steps_of (w ∷ u) = sym second.1 ∙ b.asked ∙ steps_join c (w ∷ u) in
            same_there p (steps_of c) first.0 second.0 (steps_of t) (steps_of u) (step_of v) (step_of w) left right (longer p (steps_of c) first.0 (steps_of (v ∷ t)) left more)

    -- a run that ended there doesn't go on
    pub no_more : (c u : List Turn) (w : Turn) → Ends resp seed c → Ends resp seed (c ++ w ∷ u) → ⊥
    no_more c u w a b =
        let same = whole_end c (w ∷ u) a.response a.end a.means b in
        let long : length (steps_of c ++ steps_of (w ∷ u)) ≡ length (steps_of c) = ap length (sym (steps_join c (w ∷ u)) ∙ same ∙ a.asked) in
        let both = length-append (steps_of c) (steps_of (w ∷ u)) in
        omega (arith, long, both)
