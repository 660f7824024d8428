-- What connections do to the passes of a round.
use mir.Val.{bool_byte as from_bool}
use Rattle.std.proofs.Common.{◌≡◌, ℕ, ◌+◌, ◌-◌, ◌<◌, ◌≤◌, List, [], ◌∷◌, ◌++◌, Bool, true, false, get_or, length, map, All, inl, inr, refl, sym, ap, subst, take, drop, length-drop, length-take-le, ◌∙◌, arith}
use Rattle.std.specs.List.{AllZip, range_with_len}
use Rattle.std.specs.Prelude.{Contains}
use Rattle.std.proofs.lemmas.List.{get_or-drop, get_or-map, get_or-take, length-map}
use Rattle.std.proofs.lemmas.List.Elements.{All-append, All-cons, All-head, All-map, All-nil, All-tail}
use Rattle.std.proofs.lemmas.List.FromFn.{get_or-range_with_len, length-range_with_len}
use Rattle.edges.proofs.Own.{front_both, front_same}
use Rattle.edges.specs.History.{IsFront}
use Rattle.pages_server.specs.Worked.{Leads, LeadsThrough}
use Rattle.site_words.specs.Calls.{Stays}
use Rattle.site_words.specs.Trees.{Needs}
use Rattle.site_words.specs.declared.words.Entry.{Entry}
use Rattle.site_words.specs.declared.words.Opening.{Opening}
use Rattle.turn_table.specs.Passes.{Known, Origin, newcomer, newcomers}
use Rattle.site_rounds.specs.Ready.{numbers_of}
use Rattle.site_rounds.specs.Served.{IsLed, IsServed, IsTalk, IsTalkOf}
use Rattle.site_rounds.specs.declared.rounds.Talks.{Talks}

-- each pass has seen the history at the beginning
pub have_seen : (turns : Origin Opening) (history : List Entry) (passes : List (Known Opening Entry)) → passes ≡ newcomers turns history → All (λ (pass : Known Opening Entry). pass.seen ≡ history) passes
have_seen turns history passes are = subst (All (λ (pass : Known Opening Entry). pass.seen ≡ history)) (sym are) (All-map (λ (pass : Known Opening Entry). pass.seen ≡ history) (newcomer turns history) (range_with_len 0 turns.passes) (λ k d low. refl))

-- where passes stand in the order of their numbers, there are as many
as_many_passes : (n : ℕ) (passes : List (Known Opening Entry)) → numbers_of passes ≡ range_with_len 0 n → length passes ≡ n
as_many_passes n passes in_order = sym (length-map passes (λ (pass : Known Opening Entry). pass.number)) ∙ ap length in_order ∙ length-range_with_len 0 n

-- and the place of each is its number
number_at : (n k : ℕ) (d : Known Opening Entry) (passes : List (Known Opening Entry)) → numbers_of passes ≡ range_with_len 0 n → k < length passes → (get_or passes k d).number ≡ k
number_at n k d passes in_order low =
    let many : length passes ≡ n = as_many_passes n passes in_order in
    let at : get_or (numbers_of passes) k d.number ≡ (get_or passes k d).number = get_or-map (λ (pass : Known Opening Entry). pass.number) passes k d d.number low in
    let counted : get_or (range_with_len 0 n) k d.number ≡ 0 + k = get_or-range_with_len 0 n k d.number (omega (arith, low, many)) in
    let is : (get_or passes k d).number ≡ 0 + k = sym at ∙ ap (λ l. get_or l k d.number) in_order ∙ counted in
    omega (arith, is)

-- at most one pass is for drafts
pub few_for_drafts : (drafts : Bool) → from_bool drafts ≤ 1
few_for_drafts true = omega arith
few_for_drafts false = omega arith

module _ {T : Type 0} (talks : Talks T) where
  first_for_readers : (drafts : Bool) (n number : ℕ) → number + 1 + from_bool drafts < n → IsTalkOf talks drafts n number talks.readers
  first_for_readers true n number low = inl (omega (arith, low), refl)
  first_for_readers false n number low = inl (omega (arith, low), refl)

  next_for_editors : (drafts : Bool) (n number : ℕ) → number + 1 + from_bool drafts ≡ n → IsTalkOf talks drafts n number talks.editors
  next_for_editors true n number is = inr (inl (omega (arith, is), refl))
  next_for_editors false n number is = inr (omega (arith, is), refl)

  last_for_previews : (drafts : Bool) (n number : ℕ) → number < n → n ≤ number + from_bool drafts → IsTalkOf talks drafts n number talks.previews
  last_for_previews true n number low is = inr (inr (omega (arith, low, is), refl))
  last_for_previews false n number low is = absurd (omega (arith, low, is))

-- a pass has seen this history, and its connections are answered so
abbrev pub Begins : {T : Type 0} → Talks T → (drafts : Bool) → (passes : ℕ) → (history : List Entry) → T → Known Opening Entry → Type 0
Begins talks drafts n history talk pass = (pass.seen ≡ history) × IsTalkOf talks drafts n pass.number talk

begins_there : {T : Type 0} (talks : Talks T) (drafts : Bool) (n k : ℕ) (history : List Entry) (talk : T) (d pass : Known Opening Entry) (all : List (Known Opening Entry))
    → numbers_of all ≡ range_with_len 0 n → All (λ (p : Known Opening Entry). p.seen ≡ history) all → k < length all → pass ≡ get_or all k d → IsTalkOf talks drafts n k talk
    → Begins talks drafts n history talk pass
begins_there talks drafts n k history talk d pass all in_order same low is answered =
    let number : (get_or all k d).number ≡ k = number_at n k d all in_order low in
    subst (Begins talks drafts n history talk) (sym is) (same k d low, subst (λ j. IsTalkOf talks drafts n j talk) (sym number) answered)

-- the passes as they are cut: those in front for readers, then one for editors, and one at the end for previews where drafts are shown
module _ {T : Type 0} (talks : Talks T) (drafts : Bool) (n m r : ℕ) (history : List Entry) (front middle kept back all : List (Known Opening Entry))
    (in_order : numbers_of all ≡ range_with_len 0 n) (same : All (λ (pass : Known Opening Entry). pass.seen ≡ history) all)
    (kept_is : kept ≡ take m all) (back_is : back ≡ drop m all) (front_is : front ≡ take r kept) (middle_is : middle ≡ drop r kept)
    (m_is : m + from_bool drafts ≡ length all) (r_is : r ≡ length kept - 1) where
  many : length all ≡ n
  many = as_many_passes n all in_order

  kept_len : length kept ≡ m
  kept_len = ap length kept_is ∙ length-take-le m all (omega (arith, m_is))

  front_len : length front ≡ r
  front_len = ap length front_is ∙ length-take-le r kept (omega (arith, r_is))

  middle_len : length middle ≡ length kept - r
  middle_len = ap length middle_is ∙ length-drop r kept

  back_len : length back ≡ length all - m
  back_len = ap length back_is ∙ length-drop m all

  kept_there : (k : ℕ) (d : Known Opening Entry) → k < m → get_or kept k d ≡ get_or all k d
  kept_there k d low = ap (λ l. get_or l k d) kept_is ∙ get_or-take m all k d low

  pub front_begins : All (Begins talks drafts n history talks.readers) front
  front_begins k d low =
      let in_kept : k < r = omega (arith, low, front_len) in
      let there : get_or front k d ≡ get_or kept k d = ap (λ l. get_or l k d) front_is ∙ get_or-take r kept k d in_kept in
      begins_there talks drafts n k history talks.readers d (get_or front k d) all in_order same (omega (arith, in_kept, r_is, kept_len, m_is)) (there ∙ kept_there k d (omega (arith, in_kept, r_is, kept_len)))
      (first_for_readers talks drafts n k (omega (arith, in_kept, r_is, kept_len, m_is, many)))

  pub middle_begins : All (Begins talks drafts n history talks.editors) middle
  middle_begins k d low =
      let there : get_or middle k d ≡ get_or kept (r + k) d = ap (λ l. get_or l k d) middle_is ∙ get_or-drop r kept k d in
      begins_there talks drafts n (r + k) history talks.editors d (get_or middle k d) all in_order same (omega (arith, low, middle_len, kept_len, m_is)) (there ∙ kept_there (r + k) d (omega (arith, low, middle_len, kept_len)))
      (next_for_editors talks drafts n (r + k) (omega (arith, low, middle_len, r_is, kept_len, m_is, many)))

  pub back_begins : All (Begins talks drafts n history talks.previews) back
  back_begins k d low =
      let there : get_or back k d ≡ get_or all (m + k) d = ap (λ l. get_or l k d) back_is ∙ get_or-drop m all k d in
      begins_there talks drafts n (m + k) history talks.previews d (get_or back k d) all in_order same (omega (arith, low, back_len)) there
      (last_for_previews talks drafts n (m + k) (omega (arith, low, back_len, many)) (omega (arith, m_is, many)))

-- connections, one after the other, on the pass of a port
talks_lead : {K : Type 0} (pass : K → Known Opening Entry) (talked : ℕ → List Entry → List Entry → Type 0) (old : K) (mids : List K) (new : K)
    → LeadsThrough (λ a b. IsTalk talked (pass a) (pass b)) old mids new
    → ((pass new).number ≡ (pass old).number) × IsFront (pass old).seen (pass new).seen × LeadsThrough (talked (pass old).number) (pass old).seen (map (λ k. (pass k).seen) mids) (pass new).seen
talks_lead pass talked old [] new same = (ap (λ k. (pass k).number) same, subst (λ k. IsFront (pass old).seen (pass k).seen) (sym same) (front_same (pass old).seen), ap (λ k. (pass k).seen) same)
talks_lead pass talked old (mid ∷ mids) new steps =
    let rest = talks_lead pass talked mid mids new steps.1 in
    let number : (pass mid).number ≡ (pass old).number = steps.0.0 in
    (rest.0 ∙ number, front_both (pass old).seen (pass mid).seen (pass new).seen steps.0.1 rest.1, (steps.0.2, subst (λ k. LeadsThrough (talked k) (pass mid).seen (map (λ p. (pass p).seen) mids) (pass new).seen) number rest.2))

-- so it is led from the history that it had seen
led_from : {T K : Type 0} (talked : T → ℕ → List Entry → List Entry → Type 0) (talks : Talks T) (drafts : Bool) (n : ℕ) (history : List Entry) (talk : T) (pass : K → Known Opening Entry) (old new : K)
    → Leads (λ a b. IsTalk (talked talk) (pass a) (pass b)) old new → Begins talks drafts n history talk (pass old) → IsLed talked talks drafts n (pass new).number history (pass new).seen
led_from talked talks drafts n history talk pass old new leads begins =
    let steps = talks_lead pass (talked talk) old leads.through new leads.steps in
    subst (λ k. IsLed talked talks drafts n k history (pass new).seen) (sym steps.0) (subst (λ h. IsLed talked talks drafts n (pass old).number h (pass new).seen) begins.0 (record {
      talk = talk;
      talk_is = begins.1;
      longer = steps.1;
      led = record { through = map (λ k. (pass k).seen) leads.through; steps = steps.2 };
    }))

carried : {X Y : Type 0} (f : X → Y) (R : X → X → Type 0) (P Q : Y → Type 0) → ((a b : X) → R a b → P (f a) → Q (f b)) → (before after : List X) → AllZip R before after → All P (map f before) → All Q (map f after)
carried f R P Q so [] [] zip all = All-nil Q
carried f R P Q so [] (y ∷ ys) zip all = absurd zip
carried f R P Q so (x ∷ xs) [] zip all = absurd zip
carried f R P Q so (x ∷ xs) (y ∷ ys) zip all = All-cons Q (f y) (map f ys) (so x y zip.0 (All-head P (f x) (map f xs) all)) (carried f R P Q so xs ys zip.1 (All-tail P (f x) (map f xs) all))

-- and so are the passes of workers of one listener, which were seated before
pub workers_led : {T K W : Type 0} (talked : T → Opening → ℕ → List Entry → List Entry → Type 0) (talks : Talks T) (drafts : Bool) (n : ℕ) (history : List Entry) (talk named : T) (turns home : Origin Opening) (pass : K → Known Opening Entry) (token : W → K) (before after : List W) (seated : List (Known Opening Entry))
    → named ≡ talk → home ≡ turns → map (λ w. pass (token w)) before ≡ seated → All (Begins talks drafts n history talk) seated
    → AllZip (λ old new. Leads (λ a b. IsTalk (talked named home.opening) (pass a) (pass b)) (token old) (token new)) before after
    → All (λ (p : Known Opening Entry). IsLed (λ t. talked t turns.opening) talks drafts n p.number history p.seen) (map (λ w. pass (token w)) after)
workers_led talked talks drafts n history talk named turns home pass token before after seated naming homing made begin zip =
    let at_home = subst (λ (o : Origin Opening). AllZip (λ old new. Leads (λ a b. IsTalk (talked named o.opening) (pass a) (pass b)) (token old) (token new)) before after) homing zip in
    let so = subst (λ t. AllZip (λ old new. Leads (λ a b. IsTalk (talked t turns.opening) (pass a) (pass b)) (token old) (token new)) before after) naming at_home in
    carried (λ w. pass (token w)) (λ old new. Leads (λ a b. IsTalk (talked talk turns.opening) (pass a) (pass b)) (token old) (token new)) (Begins talks drafts n history talk) (λ p. IsLed (λ t. talked t turns.opening) talks drafts n p.number history p.seen)
    (λ a b leads begins. led_from (λ t. talked t turns.opening) talks drafts n history talk pass (token a) (token b) leads begins)
    before after so (subst (All (Begins talks drafts n history talk)) (sym made) begin)

-- what holds of three parts holds of the list that is gathered from them
pub gathered_all : {X : Type 0} (Q : X → Type 0) (a b c start one two three : List X) → start ≡ [] → one ≡ start ++ a → two ≡ one ++ b → three ≡ two ++ c → All Q a → All Q b → All Q c → All Q three
gathered_all Q a b c start one two three none first second third of_a of_b of_c =
    let none_yet : All Q start = subst (All Q) (sym none) (All-nil Q) in
    let of_one : All Q one = subst (All Q) (sym first) (All-append Q start a none_yet of_a) in
    let of_two : All Q two = subst (All Q) (sym second) (All-append Q one b of_one of_b) in
    subst (All Q) (sym third) (All-append Q two c of_two of_c)

-- a pass of each number is served where all that were led stand in the new history
pub each_served : {T : Type 0} (talked : T → ℕ → List Entry → List Entry → Type 0) (talks : Talks T) (drafts : Bool) (needs : Needs) (x : Opening) (old new : List Entry) (passes : List (Known Opening Entry)) (number : ℕ)
    → Contains (numbers_of passes) number → All (λ (p : Known Opening Entry). IsLed talked talks drafts x.passes p.number old p.seen) passes → All (λ (p : Known Opening Entry). Stays needs x p.number p.seen new) passes
    → IsServed talked talks drafts needs x number old new
each_served talked talks drafts needs x old new [] number there led stand = absurd (omega (arith, there.1))
each_served talked talks drafts needs x old new (p ∷ ps) number there led stand =
    let k = there.0 in
    let low : k < length (p ∷ ps) = omega (arith, there.1, length-map (p ∷ ps) (λ (pass : Known Opening Entry). pass.number)) in
    let is : (get_or (p ∷ ps) k p).number ≡ number = sym (get_or-map (λ (pass : Known Opening Entry). pass.number) (p ∷ ps) k p number low) ∙ there.2 in
    subst (λ j. IsServed talked talks drafts needs x j old new) is (record {
      seen = (get_or (p ∷ ps) k p).seen;
      led = led k p low;
      stands = stand k p low;
    })

-- so the history goes on
pub goes_on : {T : Type 0} (talked : T → ℕ → List Entry → List Entry → Type 0) (talks : Talks T) (drafts : Bool) (needs : Needs) (x : Opening) (number : ℕ) (old new : List Entry) → IsServed talked talks drafts needs x number old new → IsFront old new
goes_on talked talks drafts needs x number old new served = front_both old served.seen new served.led.longer served.stands.longer
