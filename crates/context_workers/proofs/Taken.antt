-- What is left where one item of each list is taken after the other.
use Rattle.std.proofs.Common.{◌≡◌, ℕ, ◌<◌, ◌≤◌, ◌+◌, ◌==◌, Bool, true, false, List, [], ◌∷◌, ◌++◌, All, Some, get_or, length, refl, sym, ap, subst, ◌∙◌, arith}
use Rattle.std.proofs.lemmas.Bool.{eq-eqb, eqb-true}
use Rattle.std.proofs.lemmas.List.{get_or_default, get_or-set_other, get_or-set_same, length-append, length-set}
use Rattle.std.specs.List.{slice_get}
use Rattle.context_workers.specs.Seats.{AreSeated, HaveFewer, LastTaken}
use Rattle.context_workers.proofs.Lists.{front_all, last_of_all}

-- one item of each list below a place was taken
pub record IsTakenBelow {X : Type 0} (place : ℕ) (old new : List (List X)) : Type 0 where
  pub as_many : length new ≡ length old
  pub below : (k : ℕ) → k < place → length (get_or new k []) + 1 ≡ length (get_or old k [])
  pub above : (k : ℕ) → place ≤ k → get_or new k [] ≡ get_or old k []

pub none_taken : {X : Type 0} (old : List (List X)) → IsTakenBelow 0 old old
none_taken old = record { as_many = refl; below = λ k low. absurd (omega arith); above = λ k low. refl }

apart : (k place : ℕ) → (k == place) ≡ false → k ≡ place → ⊥
apart k place differ same = absurd (let t : (k == place) ≡ true = eq-eqb k place same in cc)

module _ {X : Type 0} (place : ℕ) (old new : List (List X)) (x : X) (taken : LastTaken place old new x) (within : place < length old) where
  after : get_or new place [] ≡ taken.less
  after = ap (λ lists. get_or lists place []) taken.now ∙ get_or-set_same old place taken.less [] within

  elsewhere : (k : ℕ) → (k ≡ place → ⊥) → get_or new k [] ≡ get_or old k []
  elsewhere k other = ap (λ lists. get_or lists k []) taken.now ∙ get_or-set_other old place k taken.less [] other

  pub as_many_still : length new ≡ length old
  as_many_still = ap length taken.now ∙ length-set old place taken.less

  one_less : length (get_or new place []) + 1 ≡ length (get_or old place [])
  one_less =
      let new_is : length (get_or new place []) ≡ length taken.less = ap length after in
      let old_is : length (get_or old place []) ≡ length taken.less + 1 = ap length taken.was ∙ length-append taken.less (x ∷ []) in
      omega arith

  module _ (first : List (List X)) (so_far : IsTakenBelow place first old) where
    below_next : (test : Bool) (k : ℕ) → (k == place) ≡ test → k < place + 1 → length (get_or new k []) + 1 ≡ length (get_or first k [])
    below_next true k same low =
        let is : k ≡ place = eqb-true k place same in
        subst (λ (j : ℕ). length (get_or new j []) + 1 ≡ length (get_or first j [])) (sym is) (one_less ∙ ap length (so_far.above place (omega arith)))
    below_next false k differ low = ap (λ l. length l + 1) (elsewhere k (apart k place differ)) ∙ so_far.below k (let other : k ≡ place → ⊥ = apart k place differ in omega arith)

    -- so one more list has one item less
    pub taken_next : IsTakenBelow (place + 1) first new
    taken_next = record {
      as_many = as_many_still ∙ so_far.as_many;
      below = λ k low. below_next (k == place) k refl low;
      above = λ k high. elsewhere k (λ same. absurd (omega arith)) ∙ so_far.above k (omega arith);
    }

  module _ {S : Type 0} (Fits : S → X → Type 0) (sites : List S) (seated : AreSeated Fits sites old) where
    -- the item fits
    pub taken_fits : (site : S) → slice_get sites place ≡ Some site → Fits site x
    taken_fits site is = last_of_all (Fits site) taken.less x (subst (All (Fits site)) taken.was (seated.fit place site is))

    fit_at : (test : Bool) (k : ℕ) (site : S) → (k == place) ≡ test → slice_get sites k ≡ Some site → All (Fits site) (get_or new k [])
    fit_at true k site same is =
        let here : k ≡ place = eqb-true k place same in
        let all : All (Fits site) (taken.less ++ x ∷ []) = subst (All (Fits site)) (ap (λ j. get_or old j []) here ∙ taken.was) (seated.fit k site is) in
        subst (All (Fits site)) (sym (ap (λ j. get_or new j []) here ∙ after)) (front_all (Fits site) taken.less x all)
    fit_at false k site differ is = subst (All (Fits site)) (sym (elsewhere k (apart k place differ))) (seated.fit k site is)

    -- and so do those that are left
    pub left_seated : AreSeated Fits sites new
    left_seated = record { as_many = seated.as_many ∙ sym as_many_still; fit = λ k site is. fit_at (k == place) k site refl is }

-- one item of each was taken
pub all_taken : {X : Type 0} (place : ℕ) (old new : List (List X)) → length old ≤ place → IsTakenBelow place old new → HaveFewer 1 old new
all_taken place old new high taken = record { as_many = taken.as_many; each = λ k low. taken.below k (omega arith) }

pub none_fewer : {X : Type 0} (old : List (List X)) → HaveFewer 0 old old
none_fewer old = record { as_many = refl; each = λ k low. omega arith }

-- and then one more of each
pub fewer_still : {X : Type 0} (taken : ℕ) (old mid new : List (List X)) → HaveFewer taken old mid → HaveFewer 1 mid new → HaveFewer (taken + 1) old new
fewer_still taken old mid new before more = record {
  as_many = more.as_many ∙ before.as_many;
  each = λ k low.
      let now : length (get_or new k []) + 1 ≡ length (get_or mid k []) = more.each k (let same = before.as_many in omega arith) in
      let was : length (get_or mid k []) + taken ≡ length (get_or old k []) = before.each k low in
      omega arith;
}

-- and what is left of each
pub left_over : {X : Type 0} (taken rest : ℕ) (old new : List (List X)) → HaveFewer taken old new → All (λ own. taken + rest ≤ length own) old → All (λ own. rest ≤ length own) new
left_over taken rest old new fewer enough k d within =
    let same : length new ≡ length old = fewer.as_many in
    let there : k < length old = omega arith in
    let each : length (get_or new k []) + taken ≡ length (get_or old k []) = fewer.each k there in
    let much : taken + rest ≤ length (get_or old k []) = enough k [] there in
    let at : get_or new k d ≡ get_or new k [] = get_or_default new k d [] within in
    subst (λ own. rest ≤ length own) (sym at) (omega arith)
