-- Sessions by their numbers.
use Rattle.std.proofs.Common.{◌≡◌, ◌≢◌, ℕ, suc, ◌+◌, ◌<◌, ◌≤◌, List, [], ◌∷◌, ◌++◌, length, Option, Some, None, refl, sym, ap, subst, ◌∙◌, arith, true, false}
use Rattle.std.specs.Prelude.{Bool, ◌==◌, ◌||◌, not, if◌then◌else◌}
use Rattle.std.proofs.lemmas.Bool.Decides.{nat_tests}
use Rattle.pg_value.specs.Datum.{Datum}
use Rattle.site_words.specs.declared.words.KeptSession.{KeptSession}
use Rattle.site_words.specs.Ids.{is_id}
use Rattle.site_words.specs.Opening.{are_distinct}
use Rattle.site_words.specs.Runs.{UnderWay, run_in, session_in}
use Rattle.site_words.specs.Sessions.{session_at, numbered, number_of, attrs_of, is_session, holder_of, without, used_at, first_free, unheld}
use Rattle.site_words.specs.Trees.{Each}
use Rattle.site_words.proofs.Items.{and_left, and_right, and_both}
use Rattle.site_words.specs.Invariants.{has_number}

pub or_left : (a b : Bool) → (a || b) ≡ false → a ≡ false
or_left true b h = h
or_left false b h = refl

pub or_right : (a b : Bool) → (a || b) ≡ false → b ≡ false
or_right true b h = absurd (cc)
or_right false b h = h

or_false : (a b : Bool) → a ≡ false → b ≡ false → (a || b) ≡ false
or_false true b h i = h
or_false false b h i = i

not_back : (a : Bool) → not a ≡ true → a ≡ false
not_back true h = absurd (cc)
not_back false h = refl

equal_of : (a b : ℕ) → (a == b) ≡ true → a ≡ b
equal_of a b h = grind (arith, nat_tests)

differ_of : (a b : ℕ) → (a == b) ≡ false → a ≢ b
differ_of a b h = grind (arith, nat_tests)

to_differ : (a b : ℕ) → a ≢ b → (a == b) ≡ false
to_differ a b h = grind (arith, nat_tests)

to_equal : (a b : ℕ) → a ≡ b → (a == b) ≡ true
to_equal a b h = grind (arith, nat_tests)

-- one of them is used: the numbers stay

used_number : (n m : ℕ) (kept : KeptSession) → (if kept.number == n then record { number = kept.number; used = m; attrs = kept.attrs } else kept).number ≡ kept.number
used_number n m kept = go (kept.number == n)
  where
    go : (b : Bool) → (if b then record { number = kept.number; used = m; attrs = kept.attrs } else kept).number ≡ kept.number
    go true = refl
    go false = refl

pub has_used : (k n m : ℕ) (sessions : List KeptSession) → has_number k (used_at n m sessions) ≡ has_number k sessions
has_used k n m [] = refl
has_used k n m (kept ∷ sessions) = ap (λ (j : ℕ). (j == k) || has_number k (used_at n m sessions)) (used_number n m kept) ∙ ap (λ b. (kept.number == k) || b) (has_used k n m sessions)

pub distinct_used : (n m : ℕ) (sessions : List KeptSession) → are_distinct sessions ≡ true → are_distinct (used_at n m sessions) ≡ true
distinct_used n m [] h = refl
distinct_used n m (kept ∷ sessions) h =
    and_both _ (are_distinct (used_at n m sessions))
    (ap (λ (j : ℕ). not (has_number j (used_at n m sessions))) (used_number n m kept) ∙ (ap not (has_used kept.number n m sessions) ∙ and_left (not (has_number kept.number sessions)) (are_distinct sessions) h))
    (distinct_used n m sessions (and_right (not (has_number kept.number sessions)) (are_distinct sessions) h))

pub length_used : (n m : ℕ) (sessions : List KeptSession) → length (used_at n m sessions) ≡ length sessions
length_used n m [] = refl
length_used n m (kept ∷ sessions) = ap suc (length_used n m sessions)

pub each_used : (P Q : KeptSession → Type 0) (n m : ℕ) (sessions : List KeptSession) → ((kept : KeptSession) → P kept → Q kept) → ((kept : KeptSession) → P kept → Q (record { number = kept.number; used = m; attrs = kept.attrs }))
    → Each P sessions → Each Q (used_at n m sessions)
each_used P Q n m [] same one all = tt
each_used P Q n m (kept ∷ sessions) same one all = (go (kept.number == n), each_used P Q n m sessions same one all.1)
  where
    go : (b : Bool) → Q (if b then record { number = kept.number; used = m; attrs = kept.attrs } else kept)
    go true = one kept all.0
    go false = same kept all.0

-- one of them is taken out

pub has_without : (k n : ℕ) (sessions : List KeptSession) → has_number k sessions ≡ false → has_number k (without n sessions) ≡ false
has_without k n [] h = refl
has_without k n (kept ∷ sessions) h = go (kept.number == n) (has_without k n sessions (or_right (kept.number == k) (has_number k sessions) h))
  where
    go : (b : Bool) → has_number k (without n sessions) ≡ false → has_number k (if not b then kept ∷ without n sessions else without n sessions) ≡ false
    go true rest = rest
    go false rest = or_false (kept.number == k) (has_number k (without n sessions)) (or_left (kept.number == k) (has_number k sessions) h) rest

pub gone : (n : ℕ) (sessions : List KeptSession) → has_number n (without n sessions) ≡ false
gone n [] = refl
gone n (kept ∷ sessions) = go (kept.number == n) refl (gone n sessions)
  where
    go : (b : Bool) → (kept.number == n) ≡ b → has_number n (without n sessions) ≡ false → has_number n (if not b then kept ∷ without n sessions else without n sessions) ≡ false
    go true is rest = rest
    go false is rest = or_false (kept.number == n) (has_number n (without n sessions)) is rest

pub stays_other : (k n : ℕ) (sessions : List KeptSession) → k ≢ n → has_number k (without n sessions) ≡ has_number k sessions
stays_other k n [] other = refl
stays_other k n (kept ∷ sessions) other = go (kept.number == n) refl (stays_other k n sessions other)
  where
    go : (b : Bool) → (kept.number == n) ≡ b → has_number k (without n sessions) ≡ has_number k sessions → has_number k (if not b then kept ∷ without n sessions else without n sessions) ≡ ((kept.number == k) || has_number k sessions)
    go true is rest =
        let one = equal_of kept.number n is in
        let not_k : (kept.number == k) ≡ false = to_differ kept.number k (λ h. other (sym h ∙ one)) in
        rest ∙ sym (ap (λ b. b || has_number k sessions) not_k)
    go false is rest = ap (λ b. (kept.number == k) || b) rest

pub distinct_without : (n : ℕ) (sessions : List KeptSession) → are_distinct sessions ≡ true → are_distinct (without n sessions) ≡ true
distinct_without n [] h = refl
distinct_without n (kept ∷ sessions) h = go (kept.number == n) (distinct_without n sessions (and_right (not (has_number kept.number sessions)) (are_distinct sessions) h))
  where
    go : (b : Bool) → are_distinct (without n sessions) ≡ true → are_distinct (if not b then kept ∷ without n sessions else without n sessions) ≡ true
    go true rest = rest
    go false rest = and_both (not (has_number kept.number (without n sessions))) (are_distinct (without n sessions))
        (ap not (has_without kept.number n sessions (not_back _ (and_left (not (has_number kept.number sessions)) (are_distinct sessions) h)))) rest

pub length_without : (n : ℕ) (sessions : List KeptSession) → length (without n sessions) ≤ length sessions
length_without n [] = omega arith
length_without n (kept ∷ sessions) = go (kept.number == n) (length_without n sessions)
  where
    go : (b : Bool) → length (without n sessions) ≤ length sessions → length (if not b then kept ∷ without n sessions else without n sessions) ≤ length (kept ∷ sessions)
    go true rest = omega arith
    go false rest = omega arith

pub one_less : (n : ℕ) (sessions : List KeptSession) → has_number n sessions ≡ true → length (without n sessions) + 1 ≤ length sessions
one_less n [] h = absurd (cc)
one_less n (kept ∷ sessions) h = go (kept.number == n) h (λ h. one_less n sessions h)
  where
    go : (b : Bool) → (b || has_number n sessions) ≡ true → (has_number n sessions ≡ true → length (without n sessions) + 1 ≤ length sessions)
        → length (if not b then kept ∷ without n sessions else without n sessions) + 1 ≤ length (kept ∷ sessions)
    go true h rest = let less = length_without n sessions in omega arith
    go false h rest = let less = rest h in omega arith

nothing_out : (n : ℕ) (sessions : List KeptSession) → has_number n sessions ≡ false → length (without n sessions) ≡ length sessions
nothing_out n [] h = refl
nothing_out n (kept ∷ sessions) h = go (kept.number == n) refl (nothing_out n sessions (or_right (kept.number == n) (has_number n sessions) h))
  where
    go : (b : Bool) → (kept.number == n) ≡ b → length (without n sessions) ≡ length sessions → length (if not b then kept ∷ without n sessions else without n sessions) ≡ length (kept ∷ sessions)
    go true is rest = let no = or_left (kept.number == n) (has_number n sessions) h in absurd (cc)
    go false is rest = ap suc rest

-- of distinct ones at most one is taken out
at_most_one : (n : ℕ) (sessions : List KeptSession) → are_distinct sessions ≡ true → length sessions ≤ length (without n sessions) + 1
at_most_one n [] h = omega arith
at_most_one n (kept ∷ sessions) h = go (kept.number == n) refl (at_most_one n sessions (and_right (not (has_number kept.number sessions)) (are_distinct sessions) h))
  where
    go : (b : Bool) → (kept.number == n) ≡ b → length sessions ≤ length (without n sessions) + 1 → length (kept ∷ sessions) ≤ length (if not b then kept ∷ without n sessions else without n sessions) + 1
    go true is rest =
        let same = equal_of kept.number n is in
        let no : has_number n sessions ≡ false = subst (λ k. has_number k sessions ≡ false) same (not_back _ (and_left (not (has_number kept.number sessions)) (are_distinct sessions) h)) in
        let len = nothing_out n sessions no in
        omega arith
    go false is rest = omega arith

-- one is added at the end

pub has_push : (k : ℕ) (sessions : List KeptSession) (kept : KeptSession) → has_number k (sessions ++ kept ∷ []) ≡ (has_number k sessions || (kept.number == k))
has_push k [] kept = go (kept.number == k)
  where
    go : (b : Bool) → (b || false) ≡ b
    go true = refl
    go false = refl
has_push k (first ∷ sessions) kept = go (first.number == k) (has_push k sessions kept)
  where
    go : (b : Bool) → has_number k (sessions ++ kept ∷ []) ≡ (has_number k sessions || (kept.number == k)) → (b || has_number k (sessions ++ kept ∷ [])) ≡ ((b || has_number k sessions) || (kept.number == k))
    go true rest = refl
    go false rest = rest

pub distinct_push : (sessions : List KeptSession) (kept : KeptSession) → are_distinct sessions ≡ true → has_number kept.number sessions ≡ false → are_distinct (sessions ++ kept ∷ []) ≡ true
distinct_push [] kept h new = refl
distinct_push (first ∷ sessions) kept h new =
    let other : first.number ≢ kept.number = differ_of first.number kept.number (or_left (first.number == kept.number) (has_number kept.number sessions) new) in
    let other' : (kept.number == first.number) ≡ false = to_differ kept.number first.number (λ e. other (sym e)) in
    and_both (not (has_number first.number (sessions ++ kept ∷ []))) (are_distinct (sessions ++ kept ∷ []))
    (ap not (has_push first.number sessions kept ∙ or_false (has_number first.number sessions) (kept.number == first.number) (not_back _ (and_left (not (has_number first.number sessions)) (are_distinct sessions) h)) other'))
    (distinct_push sessions kept (and_right (not (has_number first.number sessions)) (are_distinct sessions) h) (or_right (first.number == kept.number) (has_number kept.number sessions) new))

-- what is found

pub found_number : (seed cookie : List ℕ) (n : ℕ) (sessions : List KeptSession) → number_of (session_at seed cookie sessions) ≡ Some n → has_number n sessions ≡ true
found_number seed cookie n [] h = absurd (cc)
found_number seed cookie n (kept ∷ sessions) h = go (is_id seed kept.number cookie) h (λ h. found_number seed cookie n sessions h)
  where
    go : (b : Bool) → number_of (if b then Some kept else session_at seed cookie sessions) ≡ Some n → (number_of (session_at seed cookie sessions) ≡ Some n → has_number n sessions ≡ true) → ((kept.number == n) || has_number n sessions) ≡ true
    go true h rest = let same : kept.number ≡ n = cc in ap (λ b. b || has_number n sessions) (to_equal kept.number n same)
    go false h rest = or_more (kept.number == n) (has_number n sessions) (rest h)
      where
        or_more : (a b : Bool) → b ≡ true → (a || b) ≡ true
        or_more true b h = refl
        or_more false b h = h

pub numbered_all : (P : KeptSession → Type 0) (n : ℕ) (sessions : List KeptSession) (Q : List (List ℕ × Datum) → Type 0) → Q [] → ((kept : KeptSession) → P kept → Q kept.attrs) → Each P sessions → Q (attrs_of (numbered n sessions))
numbered_all P n [] Q none some all = none
numbered_all P n (kept ∷ sessions) Q none some all = go (kept.number == n) (numbered_all P n sessions Q none some all.1)
  where
    go : (b : Bool) → Q (attrs_of (numbered n sessions)) → Q (attrs_of (if b then Some kept else numbered n sessions))
    go true rest = some kept all.0
    go false rest = rest

-- who holds what

abbrev pub Holds : ℕ → Option UnderWay → Type 0
Holds n u = session_in (run_in u) ≡ Some n

-- no request holds the session
pub unheld_all : (n : ℕ) (runs : List (Option UnderWay)) → holder_of n runs ≡ None → Each (λ u. session_in (run_in u) ≢ Some n) runs
unheld_all n [] h = tt
unheld_all n (None ∷ runs) h = ((λ e. absurd (cc)), unheld_all n runs h)
unheld_all n (Some u ∷ runs) h = go u.run.session refl (is_session n u.run.session) refl h (λ h. unheld_all n runs h)
  where
    go : (o : Option ℕ) → u.run.session ≡ o → (b : Bool) → is_session n o ≡ b → (if b then Some u.run.request else holder_of n runs) ≡ None → (holder_of n runs ≡ None → Each (λ u. session_in (run_in u) ≢ Some n) runs)
        → (u.run.session ≢ Some n) × Each (λ u. session_in (run_in u) ≢ Some n) runs
    go o at true is h rest = absurd (cc)
    go None at false is h rest = ((λ e. absurd (cc)), rest h)
    go (Some k) at false is h rest = ((λ e. let same : k ≡ n = cc in differ_of k n is same), rest h)

free_is : (runs : List (Option UnderWay)) (sessions : List KeptSession) (n : ℕ) → first_free runs sessions ≡ Some n → holder_of n runs ≡ None
free_is runs [] n h = absurd (cc)
free_is runs (kept ∷ sessions) n h = go (holder_of kept.number runs) refl h (λ h. free_is runs sessions n h)
  where
    go : (o : Option ℕ) → holder_of kept.number runs ≡ o → unheld o kept.number (first_free runs sessions) ≡ Some n → (first_free runs sessions ≡ Some n → holder_of n runs ≡ None) → holder_of n runs ≡ None
    go None is h rest = let same : kept.number ≡ n = cc in subst (λ k. holder_of k runs ≡ None) same is
    go (Some request) is h rest = rest h

pub first_unheld : (runs : List (Option UnderWay)) (sessions : List KeptSession) (n : ℕ) → first_free runs sessions ≡ Some n → Each (λ u. session_in (run_in u) ≢ Some n) runs
first_unheld runs sessions n h = unheld_all n runs (free_is runs sessions n h)

pub first_there : (runs : List (Option UnderWay)) (sessions : List KeptSession) (n : ℕ) → first_free runs sessions ≡ Some n → has_number n sessions ≡ true
first_there runs [] n h = absurd (cc)
first_there runs (kept ∷ sessions) n h = go (holder_of kept.number runs) h (λ h. first_there runs sessions n h)
  where
    go : (o : Option ℕ) → unheld o kept.number (first_free runs sessions) ≡ Some n → (first_free runs sessions ≡ Some n → has_number n sessions ≡ true) → ((kept.number == n) || has_number n sessions) ≡ true
    go None h rest = let same : kept.number ≡ n = cc in ap (λ b. b || has_number n sessions) (to_equal kept.number n same)
    go (Some request) h rest = or_more (kept.number == n) (has_number n sessions) (rest h)
      where
        or_more : (a b : Bool) → b ≡ true → (a || b) ≡ true
        or_more true b h = refl
        or_more false b h = h

-- of distinct sessions no more are held than requests are under way

abbrev pub IsHeld : List (Option UnderWay) → KeptSession → Type 0
IsHeld runs kept = holder_of kept.number runs ≢ None

all_held : (runs : List (Option UnderWay)) (sessions : List KeptSession) → first_free runs sessions ≡ None → Each (IsHeld runs) sessions
all_held runs [] h = tt
all_held runs (kept ∷ sessions) h = go (holder_of kept.number runs) refl h (λ h. all_held runs sessions h)
  where
    go : (o : Option ℕ) → holder_of kept.number runs ≡ o → unheld o kept.number (first_free runs sessions) ≡ None → (first_free runs sessions ≡ None → Each (IsHeld runs) sessions) → Each (IsHeld runs) (kept ∷ sessions)
    go None is h rest = absurd (cc)
    go (Some request) is h rest = ((λ e. absurd (cc)), rest h)

held_by_rest : (u : Option UnderWay) (n : ℕ) (runs : List (Option UnderWay)) → ((k : ℕ) → (k == n) ≡ false → holder_of k (u ∷ runs) ≡ holder_of k runs) → (sessions : List KeptSession) → Each (IsHeld (u ∷ runs)) sessions → Each (IsHeld runs) (without n sessions)
held_by_rest u n runs same [] all = tt
held_by_rest u n runs same (kept ∷ sessions) all = go (kept.number == n) refl (held_by_rest u n runs same sessions all.1)
  where
    go : (b : Bool) → (kept.number == n) ≡ b → Each (IsHeld runs) (without n sessions) → Each (IsHeld runs) (if not b then kept ∷ without n sessions else without n sessions)
    go true is rest = rest
    go false is rest = ((λ e. all.0 (same kept.number is ∙ e)), rest)

no_session : (o : Option ℕ) (k : ℕ) → o ≡ None → is_session k o ≡ false
no_session None k h = refl
no_session (Some n) k h = absurd (cc)

other_session : (o : Option ℕ) (n k : ℕ) → o ≡ Some n → (k == n) ≡ false → is_session k o ≡ false
other_session None n k h other = absurd (cc)
other_session (Some m) n k h other = let same : m ≡ n = cc in to_differ m k (λ e. differ_of k n other (sym e ∙ same))

pub held_few : (runs : List (Option UnderWay)) (sessions : List KeptSession) → are_distinct sessions ≡ true → Each (IsHeld runs) sessions → length sessions ≤ length runs
held_few [] [] h all = omega arith
held_few [] (kept ∷ sessions) h all = absurd (all.0 refl)
held_few (None ∷ runs) sessions h all = let less = held_few runs sessions h all in omega arith
held_few (Some u ∷ runs) sessions h all = go u.run.session refl (λ more distinct held. held_few runs more distinct held)
  where
    go : (o : Option ℕ) → u.run.session ≡ o → ((more : List KeptSession) → are_distinct more ≡ true → Each (IsHeld runs) more → length more ≤ length runs) → length sessions ≤ length (Some u ∷ runs)
    go None at few =
        let less = few sessions h (each_same (λ k. ap (λ b. if b then Some u.run.request else holder_of k runs) (no_session u.run.session k at)) sessions all) in omega arith
      where
        each_same : ((k : ℕ) → holder_of k (Some u ∷ runs) ≡ holder_of k runs) → (sessions : List KeptSession) → Each (IsHeld (Some u ∷ runs)) sessions → Each (IsHeld runs) sessions
        each_same same [] all = tt
        each_same same (kept ∷ sessions) all = ((λ e. all.0 (same kept.number ∙ e)), each_same same sessions all.1)
    go (Some n) at few =
        let less = few (without n sessions) (distinct_without n sessions h)
        (held_by_rest (Some u) n runs (λ k other. ap (λ b. if b then Some u.run.request else holder_of k runs) (other_session u.run.session n k at other)) sessions all) in
        let one = at_most_one n sessions h in omega arith

-- where there are more sessions than passes, one is free
pub some_free : (runs : List (Option UnderWay)) (sessions : List KeptSession) → are_distinct sessions ≡ true → length runs < length sessions → first_free runs sessions ≢ None
some_free runs sessions h more none = let few = held_few runs sessions h (all_held runs sessions none) in absurd (let bad : ⊥ = omega arith in bad)
