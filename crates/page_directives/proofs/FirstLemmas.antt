-- Where the first reading decides that there is neither a buffer nor flushing.
use Rattle.std.proofs.Common.{◌≡◌, ℕ, ◌+◌, ◌-◌, ◌<◌, ◌≤◌, Bool, true, false, List, [], ◌∷◌, ◌++◌, Option, Some, None, length, take, drop, get_or, refl, sym, ap, ◌∙◌, subst, arith, take-add, take_all, true≢false, ltb, ltb-true, ltb-false, ne_eqb, eqb-true, add-one, take-suc}
use Rattle.std.proofs.lemmas.Bool.{eqb-false}
use Rattle.std.specs.Prelude.{◌&&◌, ◌==◌, not, codes}
use Rattle.std.proofs.lemmas.List.Sums.{prefix_len_stops, prefix_len-le-length}
use Rattle.page_directives.specs.Directive.{Directive, before_in, is_at_same}
use Rattle.page_directives.specs.ReadKnown.{IsTurn}
use Rattle.page_directives.specs.Settings.{decided, decided_by, given, giver, giver_table, is_unbuffered, is_value, unbuffers}
use Rattle.page_directives.proofs.GivenLemmas.{or_else, decided-append, given-append}

-- what directives decide, or else those behind them
pub decided_by-append : (in_tag : Bool) (xs ys : List Directive) (name : List ℕ) → decided_by in_tag (xs ++ ys) name ≡ or_else (decided_by in_tag xs name) (decided_by in_tag ys name)
decided_by-append in_tag xs ys name =
    ap (decided (giver_table in_tag) name) (given-append (giver in_tag) xs ys) ∙ decided-append (giver_table in_tag) name (given (giver in_tag) xs) (given (giver in_tag) ys)

both_still : (a b c d : Bool) → (a ≡ true → c ≡ true) → (b ≡ true → d ≡ true) → (a && b) ≡ true → (c && d) ≡ true
both_still true b c d f g e = rw (f refl) (g e)
both_still false b c d f g e = cc

value_still : (text : List ℕ) (first other : Option (List ℕ)) → is_value text first ≡ true → is_value text (or_else first other) ≡ true
value_still text None other e = cc
value_still text (Some value) other e = e

-- what is decided stays so
unbuffered_still : (in_tag : Bool) (xs ys : List Directive) → is_unbuffered in_tag xs ≡ true → is_unbuffered in_tag (xs ++ ys) ≡ true
unbuffered_still in_tag xs ys e =
    both_still _ _ _ _
    (λ is. ap (is_value (codes "none")) (decided_by-append in_tag xs ys (codes "buffer")) ∙ value_still (codes "none") (decided_by in_tag xs (codes "buffer")) _ is)
    (λ is. ap (is_value (codes "false")) (decided_by-append in_tag xs ys (codes "autoFlush")) ∙ value_still (codes "false") (decided_by in_tag xs (codes "autoFlush")) _ is)
    e

unbuffered_later : (in_tag : Bool) (ds : List Directive) (m n : ℕ) → m ≤ n → is_unbuffered in_tag (take m ds) ≡ true → is_unbuffered in_tag (take n ds) ≡ true
unbuffered_later in_tag ds m n le e =
    ap (λ k. is_unbuffered in_tag (take k ds)) (omega (arith, le))
    ∙ (ap (is_unbuffered in_tag) (take-add m (n - m) ds) ∙ unbuffered_still in_tag (take m ds) (take (n - m) (drop m ds)) e)

not_later : (in_tag : Bool) (ds : List Directive) (m n : ℕ) → m ≤ n → is_unbuffered in_tag (take n ds) ≡ false → is_unbuffered in_tag (take m ds) ≡ false
not_later in_tag ds m n le e = go (is_unbuffered in_tag (take m ds)) refl
  where
    go : (is : Bool) → is_unbuffered in_tag (take m ds) ≡ is → is_unbuffered in_tag (take m ds) ≡ false
    go false is = is
    go true is = let later = unbuffered_later in_tag ds m n le is in cc

first_false : (a b : Bool) → a ≡ false → (a && b) ≡ false
first_false a b e = ap (λ a. a && b) e

second_true : (a b : Bool) → b ≡ true → (a && not b) ≡ false
second_true true b e = ap not e
second_true false b e = refl

both_ways : (b : Bool) → (b && not b) ≡ false
both_ways true = refl
both_ways false = refl

-- at the turn
pub at_turn : (in_tag : Bool) (first : List Directive) (d : Directive) (turn : ℕ) → IsTurn in_tag first turn → before_in first d ≡ turn → turn < length first → unbuffers in_tag first d ≡ true
at_turn in_tag first d turn is here within = rw here (go (is_unbuffered in_tag (take (turn + 1) first)) (is_unbuffered in_tag (take turn first)) (is.behind within) is.before)
  where
    go : (a b : Bool) → a ≡ true → b ≡ false → (a && not b) ≡ true
    go a b e g = cc

-- where all directives stand before
pub outside : (in_tag : Bool) (first : List Directive) (d : Directive) → before_in first d ≡ length first → unbuffers in_tag first d ≡ false
outside in_tag first d all =
    ap (λ (ds : List Directive). is_unbuffered in_tag ds && not (is_unbuffered in_tag (take (before_in first d) first))) (take_all (before_in first d + 1) first (omega (arith, all)))
    ∙ (ap (λ (ds : List Directive). is_unbuffered in_tag first && not (is_unbuffered in_tag ds)) (take_all (before_in first d) first (omega (arith, all))) ∙ both_ways (is_unbuffered in_tag first))

before_turn : (in_tag : Bool) (first : List Directive) (d : Directive) (turn : ℕ) → IsTurn in_tag first turn → before_in first d < turn → unbuffers in_tag first d ≡ false
before_turn in_tag first d turn is less = first_false _ _ (not_later in_tag first (before_in first d + 1) turn (omega (arith, less)) is.before)

behind_turn : (in_tag : Bool) (first : List Directive) (d : Directive) (turn : ℕ) → IsTurn in_tag first turn → turn < before_in first d → turn < length first → unbuffers in_tag first d ≡ false
behind_turn in_tag first d turn is more within = second_true _ _ (unbuffered_later in_tag first (turn + 1) (before_in first d) (omega (arith, more)) (is.behind within))

-- a directive before which another number stands
pub elsewhere : (in_tag : Bool) (first : List Directive) (d : Directive) (turn : ℕ) → IsTurn in_tag first turn → (before_in first d == turn) ≡ false → unbuffers in_tag first d ≡ false
elsewhere in_tag first d turn is apart = by_less (ltb (before_in first d) turn) refl
  where
    within : before_in first d ≤ length first
    within = prefix_len-le-length (λ other. not (is_at_same d other)) first

    by_more : (more : Bool) → ltb turn (before_in first d) ≡ more → turn ≤ before_in first d → unbuffers in_tag first d ≡ false
    by_more true e least = let more = ltb-true turn (before_in first d) e in behind_turn in_tag first d turn is more (omega (arith, more, within))
    by_more false e least = let most = ltb-false turn (before_in first d) e in absurd (eqb-false (before_in first d) turn apart (omega (arith, least, most)))

    by_less : (less : Bool) → ltb (before_in first d) turn ≡ less → unbuffers in_tag first d ≡ false
    by_less true e = before_turn in_tag first d turn is (ltb-true (before_in first d) turn e)
    by_less false e = by_more (ltb turn (before_in first d)) refl (ltb-false (before_in first d) turn e)

-- a directive that doesn't stand where the first reading turns
pub apart : (first : List Directive) (d turning : Directive) (turn : ℕ) → turn < length first → turning ≡ get_or first turn turning → is_at_same d turning ≡ false → (before_in first d == turn) ≡ false
apart first d turning turn within is not_same =
    ne_eqb (before_in first d) turn
    (λ same.
    let stops = prefix_len_stops (λ other. not (is_at_same d other)) first turning (subst (λ n. n < length first) (sym same) within) in
    true≢false (sym (ap not not_same) ∙ (ap (λ other. not (is_at_same d other)) (is ∙ ap (λ n. get_or first n turning) (sym same)) ∙ stops)))

-- a first reading that never decides so
pub never : (in_tag : Bool) (first : List Directive) (d : Directive) (turn : ℕ) → IsTurn in_tag first turn → turn ≡ length first → unbuffers in_tag first d ≡ false
never in_tag first d turn is all = by_number (before_in first d == turn) refl
  where
    by_number : (b : Bool) → (before_in first d == turn) ≡ b → unbuffers in_tag first d ≡ false
    by_number true e = outside in_tag first d (eqb-true (before_in first d) turn e ∙ all)
    by_number false e = elsewhere in_tag first d turn is e

pub away : (in_tag : Bool) (first : List Directive) (d turning : Directive) (turn : ℕ) → IsTurn in_tag first turn → turn < length first → turning ≡ get_or first turn turning → is_at_same d turning ≡ false
    → unbuffers in_tag first d ≡ false
away in_tag first d turning turn is within stands not_same = elsewhere in_tag first d turn is (apart first d turning turn within stands not_same)

pub unbuffers_is : (in_tag : Bool) (first : List Directive) (d : Directive) (turn : ℕ) → IsTurn in_tag first turn → turn < length first → (before_in first d == turn) ≡ unbuffers in_tag first d
unbuffers_is in_tag first d turn is within = by_number (before_in first d == turn) refl
  where
    by_number : (b : Bool) → (before_in first d == turn) ≡ b → (before_in first d == turn) ≡ unbuffers in_tag first d
    by_number true e = e ∙ sym (at_turn in_tag first d turn is (eqb-true (before_in first d) turn e) within)
    by_number false e = e ∙ sym (elsewhere in_tag first d turn is e)

-- what is decided, and one more directive
pub decided_still : (in_tag : Bool) (before : List Directive) (d : Directive) (name text : List ℕ) → Some text ≡ decided_by in_tag before name → Some text ≡ decided_by in_tag (before ++ d ∷ []) name
decided_still in_tag before d name text is =
    sym (decided_by-append in_tag before (d ∷ []) name ∙ ap (λ o. or_else o (decided_by in_tag (d ∷ []) name)) (sym is))

pub decided_next : (in_tag : Bool) (before : List Directive) (d : Directive) (name : List ℕ) → None ≡ decided_by in_tag before name → decided_by in_tag (d ∷ []) name ≡ decided_by in_tag (before ++ d ∷ []) name
decided_next in_tag before d name is =
    sym (decided_by-append in_tag before (d ∷ []) name ∙ ap (λ o. or_else o (decided_by in_tag (d ∷ []) name)) (sym is))

-- the directives at the front, with one more
front_one : {X : Type 0} (xs : List X) (i : ℕ) (x : X) → i < length xs → x ≡ get_or xs i x → take (i + 1) xs ≡ take i xs ++ x ∷ []
front_one xs i x within is = ap (λ n. take n xs) (add-one i) ∙ take-suc xs i x within ∙ ap (λ x. take i xs ++ x ∷ []) (sym is)

pub decided_front : (in_tag : Bool) (ds : List Directive) (i : ℕ) (d : Directive) (name : List ℕ) (value : Option (List ℕ)) → i < length ds → d ≡ get_or ds i d
    → value ≡ decided_by in_tag (take i ds ++ d ∷ []) name → value ≡ decided_by in_tag (take (i + 1) ds) name
decided_front in_tag ds i d name value within is stands = stands ∙ ap (λ ds. decided_by in_tag ds name) (sym (front_one ds i d within is))

pub turned : (in_tag : Bool) (ds : List Directive) (buffer auto_flush : Option (List ℕ)) → buffer ≡ decided_by in_tag ds (codes "buffer") → auto_flush ≡ decided_by in_tag ds (codes "autoFlush")
    → is_unbuffered in_tag ds ≡ (is_value (codes "none") buffer && is_value (codes "false") auto_flush)
turned in_tag ds buffer auto_flush b a = (λ j. is_value (codes "none") (sym b j) && is_value (codes "false") (sym a j))
