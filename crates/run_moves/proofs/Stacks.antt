-- A list that is seen from its end.
use Rattle.std.proofs.Common.{◌≡◌, ◌≤◌, ◌<◌, append_assoc, append-nil, ◌-◌, ◌+◌, ℕ, zero, suc, List, [], ◌∷◌, ◌++◌, length, refl, sym, ap, ◌∙◌, arith}
use Rattle.std.specs.Prelude.{take, drop, map, reverse}
use Rattle.std.proofs.Math.Seq.{drop-append-add, take-length}
use Rattle.std.proofs.lemmas.List.{drop-map, length-append, length-drop, map-append, length-map, length-reverse, length-take, reverse-append, reverse-reverse, take-append-drop, take-map}
use Rattle.out_buffer.specs.Writer.{last_of}

take_front : {A : Type 0} (xs ys : List A) → take (length xs) (xs ++ ys) ≡ xs
take_front [] ys = refl
take_front (x ∷ xs) ys = ap (λ z. x ∷ z) (take_front xs ys)

drop_front : {A : Type 0} (xs ys : List A) → drop (length xs) (xs ++ ys) ≡ ys
drop_front [] ys = refl
drop_front (x ∷ xs) ys = drop_front xs ys

-- the list from its end, in two parts
cut_reverse : {A : Type 0} (m : ℕ) (xs : List A) → reverse xs ≡ reverse (drop m xs) ++ reverse (take m xs)
cut_reverse m xs = ap reverse (sym (take-append-drop m xs)) ∙ reverse-append (take m xs) (drop m xs)

pub dropped_end : {A : Type 0} (n : ℕ) (xs : List A) → n ≤ length xs → drop n (reverse xs) ≡ reverse (take (length xs - n) xs)
dropped_end n xs h =
    let m = length xs - n in
    let e : n ≡ length (reverse (drop m xs)) = omega (arith, h, length-reverse (drop m xs), length-drop m xs) in
    ap (drop n) (cut_reverse m xs) ∙ ap (λ k. drop k (reverse (drop m xs) ++ reverse (take m xs))) e ∙ drop_front (reverse (drop m xs)) (reverse (take m xs))

pub taken_end : {A : Type 0} (n : ℕ) (xs : List A) → n ≤ length xs → take n (reverse xs) ≡ reverse (drop (length xs - n) xs)
taken_end n xs h =
    let m = length xs - n in
    let e : n ≡ length (reverse (drop m xs)) = omega (arith, h, length-reverse (drop m xs), length-drop m xs) in
    ap (take n) (cut_reverse m xs) ∙ ap (λ k. take k (reverse (drop m xs) ++ reverse (take m xs))) e ∙ take_front (reverse (drop m xs)) (reverse (take m xs))

take_nothing : {A : Type 0} (k : ℕ) → take {A = A} k [] ≡ []
take_nothing zero = refl
take_nothing (suc k) = refl

-- the first so many, seen from the end, are the last so many
take_less : {A : Type 0} (n : ℕ) (xs : List A) → take (length xs - (length xs - n)) xs ≡ take n xs
take_less zero xs = let e : length xs - (length xs - zero) ≡ zero = omega arith in ap (λ k. take k xs) e
take_less {A} (suc n) [] = take_nothing (length {A = A} [] - (length {A = A} [] - suc n))
take_less (suc n) (x ∷ xs) =
    let e : length (x ∷ xs) - (length (x ∷ xs) - suc n) ≡ suc (length xs - (length xs - n)) = omega arith in
    ap (λ k. take k (x ∷ xs)) e ∙ ap (λ z. x ∷ z) (take_less n xs)

pub cut_end : {A : Type 0} (n : ℕ) (xs : List A) → reverse (take n xs) ≡ last_of n (reverse xs)
cut_end n xs =
    let e : length (reverse xs) ≡ length xs = length-reverse xs in
    ap reverse (sym (take_less n xs)) ∙ sym (dropped_end (length xs - n) xs (omega arith)) ∙ ap (λ k. drop (k - n) (reverse xs)) (sym e)

pub cut_seen : {A B : Type 0} (f : A → B) (n : ℕ) (xs : List A) → reverse (map f (take n xs)) ≡ last_of n (reverse (map f xs))
cut_seen f n xs = ap reverse (sym (take-map f n xs)) ∙ cut_end n (map f xs)

-- without so many of the last
pub dropped_seen : {A B : Type 0} (f : A → B) (n : ℕ) (xs : List A) → n ≤ length xs → reverse (map f (take (length xs - n) xs)) ≡ drop n (reverse (map f xs))
dropped_seen f n xs h =
    let e : length (map f xs) ≡ length xs = length-map xs f in
    ap reverse (sym (take-map f (length xs - n) xs)) ∙ ap (λ k. reverse (take (k - n) (map f xs))) (sym e) ∙ sym (dropped_end n (map f xs) (omega (arith, h, e)))

-- so many of the last, in their order
pub top_seen : {A B : Type 0} (f : A → B) (n : ℕ) (xs : List A) → n ≤ length xs → map f (drop (length xs - n) xs) ≡ reverse (take n (reverse (map f xs)))
top_seen f n xs h =
    let e : length (map f xs) ≡ length xs = length-map xs f in
    sym (drop-map f (length xs - n) xs) ∙ ap (λ k. drop (k - n) (map f xs)) (sym e) ∙ sym (reverse-reverse (drop (length (map f xs) - n) (map f xs)))
    ∙ ap reverse (sym (taken_end n (map f xs) (omega (arith, h, e))))

-- the same of a slice that is lent
whole_end : {A : Type 0} (k : ℕ) (xs : List A) → take (length xs - k) (drop k xs) ≡ drop k xs
whole_end k xs = ap (λ n. take n (drop k xs)) (sym (length-drop k xs)) ∙ take-length (drop k xs)

enough_for : {A B : Type 0} (f : A → B) (xs : List A) (seen : List B) (count : ℕ) → reverse (map f xs) ≡ seen → count ≤ length seen → count ≤ length xs
enough_for f xs seen count e h = omega (arith, h, ap length e, length-reverse (map f xs), length-map xs f)

pub top_of : {A B : Type 0} (f : A → B) (xs lent : List A) (seen : List B) (len count : ℕ) → reverse (map f xs) ≡ seen → lent ≡ xs → len ≡ length xs → count ≤ length seen
    → map f (take (length lent - (len - count)) (drop (len - count) lent)) ≡ reverse (take count seen)
top_of f xs lent seen len count e lends counted h =
    ap (λ z. map f (take (length z - (len - count)) (drop (len - count) z))) lends
    ∙ ap (λ n. map f (take (length xs - (n - count)) (drop (n - count) xs))) counted
    ∙ ap (map f) (whole_end (length xs - count) xs)
    ∙ top_seen f count xs (enough_for f xs seen count e h)
    ∙ ap (λ z. reverse (take count z)) e

pub dropped_of : {A B : Type 0} (f : A → B) (xs : List A) (seen : List B) (len count : ℕ) → reverse (map f xs) ≡ seen → len ≡ length xs → count ≤ length seen
    → reverse (map f (take (len - count) xs)) ≡ drop count seen
dropped_of f xs seen len count e counted h =
    ap (λ n. reverse (map f (take (n - count) xs))) counted ∙ dropped_seen f count xs (enough_for f xs seen count e h) ∙ ap (drop count) e

-- a value that is brought to the end, seen from there
lifted : {A : Type 0} (a : List A) (v : A) (b : List A)
    → reverse (a ++ (b ++ v ∷ [])) ≡ take 1 (drop (length b) (reverse (a ++ v ∷ b))) ++ take (length b) (reverse (a ++ v ∷ b)) ++ drop (length b + 1) (reverse (a ++ v ∷ b))
lifted {A} a v b =
    let n : length b ≡ length (reverse b) = sym (length-reverse b) in
    let e : reverse (a ++ v ∷ b) ≡ reverse b ++ v ∷ reverse a =
    reverse-append a (v ∷ b) ∙ ap (λ z. z ++ reverse a) (reverse-append (v ∷ []) b) ∙ append_assoc (reverse b) (v ∷ []) (reverse a) in
    let P : List A → ℕ → List A = λ z k. take 1 (drop k z) ++ take k z ++ drop (k + 1) z in
    let front : take 1 (drop (length (reverse b)) (reverse b ++ v ∷ reverse a)) ≡ v ∷ [] = ap (take 1) (drop_front (reverse b) (v ∷ reverse a)) in
    let mid : take (length (reverse b)) (reverse b ++ v ∷ reverse a) ≡ reverse b = take_front (reverse b) (v ∷ reverse a) in
    let end : drop (length (reverse b) + 1) (reverse b ++ v ∷ reverse a) ≡ reverse a = drop-append-add (reverse b) (v ∷ reverse a) 1 in
    reverse-append a (b ++ v ∷ []) ∙ ap (λ z. z ++ reverse a) (reverse-append b (v ∷ []))
    ∙ sym
    (ap (λ z. P z (length b)) e ∙ ap (P (reverse b ++ v ∷ reverse a)) n
    ∙ ap (λ z. z ++ take (length (reverse b)) (reverse b ++ v ∷ reverse a) ++ drop (length (reverse b) + 1) (reverse b ++ v ∷ reverse a)) front
    ∙ ap (λ z. v ∷ [] ++ z ++ drop (length (reverse b) + 1) (reverse b ++ v ∷ reverse a)) mid ∙ ap (λ z. v ∷ [] ++ reverse b ++ z) end)

-- a list around the value at a place
record Cut {A : Type 0} (k : ℕ) (xs : List A) : Type 0 where
  before : List A
  value : A
  behind : List A
  joined : xs ≡ before ++ value ∷ behind
  counted : length before ≡ k

cut_at : {A : Type 0} (k : ℕ) (xs : List A) → k < length xs → Cut k xs
cut_at k [] h = absurd (omega (arith, h))
cut_at zero (x ∷ xs) h = record { before = []; value = x; behind = xs; joined = refl; counted = refl }
cut_at (suc k) (x ∷ xs) h =
    let c = cut_at k xs (omega (arith, h)) in
    record { before = x ∷ c.before; value = c.value; behind = c.behind; joined = ap (λ z. x ∷ z) c.joined; counted = ap suc c.counted }

-- what is left when the part from a place on is turned by one
turned_at : {A : Type 0} (k m : ℕ) (xs : List A) → List A
turned_at k m xs = take k xs ++ ((drop 1 (take m (drop k xs)) ++ take 1 (take m (drop k xs))) ++ drop m (drop k xs))

turned_is : {A : Type 0} (a : List A) (v : A) (b : List A) → turned_at (length a) (length (v ∷ b)) (a ++ v ∷ b) ≡ a ++ (b ++ v ∷ [])
unfolding turned_at
turned_is {A} a v b =
    let rest : drop (length a) (a ++ v ∷ b) ≡ v ∷ b = drop_front a (v ∷ b) in
    let whole : take (length (v ∷ b)) (v ∷ b) ≡ v ∷ b = take-length (v ∷ b) in
    let none : drop (length (v ∷ b)) (v ∷ b) ≡ [] = ap (drop (length (v ∷ b))) (sym (append-nil (v ∷ b))) ∙ drop_front (v ∷ b) [] in
    ap (λ z. z ++ ((drop 1 (take (length (v ∷ b)) (drop (length a) (a ++ v ∷ b))) ++ take 1 (take (length (v ∷ b)) (drop (length a) (a ++ v ∷ b)))) ++ drop (length (v ∷ b)) (drop (length a) (a ++ v ∷ b))))
    (take_front a (v ∷ b))
    ∙ ap (λ z. a ++ ((drop 1 (take (length (v ∷ b)) z) ++ take 1 (take (length (v ∷ b)) z)) ++ drop (length (v ∷ b)) z)) rest
    ∙ ap (λ z. a ++ ((drop 1 z ++ take 1 z) ++ drop (length (v ∷ b)) (v ∷ b))) whole
    ∙ ap (λ z. a ++ ((b ++ v ∷ []) ++ z)) none
    ∙ ap (λ z. a ++ z) (append-nil (b ++ v ∷ []))

-- it is as long as before
pub turned_size : {A : Type 0} (lent rotated : List A) (k : ℕ) → k ≤ length lent → length rotated ≡ length (take (length lent - k) (drop k lent))
    → length (take k lent ++ (rotated ++ drop (length lent - k) (drop k lent))) ≡ length lent
turned_size lent rotated k h e =
    omega (
      arith,
      h,
      e,
      length-append (take k lent) (rotated ++ drop (length lent - k) (drop k lent)),
      length-append rotated (drop (length lent - k) (drop k lent)),
      length-take k lent,
      length-take (length lent - k) (drop k lent),
      length-drop k lent,
      length-drop (length lent - k) (drop k lent),
    )

pub brought_of : {A B : Type 0} (f : A → B) (xs lent rotated : List A) (seen : List B) (len above : ℕ) → reverse (map f xs) ≡ seen → lent ≡ xs → len ≡ length xs → above < length seen
    → rotated ≡ drop 1 (take (length lent - (len - 1 - above)) (drop (len - 1 - above) lent)) ++ take 1 (take (length lent - (len - 1 - above)) (drop (len - 1 - above) lent))
    → reverse (map f (take (len - 1 - above) lent ++ (rotated ++ drop (length lent - (len - 1 - above)) (drop (len - 1 - above) lent))))
    ≡ take 1 (drop above seen) ++ take above seen ++ drop (above + 1) seen
unfolding turned_at
brought_of {A} {B} f xs lent rotated seen len above e lends counted h turns =
    let low : above < length xs = omega (arith, h, ap length e, length-reverse (map f xs), length-map xs f) in
    let k : ℕ = len - 1 - above in
    let c = cut_at k xs (omega (arith, low, counted)) in
    let a = c.before in
    let v = c.value in
    let b = c.behind in
    let size : length xs ≡ length a + length (v ∷ b) = ap length c.joined ∙ length-append a (v ∷ b) in
    let same : length b ≡ above = omega (arith, size, c.counted, counted, low) in
    let more : length lent - k ≡ length (v ∷ b) = omega (arith, ap length lends, size, c.counted, counted, low) in
    let P : List B → ℕ → List B = λ z n. take 1 (drop n z) ++ take n z ++ drop (n + 1) z in
    ap (λ z. reverse (map f (take k lent ++ (z ++ drop (length lent - k) (drop k lent))))) turns
    ∙ ap (λ m. reverse (map f (turned_at k m lent))) more
    ∙ ap (λ z. reverse (map f (turned_at k (length (v ∷ b)) z))) (lends ∙ c.joined)
    ∙ ap (λ n. reverse (map f (turned_at n (length (v ∷ b)) (a ++ v ∷ b)))) (sym c.counted)
    ∙ ap (λ z. reverse (map f z)) (turned_is a v b)
    ∙ ap reverse (map-append f a (b ++ v ∷ []) ∙ ap (λ z. map f a ++ z) (map-append f b (v ∷ [])))
    ∙ lifted (map f a) (f v) (map f b)
    ∙ ap (P (reverse (map f a ++ f v ∷ map f b))) (length-map b f ∙ same)
    ∙ ap (λ z. P (reverse z) above) (sym (map-append f a (v ∷ b)))
    ∙ ap (λ z. P (reverse (map f z)) above) (sym c.joined)
    ∙ ap (λ z. P z above) e
