-- Parts of one kind that are read one behind the other.
use Rattle.std.proofs.Common.{◌≡◌, ◌<◌, ℕ, zero, suc, ◌+◌, List, [], ◌∷◌, ◌++◌, length, refl, sym, ap, subst, ◌∙◌, append-nil, arith, Option, Some, None, Ok, Err}
use Rattle.std.proofs.lemmas.List.{length-append}
use Rattle.std.proofs.lemmas.Grind.{flat_map-append}
use Rattle.std.specs.Prelude.{IfSome, flat_map, ⊤}
use Rattle.edges.proofs.ToldBytes.{consumes_none}
use Rattle.journal_reader.proofs.Parts.{GoesOn, both_read, second_memory, second_stops}
use Rattle.journal_reader.specs.Reads.{AreSo, BeginOnlyWith, Reads}
use Rattle.journal_reader.specs.declared.unread.Unread.{Unread}
use Rattle.pg_text.specs.declared.failure.Failure.{Failure}
use Rattle.pg_text.specs.declared.failure.Failure.TheVariants.{NoMemory}
use Rattle.site_words.specs.Trees.{Each}

-- the item at a place, with those before and behind it
record Split {A : Type 0} (P : A → Type 0) (i : ℕ) (xs : List A) : Type 0 where
  front : List A
  item : A
  back : List A
  is : xs ≡ front ++ item ∷ back
  count : length front ≡ i
  before : Each P front
  here : P item
  behind : Each P back

split : {A : Type 0} (P : A → Type 0) (i : ℕ) (xs : List A) → i < length xs → Each P xs → Split P i xs
split P i [] within each = absurd (omega (arith, within))
split P zero (x ∷ xs) within each = record { front = []; item = x; back = xs; is = refl; count = refl; before = tt; here = each.0; behind = each.1 }
split P (suc i) (x ∷ xs) within each =
    let r = split P i xs (omega (arith, within)) each.1 in
    record { front = x ∷ r.front; item = r.item; back = r.back; is = ap (λ z. x ∷ z) r.is; count = ap suc r.count; before = (each.0, r.before); here = r.here; behind = r.behind }

pub each_push : {A : Type 0} (P : A → Type 0) (xs : List A) (x : A) → Each P xs → P x → Each P (xs ++ x ∷ [])
each_push P [] x each is = (is, tt)
each_push P (y ∷ xs) x each is = (each.0, each_push P xs x each.1 is)

module _ {A : Type 0} (P : A → Type 0) (f : A → List ℕ) where
  flat_push : (xs : List A) (x : A) → flat_map f (xs ++ x ∷ []) ≡ flat_map f xs ++ f x
  flat_push xs x = flat_map-append f xs (x ∷ []) ∙ ap (λ t. flat_map f xs ++ t) (append-nil (f x))

  no_item : (y : List A) → AreSo 0 P y → y ≡ []
  no_item [] is = refl
  no_item (x ∷ y) is = absurd (omega (arith, is.0))

  none_only : (left : Option (List ℕ)) → IfSome left (BeginOnlyWith (AreSo 0 P) (flat_map f) (λ y. y ≡ []))
  none_only None = tt
  none_only (Some bytes) = λ y s is at. no_item y is

  -- no item was read yet
  pub none_read : (left : Option (List ℕ)) (room before : ℕ) → Reads (AreSo 0 P) (flat_map f) left left room room before before (Ok [])
  none_read left room before = record {
    answered = record { is = (refl, tt); consumed = consumes_none left; counted = omega arith; only = none_only left };
    took = ([], consumes_none left);
    counted = omega arith;
  }

  spread : (xs : List A) (i : ℕ) (r : Split P i xs) → flat_map f xs ≡ flat_map f r.front ++ (f r.item ++ flat_map f r.back)
  spread xs i r = ap (flat_map f) r.is ∙ flat_map-append f r.front (r.item ∷ r.back)

  goes : (i n : ℕ) (done : List A) → i < n → GoesOn (AreSo i P) (flat_map f) P f (AreSo n P) (flat_map f) done (λ y x u. ⊤)
  goes i n done below y is =
      let r = split P i y (omega (arith, below, is.0)) is.1 in
      (r.front, f r.item ++ flat_map f r.back, (r.count, r.before), spread y i r, λ same. (r.item, flat_map f r.back, r.here, refl, tt))

  alone : (i : ℕ) (y front back : List A) (item : A) → length y ≡ i + 1 → y ≡ front ++ item ∷ back → length front ≡ i → y ≡ front ++ item ∷ []
  alone i y front [] item count is front_count = is
  alone i y front (b ∷ back) item count is front_count = absurd (omega (arith, count, front_count, ap length is, length-append front (item ∷ b ∷ back)))

  goes_last : (i : ℕ) (done : List A) (x0 : A) → GoesOn (AreSo i P) (flat_map f) P f (AreSo (i + 1) P) (flat_map f) done (λ y x u. x ≡ x0 → y ≡ done ++ x0 ∷ [])
  goes_last i done x0 y is =
      let r = split P i y (omega (arith, is.0)) is.1 in (
        r.front,
        f r.item ++ flat_map f r.back,
        (r.count, r.before),
        spread y i r,
        λ same. (r.item, flat_map f r.back, r.here, refl, λ last. alone i y r.front r.back r.item is.0 r.is r.count ∙ ap (λ z. z ++ r.item ∷ []) same ∙ ap (λ z. done ++ z ∷ []) last),
      )

  -- one item more
  pub next_read : {left mid later : Option (List ℕ)} {room half rest before between now : ℕ} {done : List A} {x : A} (i : ℕ)
      → Reads (AreSo i P) (flat_map f) left mid room half before between (Ok done) → Reads P f mid later half rest between now (Ok x)
      → Reads (AreSo (i + 1) P) (flat_map f) left later room rest before now (Ok (done ++ x ∷ []))
  next_read {done = done} {x = x} i first second =
      let is = first.answered.is in
      let count : length (done ++ x ∷ []) ≡ i + 1 = length-append done (x ∷ []) ∙ ap (λ n. n + 1) is.0 in
      both_read (AreSo i P) (flat_map f) P f (AreSo (i + 1) P) (flat_map f) (count, each_push P done x is.1 second.answered.is) (flat_push done x) (goes_last i done x) first second

  -- what stops the next item stops the list
  pub next_stops : {left mid later : Option (List ℕ)} {room half rest before between now : ℕ} {done : List A} {failure : Failure Unread} (i n : ℕ) → i < n
      → Reads (AreSo i P) (flat_map f) left mid room half before between (Ok done) → Reads P f mid later half rest between now (Err failure) → Reads (AreSo n P) (flat_map f) left later room rest before now (Err failure)
  next_stops {done = done} i n below first second = second_stops (AreSo i P) (flat_map f) P f (AreSo n P) (flat_map f) (goes i n done below) first second

  pub next_memory : {left mid later : Option (List ℕ)} {room half rest before between now : ℕ} {done : List A} {x : A} (i n : ℕ)
      → Reads (AreSo i P) (flat_map f) left mid room half before between (Ok done) → Reads P f mid later half rest between now (Ok x) → Reads (AreSo n P) (flat_map f) left later room rest before now (Err NoMemory)
  next_memory i n first second = second_memory (AreSo i P) (flat_map f) P f (AreSo n P) (flat_map f) first second

  -- the items that were read are all
  pub all_read : {left later : Option (List ℕ)} {room rest before now : ℕ} {done : List A} (i n : ℕ) → i ≡ n
      → Reads (AreSo i P) (flat_map f) left later room rest before now (Ok done) → Reads (AreSo n P) (flat_map f) left later room rest before now (Ok done)
  all_read {left = left} {later = later} {room = room} {rest = rest} {before = before} {now = now} {done = done} i n same first =
      subst (λ m. Reads (AreSo m P) (flat_map f) left later room rest before now (Ok done)) same first

  -- the list with one item more
  pub next_kept : {left mid later : Option (List ℕ)} {room half rest before between now : ℕ} {done : List A} {x : A} (new : List A) → new ≡ done ++ x ∷ []
      → Reads (AreSo (length done) P) (flat_map f) left mid room half before between (Ok done) → Reads P f mid later half rest between now (Ok x) → Reads (AreSo (length new) P) (flat_map f) left later room rest before now (Ok new)
  next_kept {left = left} {later = later} {room = room} {rest = rest} {before = before} {now = now} {done = done} {x = x} new is first second =
      subst (λ xs. Reads (AreSo (length xs) P) (flat_map f) left later room rest before now (Ok xs)) (sym is)
      (all_read (length done + 1) (length (done ++ x ∷ [])) (sym (length-append done (x ∷ []))) (next_read (length done) first second))

  -- where memory for the next item ran out
  pub next_wants : {left mid later : Option (List ℕ)} {room half rest before between now : ℕ} {done : List A} {x : A} {failure : Failure Unread} (i n : ℕ) → failure ≡ NoMemory
      → Reads (AreSo i P) (flat_map f) left mid room half before between (Ok done) → Reads P f mid later half rest between now (Ok x) → Reads (AreSo n P) (flat_map f) left later room rest before now (Err failure)
  next_wants {left = left} {later = later} {room = room} {rest = rest} {before = before} {now = now} i n is first second =
      subst (λ e. Reads (AreSo n P) (flat_map f) left later room rest before now (Err e)) (sym is) (next_memory i n first second)
