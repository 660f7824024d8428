-- Parts that are read one behind the other.
use Rattle.std.proofs.Common.{◌≡◌, ◌≤◌, ◌<◌, ℕ, ◌+◌, List, ◌++◌, length, refl, sym, ap, subst, ◌∙◌, append_assoc, arith, Option, Some, None, Ok, Err}
use Rattle.std.proofs.lemmas.List.{length-append}
use Rattle.std.specs.Prelude.{IfSome, IsErrAnd, Result, ⊤}
use Rattle.std.proofs.lemmas.Result.{err_from_is_err_and}
use Rattle.std.specs.Io.KnownBytes.{Consumes}
use Rattle.edges.proofs.ToldBytes.{consumes_both}
use Rattle.journal_reader.specs.Reads.{BeginOnlyWith, HasRead, Reads, Stopped}
use Rattle.journal_reader.specs.declared.unread.Unread.{Unread}
use Rattle.journal_reader.specs.declared.unread.Unread.TheVariants.{Failed, NotThere, TooLong}
use Rattle.pg_text.specs.declared.failure.Failure.{Failure}
use Rattle.pg_text.specs.declared.failure.Failure.TheVariants.{Fault, NoMemory}
use Rattle.site_journal.proofs.Apart.{fronts_same}

-- what a front leaves is one thing
pub same_rest : (x s t : List ℕ) → x ++ s ≡ x ++ t → s ≡ t
same_rest x s t e = (fronts_same x x s t refl e).1

-- bytes that begin with both parts go on with the second behind the first
behind : (bytes more x y s : List ℕ) → bytes ≡ x ++ more → bytes ≡ (x ++ y) ++ s → more ≡ y ++ s
behind bytes more x y s is both = same_rest x more (y ++ s) (sym is ∙ both ∙ append_assoc x y s)

module _ {A B : Type 0} (I : A → Type 0) (k : A → List ℕ) (Q : B → Type 0) (g : B → List ℕ) where
  -- each such thing begins with one that the first call reads
  abbrev pub Opens : Type 0
  Opens = (y : B) → Q y → (a : A) × (t : List ℕ) × I a × (g y ≡ k a ++ t)

  -- and each is this one where that is this one
  abbrev pub OpensAs : A → (B → Type 0) → Type 0
  OpensAs a0 Such = (y : B) → Q y → (a : A) × (t : List ℕ) × I a × (g y ≡ k a ++ t) × (a ≡ a0 → Such y)

  far : (bytes : List ℕ) (C : ℕ → Type 0) → ((m n : ℕ) → C m → C (m + n)) → Opens → BeginOnlyWith I k (λ a. C (length (k a))) bytes → BeginOnlyWith Q g (λ y. C (length (g y))) bytes
  far bytes C more opens only y s is at =
      let o = opens y is in
      let longer : length (g y) ≡ length (k o.0) + length o.1 = ap length o.3 ∙ length-append (k o.0) o.1 in
      subst C (sym longer) (more (length (k o.0)) (length o.1) (only o.0 (o.1 ++ s) o.2 (at ∙ ap (λ z. z ++ s) o.3 ∙ append_assoc (k o.0) o.1 s)))

  pub stopped_first : (left : Option (List ℕ)) (room before now : ℕ) (failure : Failure Unread) → Opens → Stopped I k left room before now failure → Stopped Q g left room before now failure
  stopped_first None room before now (Fault NotThere) opens was = tt
  stopped_first (Some bytes) room before now (Fault NotThere) opens was = far bytes (λ _. ⊥) (λ m n no. no) opens was
  stopped_first None room before now (Fault TooLong) opens was = tt
  stopped_first (Some bytes) room before now (Fault TooLong) opens was = (was.0, far bytes (λ n. room < n) (λ m n below. omega (arith, below)) opens was.1)
  stopped_first left room before now (Fault Failed) opens was = was
  stopped_first left room before now NoMemory opens was = tt

  -- what stops the first call stops the whole
  pub first_stops : {left later : Option (List ℕ)} {room rest before now : ℕ} {failure : Failure Unread} → Opens → Reads I k left later room rest before now (Err failure) → Reads Q g left later room rest before now (Err failure)
  first_stops {left = left} {room = room} {before = before} {now = now} {failure = failure} opens was = record {
    answered = stopped_first left room before now failure opens was.answered;
    took = was.took;
    counted = was.counted;
  }

  -- memory may run out
  pub memory_stops : {left later : Option (List ℕ)} {room rest before now : ℕ} {result : Result A (Failure Unread)} → Reads I k left later room rest before now result → Reads Q g left later room rest before now (Err NoMemory)
  memory_stops was = record { answered = tt; took = was.took; counted = was.counted }

  none_is : (left later : Option (List ℕ)) (room rest : ℕ) (a0 : A) (Such : B → Type 0) → OpensAs a0 Such → HasRead I k left later room rest a0 → IfSome left (BeginOnlyWith Q g Such)
  none_is None later room rest a0 Such opens was = tt
  none_is (Some bytes) later room rest a0 Such opens was = λ y s is at.
      let o = opens y is in
      o.4 (was.only o.0 (o.1 ++ s) o.2 (at ∙ ap (λ z. z ++ s) o.3 ∙ append_assoc (k o.0) o.1 s))

  -- what was read is no such thing
  pub refuses : {left later : Option (List ℕ)} {room rest before now : ℕ} {a0 : A} → OpensAs a0 (λ y. ⊥) → Reads I k left later room rest before now (Ok a0) → Reads Q g left later room rest before now (Err (Fault NotThere))
  refuses {left = left} {later = later} {room = room} {rest = rest} {a0 = a0} opens was = record {
    answered = none_is left later room rest a0 (λ y. ⊥) opens was.answered;
    took = was.took;
    counted = was.counted;
  }

  -- what was read is this
  pub stands_for : {left later : Option (List ℕ)} {room rest before now : ℕ} {a0 : A} {b : B} → Q b → g b ≡ k a0 → OpensAs a0 (λ y. y ≡ b) → Reads I k left later room rest before now (Ok a0) → Reads Q g left later room rest before now (Ok b)
  stands_for {left = left} {later = later} {room = room} {rest = rest} {a0 = a0} {b = b} is same opens was = record {
    answered = record {
      is = is;
      consumed = subst (λ t. Consumes left later t) (sym same) was.answered.consumed;
      counted = was.answered.counted ∙ ap (λ t. rest + length t) (sym same);
      only = none_is left later room rest a0 (λ y. y ≡ b) opens was.answered;
    };
    took = was.took;
    counted = was.counted;
  }

-- a failure that is handed on
pub passed : {A : Type 0} {Is : A → Type 0} {of : A → List ℕ} {left later : Option (List ℕ)} {room rest before now : ℕ} {failure : Failure Unread} (r : Result A (Failure Unread)) → IsErrAnd r (λ y. y ≡ failure)
    → Reads Is of left later room rest before now (Err failure) → Reads Is of left later room rest before now r
passed {Is = Is} {of = of} {left = left} {later = later} {room = room} {rest = rest} {before = before} {now = now} r is was =
    let p = err_from_is_err_and r is in subst (λ q. Reads Is of left later room rest before now q) (sym (p.1 ∙ ap Err p.2)) was

-- one behind the other
module _ {A B C : Type 0} (I : A → Type 0) (k : A → List ℕ) (P : C → Type 0) (f : C → List ℕ) (Q : B → Type 0) (g : B → List ℕ) where
  -- where the first part of such a thing is this one, one that the second call reads stands behind it
  abbrev pub GoesOn : A → (B → C → List ℕ → Type 0) → Type 0
  GoesOn a0 Such = (y : B) → Q y → (a : A) × (t : List ℕ) × I a × (g y ≡ k a ++ t) × (a ≡ a0 → (x : C) × (u : List ℕ) × P x × (t ≡ f x ++ u) × Such y x u)

  ahead : (bytes more : List ℕ) (room rest half : ℕ) (a0 : A) (Such : B → C → List ℕ → Type 0) (D : C → Type 0) → GoesOn a0 Such → HasRead I k (Some bytes) (Some more) room half a0 → BeginOnlyWith P f D more
      → (y : B) (s : List ℕ) → Q y → bytes ≡ g y ++ s → (x : C) × (u : List ℕ) × D x × (g y ≡ k a0 ++ (f x ++ u)) × Such y x u
  ahead bytes more room rest half a0 Such D goes first only y s is at =
      let o = goes y is in
      let whole : bytes ≡ k o.0 ++ (o.1 ++ s) = at ∙ ap (λ z. z ++ s) o.3 ∙ append_assoc (k o.0) o.1 s in
      let same = first.only o.0 (o.1 ++ s) o.2 whole in
      let n = o.4 same in
      let rests : more ≡ o.1 ++ s = same_rest (k a0) more (o.1 ++ s) (sym first.consumed ∙ whole ∙ ap (λ a. k a ++ (o.1 ++ s)) same) in
      let there : more ≡ f n.0 ++ (n.1 ++ s) = rests ∙ ap (λ z. z ++ s) n.3 ∙ append_assoc (f n.0) n.1 s in
      (n.0, n.1, only n.0 (n.1 ++ s) n.2 there, o.3 ∙ ap (λ a. k a ++ o.1) same ∙ ap (λ z. k a0 ++ z) n.3, n.4)

  stopped_second : (left mid : Option (List ℕ)) (room half before between now : ℕ) (a0 : A) (failure : Failure Unread) → GoesOn a0 (λ y x u. ⊤) → before ≤ between → HasRead I k left mid room half a0 → Stopped P f mid half between now failure
      → Stopped Q g left room before now failure
  stopped_second None mid room half before between now a0 (Fault NotThere) goes le first was = tt
  stopped_second (Some bytes) None room half before between now a0 (Fault NotThere) goes le first was = absurd first.consumed
  stopped_second (Some bytes) (Some more) room half before between now a0 (Fault NotThere) goes le first was = λ y s is at.
      (ahead bytes more room half half a0 (λ y x u. ⊤) (λ x. ⊥) goes first was y s is at).2
  stopped_second None mid room half before between now a0 (Fault TooLong) goes le first was = tt
  stopped_second (Some bytes) None room half before between now a0 (Fault TooLong) goes le first was = absurd first.consumed
  stopped_second (Some bytes) (Some more) room half before between now a0 (Fault TooLong) goes le first was =
      let counted = first.counted in
      let longer : length bytes ≡ length (k a0) + length more = ap length first.consumed ∙ length-append (k a0) more in
      let all : half < length more = was.0 in (
        omega (arith, counted, longer, all),
        λ y s is at.
            let n = ahead bytes more room half half a0 (λ y x u. ⊤) (λ x. half < length (f x)) goes first was.1 y s is at in
            let size : length (g y) ≡ length (k a0) + (length (f n.0) + length n.1) = ap length n.3 ∙ length-append (k a0) (f n.0 ++ n.1) ∙ ap (λ m. length (k a0) + m) (length-append (f n.0) n.1) in
            let below : half < length (f n.0) = n.2 in
            omega (arith, counted, size, below),
      )
  stopped_second left mid room half before between now a0 (Fault Failed) goes le first was = omega (arith, le, was)
  stopped_second left mid room half before between now a0 NoMemory goes le first was = tt

  -- what stops the second call stops the whole
  pub second_stops : {left mid later : Option (List ℕ)} {room half rest before between now : ℕ} {a0 : A} {failure : Failure Unread} → GoesOn a0 (λ y x u. ⊤)
      → Reads I k left mid room half before between (Ok a0) → Reads P f mid later half rest between now (Err failure) → Reads Q g left later room rest before now (Err failure)
  second_stops {left = left} {mid = mid} {later = later} {room = room} {half = half} {before = before} {between = between} {now = now} {a0 = a0} {failure = failure} goes first second = record {
    answered = stopped_second left mid room half before between now a0 failure goes first.counted first.answered second.answered;
    took = (k a0 ++ second.took.0, consumes_both left mid later (k a0) second.took.0 first.answered.consumed second.took.1);
    counted = omega (arith, first.counted, second.counted);
  }

  pub second_memory : {left mid later : Option (List ℕ)} {room half rest before between now : ℕ} {a0 : A} {x0 : C}
      → Reads I k left mid room half before between (Ok a0) → Reads P f mid later half rest between now (Ok x0) → Reads Q g left later room rest before now (Err NoMemory)
  second_memory {left = left} {mid = mid} {later = later} {a0 = a0} first second = record {
    answered = tt;
    took = (k a0 ++ second.took.0, consumes_both left mid later (k a0) second.took.0 first.answered.consumed second.took.1);
    counted = omega (arith, first.counted, second.counted);
  }

  is_only : (left mid later : Option (List ℕ)) (room half rest : ℕ) (a0 : A) (x0 : C) (b : B) → GoesOn a0 (λ y x u. x ≡ x0 → y ≡ b) → HasRead I k left mid room half a0 → HasRead P f mid later half rest x0 → IfSome left (BeginOnlyWith Q g (λ y. y ≡ b))
  is_only None mid later room half rest a0 x0 b goes first second = tt
  is_only (Some bytes) None later room half rest a0 x0 b goes first second = absurd first.consumed
  is_only (Some bytes) (Some more) later room half rest a0 x0 b goes first second = λ y s is at.
      let n = ahead bytes more room rest half a0 (λ y x u. x ≡ x0 → y ≡ b) (λ x. x ≡ x0) goes first second.only y s is at in n.4 n.2

  -- both were read, and this is what they make
  pub both_read : {left mid later : Option (List ℕ)} {room half rest before between now : ℕ} {a0 : A} {x0 : C} {b : B} → Q b → g b ≡ k a0 ++ f x0 → GoesOn a0 (λ y x u. x ≡ x0 → y ≡ b)
      → Reads I k left mid room half before between (Ok a0) → Reads P f mid later half rest between now (Ok x0) → Reads Q g left later room rest before now (Ok b)
  both_read {left = left} {mid = mid} {later = later} {room = room} {half = half} {rest = rest} {a0 = a0} {x0 = x0} {b = b} is same goes first second = record {
    answered = record {
      is = is;
      consumed = subst (λ t. Consumes left later t) (sym same) (consumes_both left mid later (k a0) (f x0) first.answered.consumed second.answered.consumed);
      counted = sizes;
      only = is_only left mid later room half rest a0 x0 b goes first.answered second.answered;
    };
    took = (k a0 ++ f x0, consumes_both left mid later (k a0) (f x0) first.answered.consumed second.answered.consumed);
    counted = omega (arith, first.counted, second.counted);
  }
    where
      sizes : room ≡ rest + length (g b)
      sizes =
          let size : length (g b) ≡ length (k a0) + length (f x0) = ap length same ∙ length-append (k a0) (f x0) in
          let one : room ≡ half + length (k a0) = first.answered.counted in
          let other : half ≡ rest + length (f x0) = second.answered.counted in
          omega (arith, size, one, other)
