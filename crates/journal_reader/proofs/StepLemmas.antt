-- Steps by which a value is read: one behind the other, and what stops them.
use Rattle.std.proofs.Common.{◌≡◌, ◌≤◌, ◌<◌, ℕ, ◌+◌, List, [], ◌++◌, length, refl, sym, ap, subst, ◌∙◌, append_assoc, arith, Option, Some, None, Ok, Err}
use Rattle.std.proofs.lemmas.List.{length-append}
use Rattle.std.specs.Prelude.{IsErrAnd, Result}
use Rattle.std.proofs.lemmas.Result.{err_from_is_err_and}
use Rattle.edges.proofs.ToldBytes.{consumes_both, consumes_none}
use Rattle.journal_reader.proofs.Parts.{first_stops, same_rest}
use Rattle.journal_reader.specs.Frames.{Both, IsMade, ReadsOn, Steps, text_of}
use Rattle.journal_reader.specs.Reads.{BeginOnlyWith, Reads, Stopped}
use Rattle.journal_reader.specs.declared.unread.Unread.{Unread}
use Rattle.journal_reader.specs.declared.unread.Unread.TheVariants.{Failed, NotThere, TooLong}
use Rattle.pg_text.specs.declared.failure.Failure.{Failure}
use Rattle.pg_text.specs.declared.failure.Failure.TheVariants.{Fault, NoMemory}
use Rattle.pg_value.specs.declared.value.Value.{Value}
use Rattle.site_journal.specs.Reading.{StandsApart}

-- nothing was read yet
pub no_step : (R : Value → List ℕ → Type 0) (left : Option (List ℕ)) (room : ℕ) → Steps R R left left room room
no_step R left room = record {
  front = [];
  consumed = consumes_none left;
  counted = omega arith;
  makes = λ v t is. is;
  goes = λ v t s more is at. (t, is, refl);
}

-- one step behind the other
pub both_steps : {R Q P : Value → List ℕ → Type 0} {left mid later : Option (List ℕ)} {room half rest : ℕ} → Steps R Q left mid room half → Steps Q P mid later half rest → Steps R P left later room rest
both_steps {R = R} {Q = Q} {P = P} {left = left} {mid = mid} {later = later} {room = room} {half = half} {rest = rest} first second = record {
  front = first.front ++ second.front;
  consumed = consumes_both left mid later first.front second.front first.consumed second.consumed;
  counted = omega (arith, first.counted, second.counted, length-append first.front second.front);
  makes = λ v t is. subst (R v) (sym (append_assoc first.front second.front t)) (first.makes v (second.front ++ t) (second.makes v t is));
  goes = λ v t s more is at.
      let one = first.goes v t s (second.front ++ more) is (at ∙ append_assoc first.front second.front more) in
      let there : one.0 ++ s ≡ second.front ++ more =
      same_rest first.front (one.0 ++ s) (second.front ++ more) (sym (append_assoc first.front one.0 s) ∙ ap (λ x. x ++ s) (sym one.2) ∙ at ∙ append_assoc first.front second.front more) in
      let two = second.goes v one.0 s more one.1 there in
      (two.0, two.1, one.2 ∙ ap (λ x. first.front ++ x) two.2 ∙ sym (append_assoc first.front second.front two.0));
}

-- what is behind it stays to come
pub front_steps : {R Q : Value → List ℕ → Type 0} {left later : Option (List ℕ)} {room rest : ℕ} (W : Value → Value → List ℕ → Type 0) → Steps R Q left later room rest → Steps (Both R W) (Both Q W) left later room rest
front_steps W step = record {
  front = step.front;
  consumed = step.consumed;
  counted = step.counted;
  makes = λ v t is. (is.0, step.front ++ is.1, is.2, step.makes is.0 is.1 is.3, is.4, ap (λ x. step.front ++ x) is.5 ∙ sym (append_assoc step.front is.1 is.2));
  goes = λ v t s more is at.
      let one = step.goes is.0 is.1 (is.2 ++ s) more is.3 (sym (append_assoc is.1 is.2 s) ∙ ap (λ x. x ++ s) (sym is.5) ∙ at) in
      (one.0 ++ is.2, (is.0, one.0, is.2, one.1, is.4, refl), is.5 ∙ ap (λ x. x ++ is.2) one.2 ∙ append_assoc step.front one.0 is.2);
}

-- the same texts are to come
pub seen_steps : {R Q P : Value → List ℕ → Type 0} {left later : Option (List ℕ)} {room rest : ℕ} → ((v : Value) (t : List ℕ) → Q v t → P v t) → ((v : Value) (t : List ℕ) → P v t → Q v t) → Steps R Q left later room rest → Steps R P left later room rest
seen_steps to from step = record {
  front = step.front;
  consumed = step.consumed;
  counted = step.counted;
  makes = λ v t is. step.makes v t (from v t is);
  goes = λ v t s more is at. let one = step.goes v t s more is at in (one.0, to v one.0 one.1, one.2);
}

-- what stops what is to come stops the whole

goes_far : {R Q : Value → List ℕ → Type 0} {bytes more : List ℕ} {room half : ℕ} (C D : ℕ → Type 0) (step : Steps R Q (Some bytes) (Some more) room half) → ((n : ℕ) → D n → C (length step.front + n))
    → BeginOnlyWith (IsMade Q) text_of (λ y. D (length (text_of y))) more → BeginOnlyWith (IsMade R) text_of (λ y. C (length (text_of y))) bytes
goes_far {more = more} C D step longer only y s is at =
    let one = step.goes y.0 y.1 s more is (sym at ∙ step.consumed) in
    let there : more ≡ one.0 ++ s = same_rest step.front more (one.0 ++ s) (sym step.consumed ∙ at ∙ ap (λ x. x ++ s) one.2 ∙ append_assoc step.front one.0 s) in
    subst C (sym (ap length one.2 ∙ length-append step.front one.0)) (longer (length one.0) (only (y.0, one.0) s one.1 there))

pub stops_ahead : {R Q : Value → List ℕ → Type 0} (room half before between now : ℕ) (left mid : Option (List ℕ)) (failure : Failure Unread) → Steps R Q left mid room half → before ≤ between
    → Stopped (IsMade Q) text_of mid half between now failure → Stopped (IsMade R) text_of left room before now failure
stops_ahead room half before between now None mid (Fault NotThere) step le was = tt
stops_ahead room half before between now (Some bytes) None (Fault NotThere) step le was = absurd step.consumed
stops_ahead room half before between now (Some bytes) (Some more) (Fault NotThere) step le was = goes_far (λ n. ⊥) (λ n. ⊥) step (λ n no. no) was
stops_ahead room half before between now None mid (Fault TooLong) step le was = tt
stops_ahead room half before between now (Some bytes) None (Fault TooLong) step le was = absurd step.consumed
stops_ahead room half before between now (Some bytes) (Some more) (Fault TooLong) step le was =
    let size : length bytes ≡ length step.front + length more = ap length step.consumed ∙ length-append step.front more in
    (omega (arith, step.counted, size, was.0), goes_far (λ n. room < n) (λ n. half < n) step (λ n below. omega (arith, below, step.counted)) was.1)
stops_ahead room half before between now left mid (Fault Failed) step le was = omega (arith, le, was)
stops_ahead room half before between now left mid NoMemory step le was = tt

-- a part that was read, where each such text begins with one and goes on so behind this one
pub part_steps : {A : Type 0} {R Q : Value → List ℕ → Type 0} (I : A → Type 0) (k : A → List ℕ) {left later : Option (List ℕ)} {room rest before now : ℕ} {a0 : A} → StandsApart I k → ((v : Value) (t : List ℕ) → Q v t → R v (k a0 ++ t))
    → ((v : Value) (t : List ℕ) → R v t → (a : A) × (u : List ℕ) × I a × (t ≡ k a ++ u) × (a ≡ a0 → Q v u)) → Reads I k left later room rest before now (Ok a0) → Steps R Q left later room rest
part_steps I k {a0 = a0} apart makes opens was = record {
  front = k a0;
  consumed = was.answered.consumed;
  counted = was.answered.counted;
  makes = makes;
  goes = λ v t s more is at.
      let o = opens v t is in
      let whole : k o.0 ++ (o.1 ++ s) ≡ k a0 ++ more = sym (append_assoc (k o.0) o.1 s) ∙ ap (λ x. x ++ s) (sym o.3) ∙ at in
      let same = (apart o.0 a0 (o.1 ++ s) more o.2 was.answered.is whole).0 in
      (o.1, o.4 same, o.3 ∙ ap (λ a. k a ++ o.1) same);
}

-- what is said of the answer

pub on_read : {B : Type 0} {R : Value → List ℕ → Type 0} {Then : B → Value → List ℕ → Type 0} {left later : Option (List ℕ)} {room rest before now : ℕ} (b : B) → Steps R (Then b) left later room rest → before ≤ now → ReadsOn R Then left later room rest before now (Ok b)
on_read b step le = record { answered = step; took = (step.front, step.consumed); counted = le }

-- what stops a part stops the texts that begin with one
pub on_stops : {A B : Type 0} {R : Value → List ℕ → Type 0} {Then : B → Value → List ℕ → Type 0} (I : A → Type 0) (k : A → List ℕ) {left later : Option (List ℕ)} {room rest before now : ℕ} {failure : Failure Unread}
    → ((v : Value) (t : List ℕ) → R v t → (a : A) × (u : List ℕ) × I a × (t ≡ k a ++ u)) → Reads I k left later room rest before now (Err failure) → ReadsOn R Then left later room rest before now (Err failure)
on_stops {R = R} I k opens was = let all = first_stops I k (IsMade R) text_of (λ y is. opens y.0 y.1 is) was in record { answered = all.answered; took = all.took; counted = all.counted }

-- what stops what comes behind a step stops the whole
pub on_stops_behind : {B C : Type 0} {R Q : Value → List ℕ → Type 0} {Then : B → Value → List ℕ → Type 0} {More : C → Value → List ℕ → Type 0} {left mid later : Option (List ℕ)} {room half rest before between now : ℕ} {failure : Failure Unread} → Steps R Q left mid room half → before ≤ between
    → ReadsOn Q More mid later half rest between now (Err failure) → ReadsOn R Then left later room rest before now (Err failure)
on_stops_behind {left = left} {mid = mid} {later = later} {room = room} {half = half} {before = before} {between = between} {now = now} {failure = failure} step le was = record {
  answered = stops_ahead room half before between now left mid failure step le was.answered;
  took = (step.front ++ was.took.0, consumes_both left mid later step.front was.took.0 step.consumed was.took.1);
  counted = omega (arith, le, was.counted);
}

-- one call behind the other
pub on_read_behind : {B : Type 0} {R Q : Value → List ℕ → Type 0} {Then : B → Value → List ℕ → Type 0} {left mid later : Option (List ℕ)} {room half rest before between now : ℕ} (r : Result B (Failure Unread)) → Steps R Q left mid room half → before ≤ between
    → ReadsOn Q Then mid later half rest between now r → ReadsOn R Then left later room rest before now r
on_read_behind (Ok b) step le was = on_read b (both_steps step was.answered) (omega (arith, le, was.counted))
on_read_behind (Err failure) step le was = on_stops_behind step le was

-- memory may run out
pub on_starves : {B : Type 0} {R Q : Value → List ℕ → Type 0} {Then : B → Value → List ℕ → Type 0} {left later : Option (List ℕ)} {room rest before now : ℕ} (r : Result B (Failure Unread)) → IsErrAnd r (λ y. y ≡ NoMemory) → Steps R Q left later room rest → before ≤ now → ReadsOn R Then left later room rest before now r
on_starves {R = R} {Then = Then} {left = left} {later = later} {room = room} {rest = rest} {before = before} {now = now} r is step le =
    let p = err_from_is_err_and r is in
    subst (λ q. ReadsOn R Then left later room rest before now q) (sym (p.1 ∙ ap Err p.2)) (record { answered = tt; took = (step.front, step.consumed); counted = le })

-- a failure that is handed on
pub on_passed : {B : Type 0} {R : Value → List ℕ → Type 0} {Then : B → Value → List ℕ → Type 0} {left later : Option (List ℕ)} {room rest before now : ℕ} {failure : Failure Unread} (r : Result B (Failure Unread)) → IsErrAnd r (λ y. y ≡ failure)
    → ReadsOn R Then left later room rest before now (Err failure) → ReadsOn R Then left later room rest before now r
on_passed {R = R} {Then = Then} {left = left} {later = later} {room = room} {rest = rest} {before = before} {now = now} r is was =
    let p = err_from_is_err_and r is in subst (λ q. ReadsOn R Then left later room rest before now q) (sym (p.1 ∙ ap Err p.2)) was
