-- The turns by which a value is read.
use Rattle.std.proofs.Common.{◌≡◌, ◌≢◌, ◌<◌, ◌≤◌, ℕ, ◌+◌, List, [], ◌∷◌, ◌++◌, length, false, true, refl, sym, ap, subst, ◌∙◌, append-nil, append_assoc, arith, Option, Some, None, Ok, Err}
use Rattle.std.specs.Io.KnownBytes.{Consumes}
use Rattle.std.specs.Prelude.{IfSome, IsErrAnd, IsSome, Result}
use Rattle.std.proofs.lemmas.Result.{err_from_is_err_and}
use Rattle.edges.proofs.ToldBytes.{consumes_both}
use Rattle.journal_reader.proofs.Parts.{stopped_first}
use Rattle.journal_reader.proofs.StepLemmas.{both_steps, front_steps, seen_steps, stops_ahead}
use Rattle.journal_reader.specs.Frames.{AreFilledBy, Both, IsFilledBy, IsMade, IsNext, IsValueOf, IsWhole, ReadsOn, Steps, text_of}
use Rattle.journal_reader.specs.Reads.{BeginOnlyWith, Reads}
use Rattle.journal_reader.specs.Values.{IsValue}
use Rattle.journal_reader.specs.declared.frame.Frame.{Frame}
use Rattle.journal_reader.specs.declared.frame.Step.{Step}
use Rattle.journal_reader.specs.declared.frame.Step.TheVariants.{Whole, Waits}
use Rattle.journal_reader.specs.declared.unread.Unread.{Unread}
use Rattle.pg_text.specs.declared.failure.Failure.{Failure}
use Rattle.pg_text.specs.declared.failure.Failure.TheVariants.{NoMemory}
use Rattle.pg_value.specs.declared.value.Value.{Value}
use Rattle.site_journal.proofs.WordsApart.{value_apart}
use Rattle.site_journal.specs.Journal.{of_value}

-- what is to come after a step, and then what is to come of those around
abbrev pub IsLeft : Step → List Frame → Value → List ℕ → Type 0
IsLeft step frames v t = Both (IsNext step) (AreFilledBy frames) v t

-- a step that waits has a turn more before the next is read than one that is whole
abbrev pub turns_left : Step → ℕ
turns_left (Waits frame) = 1
turns_left (Whole x) = 0

pub turns_most : (step : Step) → turns_left step ≤ 1
turns_most (Waits frame) = omega arith
turns_most (Whole x) = omega arith

-- the innermost is filled first

top_out : (frames : List Frame) (top : Frame) (x v : Value) (t : List ℕ) → AreFilledBy (frames ++ top ∷ []) x v t → Both (IsFilledBy top x) (AreFilledBy frames) v t
top_out [] top x v t (y, a, b, (same, none), fills, at) = (v, b, [], subst (λ z. IsFilledBy top z v b) same fills, (refl, refl), at ∙ ap (λ s. s ++ b) none ∙ sym (append-nil b))
top_out (frame ∷ frames) top x v t (y, a, b, inner, fills, at) =
    let r = top_out frames top x y a inner in
    (r.0, r.1, r.2 ++ b, r.3, (y, r.2, b, r.4, fills, refl), at ∙ ap (λ s. s ++ b) r.5 ∙ append_assoc r.1 r.2 b)

top_in : (frames : List Frame) (top : Frame) (x v : Value) (t : List ℕ) → Both (IsFilledBy top x) (AreFilledBy frames) v t → AreFilledBy (frames ++ top ∷ []) x v t
top_in [] top x v t (y, a, b, fills, (same, none), at) = (x, [], a, (refl, refl), subst (λ z. IsFilledBy top x z a) (sym same) fills, at ∙ ap (λ s. a ++ s) none ∙ append-nil a)
top_in (frame ∷ frames) top x v t (y, a, b, fills, (z, c, d, inner, outer, behind), at) =
    (z, a ++ c, d, top_in frames top x z (a ++ c) (y, a, c, fills, inner, refl), outer, at ∙ ap (λ s. a ++ s) behind ∙ sym (append_assoc a c d))

whole_out : (x : Value) (W : Value → Value → List ℕ → Type 0) (v : Value) (t : List ℕ) → Both (IsWhole x) W v t → W x v t
whole_out x W v t (y, a, b, (same, none), then, at) = subst (λ z. W z v t) same (subst (W y v) (sym (at ∙ ap (λ s. s ++ b) none)) then)

whole_in : (x : Value) (W : Value → Value → List ℕ → Type 0) (v : Value) (t : List ℕ) → W x v t → Both (IsWhole x) W v t
whole_in x W v t then = (x, [], t, (refl, refl), then, refl)

next_out : (frames : List Frame) (frame : Frame) (v : Value) (t : List ℕ) → Both (Both IsValueOf (IsFilledBy frame)) (AreFilledBy frames) v t → Both IsValueOf (AreFilledBy (frames ++ frame ∷ [])) v t
next_out frames frame v t (y, a, b, (x, c, d, value, fills, inner), around, at) =
    (x, c, d ++ b, value, top_in frames frame x v (d ++ b) (y, d, b, fills, around, refl), at ∙ ap (λ s. s ++ b) inner ∙ append_assoc c d b)

next_in : (frames : List Frame) (frame : Frame) (v : Value) (t : List ℕ) → Both IsValueOf (AreFilledBy (frames ++ frame ∷ [])) v t → Both (Both IsValueOf (IsFilledBy frame)) (AreFilledBy frames) v t
next_in frames frame v t (x, a, b, value, around, at) =
    let r = top_out frames frame x v b around in
    (r.0, a ++ r.1, r.2, (x, a, r.1, value, r.3, refl), r.4, at ∙ ap (λ s. a ++ s) r.5 ∙ sym (append_assoc a r.1 r.2))

alone_out : (R : Value → List ℕ → Type 0) (v : Value) (t : List ℕ) → R v t → Both R (AreFilledBy []) v t
alone_out R v t is = (v, t, [], is, (refl, refl), sym (append-nil t))

alone_in : (R : Value → List ℕ → Type 0) (v : Value) (t : List ℕ) → Both R (AreFilledBy []) v t → R v t
alone_in R v t (x, a, b, is, (same, none), at) = subst (λ z. R z t) (sym same) (subst (R x) (sym (at ∙ ap (λ s. a ++ s) none ∙ append-nil a)) is)

-- the value was begun
pub turn_first : {left later : Option (List ℕ)} {room rest before now : ℕ} {step : Step} (frames : List Frame) → frames ≡ [] → ReadsOn IsValueOf IsNext left later room rest before now (Ok step) → Steps IsValueOf (IsLeft step frames) left later room rest
turn_first {left = left} {later = later} {room = room} {rest = rest} {step = step} frames none was =
    subst (λ fs. Steps IsValueOf (IsLeft step fs) left later room rest) (sym none) (seen_steps (alone_out (IsNext step)) (alone_in (IsNext step)) was.answered)

-- a list or record waits for a value
pub turn_waits : {R : Value → List ℕ → Type 0} {left mid : Option (List ℕ)} {room half : ℕ} {step : Step} (frame : Frame) (frames all : List Frame) → step ≡ Waits frame → all ≡ frames ++ frame ∷ [] → Steps R (IsLeft step frames) left mid room half
    → Steps R (Both IsValueOf (AreFilledBy all)) left mid room half
turn_waits {R = R} {left = left} {mid = mid} {room = room} {half = half} frame frames all waits is step =
    subst (λ fs. Steps R (Both IsValueOf (AreFilledBy fs)) left mid room half) (sym is)
    (seen_steps (next_out frames frame) (next_in frames frame) (subst (λ s. Steps R (IsLeft s frames) left mid room half) waits step))

-- a value is whole, and goes into the innermost
pub turn_fills : {R : Value → List ℕ → Type 0} {left mid : Option (List ℕ)} {room half : ℕ} {step : Step} (x : Value) (frame : Frame) (frames all : List Frame) → step ≡ Whole x → all ≡ frames ++ frame ∷ [] → Steps R (IsLeft step all) left mid room half
    → Steps R (Both (IsFilledBy frame x) (AreFilledBy frames)) left mid room half
turn_fills {R = R} {left = left} {mid = mid} {room = room} {half = half} x frame frames all whole is step =
    seen_steps (λ v t both. top_out frames frame x v t (whole_out x (AreFilledBy (frames ++ frame ∷ [])) v t both)) (λ v t both. whole_in x (AreFilledBy (frames ++ frame ∷ [])) v t (top_in frames frame x v t both))
    (subst (λ fs. Steps R (Both (IsWhole x) (AreFilledBy fs)) left mid room half) is (subst (λ s. Steps R (IsLeft s all) left mid room half) whole step))

-- what is read on
pub turn_reads : {R Such : Value → List ℕ → Type 0} {left mid later : Option (List ℕ)} {room half rest between now : ℕ} {step : Step} (frames : List Frame) → Steps R (Both Such (AreFilledBy frames)) left mid room half
    → ReadsOn Such IsNext mid later half rest between now (Ok step) → Steps R (IsLeft step frames) left later room rest
turn_reads frames step was = both_steps step (front_steps (AreFilledBy frames) was.answered)

-- no list or record is open where none could be taken
pub none_open : (frames : List Frame) (r : Option Frame) (n : ℕ) → n ≡ length frames → ((x : Frame) → r ≢ Some x) → (0 < n → IsSome r) → frames ≡ []
none_open [] r n is none some = refl
none_open (x ∷ xs) (Some y) n is none some = absurd (none y refl)
none_open (x ∷ xs) None n is none some = let bad : false ≡ true = some (omega (arith, is)) in absurd (cc)

-- what ends the reading

only_this : (left later : Option (List ℕ)) (x : Value) → IsValue x → Consumes left later (of_value x) → IfSome left (BeginOnlyWith IsValue of_value (λ y. y ≡ x))
only_this None later x is came = tt
only_this (Some bytes) None x is came = absurd came
only_this (Some bytes) (Some more) x is came = λ y s also at. (value_apart y x s more also is (sym at ∙ came)).0

pub turn_last : {left later : Option (List ℕ)} {room rest before now : ℕ} {step : Step} (x : Value) (frames : List Frame) → step ≡ Whole x → frames ≡ [] → Steps IsValueOf (IsLeft step frames) left later room rest → before ≤ now
    → Reads IsValue of_value left later room rest before now (Ok x)
turn_last {left = left} {later = later} {room = room} {rest = rest} {step = step} x frames whole none read le =
    let last = subst (λ fs. Steps IsValueOf (IsLeft (Whole x) fs) left later room rest) none (subst (λ s. Steps IsValueOf (IsLeft s frames) left later room rest) whole read) in
    let made = last.makes x [] (x, [], [], (refl, refl), (refl, refl), refl) in
    let same : last.front ≡ of_value x = sym (append-nil last.front) ∙ made.1 in
    let came = subst (λ t. Consumes left later t) same last.consumed in
    record {
      answered = record { is = made.0; consumed = came; counted = last.counted ∙ ap (λ t. rest + length t) same; only = only_this left later x made.0 came };
      took = (last.front, last.consumed);
      counted = le;
    }

value_first : (y : Value) → IsValue y → (a : Value × List ℕ) × (t : List ℕ) × IsMade IsValueOf a × (of_value y ≡ text_of a ++ t)
value_first y is = ((y, of_value y), [], (is, refl), sym (append-nil (of_value y)))

-- what stops the beginning stops the whole
pub turn_begins : {left later : Option (List ℕ)} {room rest before now : ℕ} {failure : Failure Unread} (r : Result Value (Failure Unread)) → IsErrAnd r (λ y. y ≡ failure) → ReadsOn IsValueOf IsNext left later room rest before now (Err failure)
    → Reads IsValue of_value left later room rest before now r
turn_begins {left = left} {later = later} {room = room} {rest = rest} {before = before} {now = now} {failure = failure} r is was =
    let p = err_from_is_err_and r is in
    subst (λ q. Reads IsValue of_value left later room rest before now q) (sym (p.1 ∙ ap Err p.2)) (record {
      answered = stopped_first (IsMade IsValueOf) text_of IsValue of_value left room before now failure value_first was.answered;
      took = was.took;
      counted = was.counted;
    })

-- and so does what stops a turn
pub turn_stops : {R : Value → List ℕ → Type 0} {W : Value → Value → List ℕ → Type 0} {left mid later : Option (List ℕ)} {room half rest before between now : ℕ} {failure : Failure Unread} (r : Result Value (Failure Unread)) → IsErrAnd r (λ y. y ≡ failure)
    → Steps IsValueOf (Both R W) left mid room half → before ≤ between → ReadsOn R IsNext mid later half rest between now (Err failure) → Reads IsValue of_value left later room rest before now r
turn_stops {R = R} {W = W} {left = left} {mid = mid} {later = later} {room = room} {half = half} {rest = rest} {before = before} {between = between} {now = now} {failure = failure} r is step le was =
    let p = err_from_is_err_and r is in
    let ahead = stopped_first (IsMade R) text_of (IsMade (Both R W)) text_of mid half between now failure (λ y both. ((both.0, both.1), both.2, both.3, both.5)) was.answered in
    let whole = stops_ahead room half before between now left mid failure step le ahead in
    subst (λ q. Reads IsValue of_value left later room rest before now q) (sym (p.1 ∙ ap Err p.2)) (record {
      answered = stopped_first (IsMade IsValueOf) text_of IsValue of_value left room before now failure value_first whole;
      took = (step.front ++ was.took.0, consumes_both left mid later step.front was.took.0 step.consumed was.took.1);
      counted = omega (arith, le, was.counted);
    })

-- memory may run out
pub turn_starves : {R : Value → List ℕ → Type 0} {left later : Option (List ℕ)} {room rest before now : ℕ} {failure : Failure Unread} (r : Result Value (Failure Unread)) → IsErrAnd r (λ y. y ≡ failure) → failure ≡ NoMemory → Steps IsValueOf R left later room rest → before ≤ now
    → Reads IsValue of_value left later room rest before now r
turn_starves {left = left} {later = later} {room = room} {rest = rest} {before = before} {now = now} r is none step le =
    let p = err_from_is_err_and r is in
    subst (λ q. Reads IsValue of_value left later room rest before now q) (sym (p.1 ∙ ap Err (p.2 ∙ none))) (record { answered = tt; took = (step.front, step.consumed); counted = le })
