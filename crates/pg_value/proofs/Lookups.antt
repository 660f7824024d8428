-- What stands under a key of a record, once an entry was put in or taken out.
use Rattle.std.proofs.Common.{◌≡◌, ◌≢◌, ℕ, List, [], ◌∷◌, not, Bool, true, false, Some, None, Result, Ok, Err, OnOk, Less, Equal, Greater, cond, refl, sym, ap, ◌∙◌}
use Rattle.std.specs.declared.cmp.Ordering.{Ordering}
use Rattle.std.specs.Cmp.Lexicographic.{slice_cmp}
use Rattle.std.specs.Ordering.{nat_cmp, match_ordering}
use Rattle.std.specs.Str.{bytes_eq}
use Rattle.std.proofs.lemmas.Slice.Eq.{bytes_eq-Decides}
use Rattle.pg_text.proofs.Halving.{by_order}
use Rattle.pg_value.specs.Attrs.{entry_at, with_entry, without_entry}
use Rattle.pg_value.specs.Datum.{Datum}

abbrev Entry : Type 0
Entry = List ℕ × Datum

pub equal_itself : (k : List ℕ) → bytes_eq k k ≡ true
equal_itself k = (bytes_eq-Decides k k).1 refl

apart : (b : Bool) (k l : List ℕ) → b ≡ bytes_eq k l → k ≢ l → bytes_eq k l ≡ false
apart true k l is ne = absurd (ne ((bytes_eq-Decides k l).0 (sym is)))
apart false k l is ne = sym is

different : (k l : List ℕ) → k ≢ l → bytes_eq k l ≡ false
different k l ne = apart (bytes_eq k l) k l refl ne

found_by : (o : Ordering) (k : List ℕ) (d : Datum) (e : Entry) (es : List Entry) → slice_cmp nat_cmp k e.0 ≡ o → entry_at k (with_entry es k d) ≡ Some d
    → entry_at k (match_ordering o ((k, d) ∷ e ∷ es) ((e.0, d) ∷ es) (e ∷ with_entry es k d)) ≡ Some d
found_by Less k d e es h later = rw (equal_itself k) refl
found_by Equal k d e es h later = rw (by_order Equal k e.0 h) refl
found_by Greater k d e es h later = rw (by_order Greater k e.0 h) later

pub entry_at-with_entry : (es : List Entry) (k : List ℕ) (d : Datum) → entry_at k (with_entry es k d) ≡ Some d
entry_at-with_entry [] k d = rw (equal_itself k) refl
entry_at-with_entry (e ∷ es) k d = found_by (slice_cmp nat_cmp k e.0) k d e es refl (entry_at-with_entry es k d)

other_by : (o : Ordering) (l k : List ℕ) (d : Datum) (e : Entry) (es : List Entry) → slice_cmp nat_cmp k e.0 ≡ o → l ≢ k → entry_at l (with_entry es k d) ≡ entry_at l es
    → entry_at l (match_ordering o ((k, d) ∷ e ∷ es) ((e.0, d) ∷ es) (e ∷ with_entry es k d)) ≡ entry_at l (e ∷ es)
other_by Less l k d e es h ne later = rw (different l k ne) refl
other_by Equal l k d e es h ne later =
    let key : k ≡ e.0 = (bytes_eq-Decides k e.0).0 (by_order Equal k e.0 h) in
    rw (different l e.0 (λ same. ne (same ∙ sym key))) refl
other_by Greater l k d e es h ne later = ap (cond (bytes_eq l e.0) (Some e.1)) later

pub entry_at-with_entry_other : (es : List Entry) (l k : List ℕ) (d : Datum) → l ≢ k → entry_at l (with_entry es k d) ≡ entry_at l es
entry_at-with_entry_other [] l k d ne = rw (different l k ne) refl
entry_at-with_entry_other (e ∷ es) l k d ne = other_by (slice_cmp nat_cmp k e.0) l k d e es refl ne (entry_at-with_entry_other es l k d ne)

gone_by : (b : Bool) (k : List ℕ) (e : Entry) (es : List Entry) → bytes_eq k e.0 ≡ b → entry_at k (without_entry es k) ≡ None
    → entry_at k (cond (not b) (e ∷ without_entry es k) (without_entry es k)) ≡ None
gone_by true k e es h later = later
gone_by false k e es h later = rw h later

pub entry_at-without_entry : (es : List Entry) (k : List ℕ) → entry_at k (without_entry es k) ≡ None
entry_at-without_entry [] k = refl
entry_at-without_entry (e ∷ es) k = gone_by (bytes_eq k e.0) k e es refl (entry_at-without_entry es k)

stays_by : (b : Bool) (l k : List ℕ) (e : Entry) (es : List Entry) → bytes_eq k e.0 ≡ b → l ≢ k → entry_at l (without_entry es k) ≡ entry_at l es
    → entry_at l (cond (not b) (e ∷ without_entry es k) (without_entry es k)) ≡ entry_at l (e ∷ es)
stays_by true l k e es h ne later = rw (different l e.0 (λ same. ne (same ∙ sym ((bytes_eq-Decides k e.0).0 h)))) later
stays_by false l k e es h ne later = ap (cond (bytes_eq l e.0) (Some e.1)) later

pub entry_at-without_entry_other : (es : List Entry) (l k : List ℕ) → l ≢ k → entry_at l (without_entry es k) ≡ entry_at l es
entry_at-without_entry_other [] l k ne = refl
entry_at-without_entry_other (e ∷ es) l k ne = stays_by (bytes_eq k e.0) l k e es refl ne (entry_at-without_entry_other es l k ne)

-- a `put` that succeeds leaves what stands under other keys
pub others_put : {T E : Type 0} (r : Result T E) (old was new : List Entry) (k : List ℕ) (d : Datum) → OnOk r (new ≡ with_entry was k d) → was ≡ old
    → OnOk r ((other : List ℕ) → other ≢ k → entry_at other new ≡ entry_at other old)
others_put (Ok x) old was new k d ok same = λ other ne. ap (entry_at other) ok ∙ entry_at-with_entry_other was other k d ne ∙ ap (entry_at other) same
others_put (Err e) old was new k d ok same = tt

-- what was put in is found
pub ruleset found = (entry_at-with_entry)
