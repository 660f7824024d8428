-- Two records that are compared entry by entry.
use Rattle.std.proofs.Common.{add-one, ◌≡◌, ◌≤◌, ◌+◌, ◌&&◌, ℕ, zero, suc, List, [], ◌∷◌, drop, Bool, true, false, Some, refl, sym, ap, ◌∙◌, arith}
use Rattle.std.specs.Prelude.{slice_get, unwrap_or}
use Rattle.std.specs.Str.{bytes_eq}
use Rattle.pg_value.specs.Datum.{Datum, entries_of}
use Rattle.pg_value.specs.Equality.{is_same, have_same}
use Rattle.pg_value.specs.Size.{size_of, entries_size}

abbrev Entries : Type 0
Entries = List (List ℕ × Datum)

-- an entry that is there, and those behind it
drop_got : (es : Entries) (i : ℕ) (e : List ℕ × Datum) → Some e ≡ slice_get es i → drop i es ≡ e ∷ drop (suc i) es
drop_got [] i e got = cc
drop_got (f ∷ es) zero e got = ap (λ o. unwrap_or o e ∷ es) (sym got)
drop_got (f ∷ es) (suc i) e got = drop_got es i e got

drop_next : (es : Entries) (i : ℕ) (e : List ℕ × Datum) → Some e ≡ slice_get es i → drop i es ≡ e ∷ drop (i + 1) es
drop_next es i e got = drop_got es i e got ∙ ap (λ n. e ∷ drop n es) (sym (add-one i))

pub got_size : (es : Entries) (i : ℕ) (e : List ℕ × Datum) → Some e ≡ slice_get es i → size_of e.1 ≤ entries_size es
got_size [] i e got = cc
got_size (f ∷ es) zero e got = let same : e ≡ f = ap (λ o. unwrap_or o e) got in omega (arith, ap (λ g. size_of g.1) same)
got_size (f ∷ es) (suc i) e got = omega (arith, got_size es i e got)

and_by : (a b c : Bool) → a && b ≡ true → a && b && c ≡ c
and_by true b c h = ap (λ x. x && c) h
and_by false b c h = cc

and_no : (a b c : Bool) → a && b ≡ false → a && b && c ≡ false
and_no true b c h = ap (λ x. x && c) h
and_no false b c h = refl

both_got : (left right : Entries) (i : ℕ) (e f : List ℕ × Datum) (whole : Bool) → Some e ≡ slice_get left i → Some f ≡ slice_get right i
    → whole ≡ have_same (entries_of (drop i left)) (entries_of (drop i right))
    → whole ≡ (bytes_eq e.0 f.0 && is_same e.1 f.1 && have_same (entries_of (drop (i + 1) left)) (entries_of (drop (i + 1) right)))
both_got left right i e f whole first second before =
    before ∙ ap (λ es. have_same (entries_of es) (entries_of (drop i right))) (drop_next left i e first)
    ∙ ap (λ es. have_same (entries_of (e ∷ drop (i + 1) left)) (entries_of es)) (drop_next right i f second)

-- entries that are the same
pub one_same : (left right : Entries) (i : ℕ) (e f : List ℕ × Datum) (whole : Bool) → Some e ≡ slice_get left i → Some f ≡ slice_get right i → (bytes_eq e.0 f.0 && is_same e.1 f.1) ≡ true
    → whole ≡ have_same (entries_of (drop i left)) (entries_of (drop i right)) → whole ≡ have_same (entries_of (drop (i + 1) left)) (entries_of (drop (i + 1) right))
one_same left right i e f whole first second same before =
    both_got left right i e f whole first second before ∙ and_by (bytes_eq e.0 f.0) (is_same e.1 f.1) _ same

-- and such as aren't
pub one_other : (left right : Entries) (i : ℕ) (e f : List ℕ × Datum) (whole : Bool) → Some e ≡ slice_get left i → Some f ≡ slice_get right i → (bytes_eq e.0 f.0 && is_same e.1 f.1) ≡ false
    → whole ≡ have_same (entries_of (drop i left)) (entries_of (drop i right)) → false ≡ whole
one_other left right i e f whole first second other before =
    sym (both_got left right i e f whole first second before ∙ and_no (bytes_eq e.0 f.0) (is_same e.1 f.1) _ other)
