-- How values begin.
use Rattle.std.proofs.Common.{◌≡◌, ◌≤◌, ℕ, List, ◌∷◌, refl, sym, ap, subst, arith, Option, Ok, Bool}
use Rattle.std.proofs.lemmas.Int.{to_z-of_z}
use Rattle.std.specs.Int.{w64, cast_signed, cast_unsigned}
use Rattle.std.specs.Prelude.{⊤, ℤ}
use Rattle.journal_reader.proofs.Tags.{IsByte, body_read, of_byte}
use Rattle.journal_reader.proofs.ValueLemmas.{int_arm, null_only, text_arm, truth_arm, value_body, value_most, value_tag, value_text}
use Rattle.journal_reader.specs.Reads.{Reads}
use Rattle.journal_reader.specs.Frames.{IsHead, of_head}
use Rattle.journal_reader.specs.declared.head.Head.{Head}
use Rattle.journal_reader.specs.declared.head.Head.TheVariants as head
use Rattle.pg_value.specs.declared.value.Value.TheVariants as variant
use Rattle.site_journal.specs.Codes.{IsInt, IsNumber, IsText, of_bytes, of_int, of_number, of_truth}

abbrev pub head_tag : Head → ℕ
head_tag (head.Plain v) = value_tag v
head_tag (head.List n) = 4
head_tag (head.Record n) = 5

abbrev pub head_body : Head → List ℕ
head_body (head.Plain v) = value_body v
head_body (head.List n) = of_number n
head_body (head.Record n) = of_number n

pub head_text : (h : Head) → of_head h ≡ head_tag h ∷ head_body h
head_text (head.Plain v) = value_text v
head_text (head.List n) = refl
head_text (head.Record n) = refl

pub head_most : (h : Head) → head_tag h ≤ 5
head_most (head.Plain v) = value_most v
head_most (head.List n) = omega arith
head_most (head.Record n) = omega arith

pub null_head : (h : Head) → head_tag h ≡ 0 → h ≡ head.Plain variant.Null
null_head (head.Plain v) e = ap head.Plain (null_only v e)
null_head (head.List n) e = absurd (omega (arith, e))
null_head (head.Record n) e = absurd (omega (arith, e))

pub truth_head : (h : Head) → IsHead h → head_tag h ≡ 1 → (b : Bool) × ⊤ × (head_body h ≡ of_truth b) × (h ≡ head.Plain (variant.Bool b))
truth_head (head.Plain v) is e = let a = truth_arm v is.1 e in (a.0, a.1, a.2, ap head.Plain a.3)
truth_head (head.List n) is e = absurd (omega (arith, e))
truth_head (head.Record n) is e = absurd (omega (arith, e))

pub int_head : (h : Head) → IsHead h → head_tag h ≡ 2 → (n : ℤ) × IsInt n × (head_body h ≡ of_int n) × (h ≡ head.Plain (variant.Int n))
int_head (head.Plain v) is e = let a = int_arm v is.1 e in (a.0, a.1, a.2, ap head.Plain a.3)
int_head (head.List n) is e = absurd (omega (arith, e))
int_head (head.Record n) is e = absurd (omega (arith, e))

pub text_head : (h : Head) → IsHead h → head_tag h ≡ 3 → (t : List ℕ) × IsText t × (head_body h ≡ of_bytes t) × (h ≡ head.Plain (variant.Text t))
text_head (head.Plain v) is e = let a = text_arm v is.1 e in (a.0, a.1, a.2, ap head.Plain a.3)
text_head (head.List n) is e = absurd (omega (arith, e))
text_head (head.Record n) is e = absurd (omega (arith, e))

pub list_head : (h : Head) → IsHead h → head_tag h ≡ 4 → (n : ℕ) × IsNumber n × (head_body h ≡ of_number n) × (h ≡ head.List n)
list_head (head.List n) is e = (n, is, refl, refl)
list_head (head.Plain (variant.List ds)) is e = absurd is.0
list_head (head.Plain v) is e = absurd (omega (arith, e))
list_head (head.Record n) is e = absurd (omega (arith, e))

pub record_head : (h : Head) → IsHead h → head_tag h ≡ 5 → (n : ℕ) × IsNumber n × (head_body h ≡ of_number n) × (h ≡ head.Record n)
record_head (head.Record n) is e = (n, is, refl, refl)
record_head (head.Plain (variant.Rec es)) is e = absurd is.0
record_head (head.Plain v) is e = absurd (omega (arith, e))
record_head (head.List n) is e = absurd (omega (arith, e))

pub int_head_made : {left mid later : Option (List ℕ)} {room half rest before between now a0 : ℕ} {n : ℤ} → a0 ≡ 2 → Reads IsByte of_byte left mid room half before between (Ok a0) → Reads IsInt of_int mid later half rest between now (Ok n)
    → Reads IsHead of_head left later room rest before now (Ok (head.Plain (variant.Int (cast_signed w64 (cast_unsigned w64 n)))))
int_head_made {left = left} {later = later} {room = room} {rest = rest} {before = before} {now = now} {n = n} at first second =
    subst (λ m. Reads IsHead of_head left later room rest before now (Ok (head.Plain (variant.Int m)))) (sym (to_z-of_z w64 n second.answered.is))
    (body_read IsHead of_head head_tag head_body head_text IsInt of_int (λ m. head.Plain (variant.Int m)) 2 int_head at (tt, second.answered.is) refl first second)
