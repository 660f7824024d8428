-- Bytes, numbers and truth values that are read.
use Rattle.std.proofs.Common.{◌≡◌, ◌≤◌, ◌<◌, ℕ, ◌+◌, List, [], ◌∷◌, length, take, get_or, refl, sym, ap, subst, ◌∙◌, append-nil, arith, Option, Some, None, Ok, Err, true, false, Bool}
use Rattle.std.proofs.lemmas.Nat.{be_bytes_8, from_be_bytes-to_be_bytes_8}
use Rattle.std.proofs.lemmas.Int.{of_z-to_z, to_z-of_z}
use Rattle.std.specs.Int.{w64, cast_signed, cast_unsigned, from_be_bytes}
use Rattle.std.specs.Io.KnownBytes.{Consumes, IsAtEnd, Keeps}
use Rattle.std.specs.Prelude.{IfSome, flat_map, ℤ, pos, negsuc}
use Rattle.edges.proofs.ToldBytes.{consumes_kept}
use Rattle.edges.specs.Faults.{Rose}
use Rattle.journal_reader.proofs.Parts.{stands_for}
use Rattle.journal_reader.proofs.Tags.{IsByte, of_byte}
use Rattle.journal_reader.proofs.Views.{seen_stops}
use Rattle.journal_reader.specs.Reads.{AreBeyond, AreSo, BeginOnlyWith, Reads}
use Rattle.journal_reader.specs.declared.unread.Unread.{Unread}
use Rattle.journal_reader.specs.declared.unread.Unread.TheVariants.{Failed, NotThere, TooLong}
use Rattle.pg_text.specs.declared.failure.Failure.{Failure}
use Rattle.pg_text.specs.declared.failure.Failure.TheVariants.{Fault}
use Rattle.site_journal.proofs.Apart.{head_same}
use Rattle.site_journal.specs.Codes.{IsInt, IsNumber, of_int, of_number, of_truth}
use Rattle.site_words.specs.Trees.{Each}

-- one byte

one_only : (left later : Option (List ℕ)) (x : ℕ) → Consumes left later (x ∷ []) → IfSome left (BeginOnlyWith IsByte of_byte (λ y. y ≡ x))
one_only None later x came = tt
one_only (Some bytes) None x came = absurd came
one_only (Some bytes) (Some more) x came = λ y s is at. sym (head_same x y more s (sym came ∙ at))

pub one_read : (left later : Option (List ℕ)) (room rest before now x : ℕ) → Consumes left later (x ∷ []) → room ≡ rest + 1 → before ≤ now → Reads IsByte of_byte left later room rest before now (Ok x)
one_read left later room rest before now x came counted le = record {
  answered = record { is = tt; consumed = came; counted = counted; only = one_only left later x came };
  took = (x ∷ [], came);
  counted = le;
}

nothing : (y : ℕ) (s : List ℕ) → [] ≡ y ∷ s → ⊥
nothing y s e = cc

none_left : (left later : Option (List ℕ)) → Consumes left later [] → IsAtEnd later → IfSome left (BeginOnlyWith IsByte of_byte (λ y. ⊥))
none_left None later came end = tt
none_left (Some bytes) None came end = absurd came
none_left (Some bytes) (Some more) came end = λ y s is at. nothing y s (sym end ∙ sym came ∙ at)

pub one_missing : (left later : Option (List ℕ)) (room before now : ℕ) → Consumes left later [] → IsAtEnd later → before ≤ now → Reads IsByte of_byte left later room room before now (Err (Fault NotThere))
one_missing left later room before now came end le = record { answered = none_left left later came end; took = ([], came); counted = le }

beyond : (left later : Option (List ℕ)) (room x : ℕ) → Consumes left later (x ∷ []) → room < 1 → IfSome left (AreBeyond IsByte of_byte room)
beyond None later room x came none = tt
beyond (Some bytes) None room x came none = absurd came
beyond (Some bytes) (Some more) room x came none = (subst (λ b. room < length b) (sym came) (omega (arith, none)), λ y s is at. none)

pub one_beyond : (left later : Option (List ℕ)) (room before now x : ℕ) → Consumes left later (x ∷ []) → room < 1 → before ≤ now → Reads IsByte of_byte left later room room before now (Err (Fault TooLong))
one_beyond left later room before now x came none le = record { answered = beyond left later room x came none; took = (x ∷ [], came); counted = le }

pub one_fails : (left later : Option (List ℕ)) (room before now : ℕ) → Keeps left later → Rose before now → before ≤ now → Reads IsByte of_byte left later room room before now (Err (Fault Failed))
one_fails left later room before now kept rose le = record { answered = rose; took = ([], consumes_kept left later kept); counted = le }

-- what a buffer of one byte gives
pub one_taken : (into : List ℕ) (n : ℕ) → length into ≡ 1 → n ≤ 1 → 0 < n → take n into ≡ get_or into 0 0 ∷ []
one_taken [] n one most some = absurd (omega (arith, one))
one_taken (b ∷ c ∷ bytes) n one most some = absurd (omega (arith, one))
one_taken (b ∷ []) n one most some = let is : n ≡ 1 = omega (arith, most, some) in ap (λ m. take m (b ∷ [])) is

-- eight bytes

pub flat_bytes : (bytes : List ℕ) → flat_map of_byte bytes ≡ bytes
flat_bytes [] = refl
flat_bytes (b ∷ bytes) = ap (λ t. b ∷ t) (flat_bytes bytes)

pub all_bytes : (bytes : List ℕ) → Each IsByte bytes
all_bytes [] = tt
all_bytes (b ∷ bytes) = (tt, all_bytes bytes)

number_text : (n : ℕ) → of_number n ≡ flat_map of_byte (of_number n)
number_text n = sym (flat_bytes (of_number n))

pub number_stops : {left later : Option (List ℕ)} {room rest before now : ℕ} {failure : Failure Unread} → Reads (AreSo 8 IsByte) (flat_map of_byte) left later room rest before now (Err failure) → Reads IsNumber of_number left later room rest before now (Err failure)
number_stops was = seen_stops (AreSo 8 IsByte) (flat_map of_byte) IsNumber of_number of_number number_text (λ n is. (refl, all_bytes (of_number n))) was

pub number_read : {left later : Option (List ℕ)} {room rest before now : ℕ} (bytes : List ℕ) (n : ℕ) → ((i : ℕ) → get_or bytes i 0 < 256) → n ≡ from_be_bytes w64 bytes → IsNumber n
    → Reads (AreSo 8 IsByte) (flat_map of_byte) left later room rest before now (Ok bytes) → Reads IsNumber of_number left later room rest before now (Ok n)
number_read bytes n ranges same is was =
    stands_for (AreSo 8 IsByte) (flat_map of_byte) IsNumber of_number is (be_bytes_8 bytes n was.answered.is.0 ranges same ∙ sym (flat_bytes bytes))
    (λ y q. (of_number y, [], (refl, all_bytes (of_number y)), number_text y ∙ sym (append-nil (flat_map of_byte (of_number y))), λ e. sym (from_be_bytes-to_be_bytes_8 y q) ∙ ap (from_be_bytes w64) e ∙ sym same)) was

-- an integer is a number seen otherwise

int_below : (n : ℤ) → IsInt n → IsNumber (cast_unsigned w64 n)
int_below (pos n) is = omega (arith, is)
int_below (negsuc n) is = omega arith

pub int_stops : {left later : Option (List ℕ)} {room rest before now : ℕ} {failure : Failure Unread} → Reads IsNumber of_number left later room rest before now (Err failure) → Reads IsInt of_int left later room rest before now (Err failure)
int_stops was = seen_stops IsNumber of_number IsInt of_int (cast_unsigned w64) (λ n. refl) int_below was

pub int_read : {left later : Option (List ℕ)} {room rest before now : ℕ} (n : ℕ) → IsInt (cast_signed w64 n) → Reads IsNumber of_number left later room rest before now (Ok n) → Reads IsInt of_int left later room rest before now (Ok (cast_signed w64 n))
int_read n is was =
    stands_for IsNumber of_number IsInt of_int is (ap of_number (of_z-to_z w64 n was.answered.is))
    (λ y q. (cast_unsigned w64 y, [], int_below y q, sym (append-nil (of_int y)), λ e. sym (to_z-of_z w64 y q) ∙ ap (cast_signed w64) e)) was

-- a truth value by its byte

abbrev pub truth_tag : Bool → ℕ
truth_tag false = 0
truth_tag true = 1

pub truth_text : (b : Bool) → of_truth b ≡ truth_tag b ∷ []
truth_text false = refl
truth_text true = refl

pub truth_false : (b : Bool) → truth_tag b ≡ 0 → b ≡ false
truth_false false e = refl
truth_false true e = absurd (omega (arith, e))

pub truth_true : (b : Bool) → truth_tag b ≡ 1 → b ≡ true
truth_true true e = refl
truth_true false e = absurd (omega (arith, e))

pub truth_most : (b : Bool) → truth_tag b ≤ 1
truth_most false = omega arith
truth_most true = omega arith
