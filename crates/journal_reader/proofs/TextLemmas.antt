-- Bytes, texts, paths and names that are read.
use Rattle.std.proofs.Common.{◌≡◌, ℕ, List, ◌++◌, refl, sym, ap, subst, ◌∙◌, length, Option, Ok, Err}
use Rattle.std.specs.Prelude.{IsUtf8, Result}
use Rattle.journal_reader.proofs.NumberLemmas.{all_bytes, flat_bytes}
use Rattle.journal_reader.proofs.Tags.{IsByte, of_byte}
use Rattle.journal_reader.proofs.Views.{seen_read, seen_stops, sorted}
use Rattle.journal_reader.specs.Reads.{Reads, Sorts}
use Rattle.journal_reader.specs.declared.unread.Unread.{Unread}
use Rattle.pg_text.specs.Names.{AreInOrder}
use Rattle.pg_text.specs.Normal.{IsNormal}
use Rattle.pg_text.specs.declared.failure.Failure.{Failure}
use Rattle.site_journal.specs.Codes.{AreBytes, IsList, IsText, of_bytes, of_list, of_number}
use Rattle.site_journal.specs.Reading.{IsPath}

bytes_text : (bytes : List ℕ) → of_bytes bytes ≡ of_list of_byte bytes
bytes_text bytes = ap (λ t. of_number (length bytes) ++ t) (sym (flat_bytes bytes))

pub bytes_stop : {left later : Option (List ℕ)} {room rest before now : ℕ} {failure : Failure Unread} → Reads (IsList IsByte) (of_list of_byte) left later room rest before now (Err failure) → Reads AreBytes of_bytes left later room rest before now (Err failure)
bytes_stop was = seen_stops (IsList IsByte) (of_list of_byte) AreBytes of_bytes (λ bytes. bytes) bytes_text (λ bytes is. (is, all_bytes bytes)) was

pub bytes_read : {left later : Option (List ℕ)} {room rest before now : ℕ} (bytes made : List ℕ) → made ≡ bytes → Reads (IsList IsByte) (of_list of_byte) left later room rest before now (Ok bytes) → Reads AreBytes of_bytes left later room rest before now (Ok made)
bytes_read bytes made same was =
    seen_read (IsList IsByte) (of_list of_byte) AreBytes of_bytes (λ bytes. bytes) bytes_text (λ bytes is. (is, all_bytes bytes)) made (subst AreBytes (sym same) was.answered.is.0) same (λ y e. e ∙ sym same) was

pub text_sorted : {left later : Option (List ℕ)} {room rest before now : ℕ} {bytes : List ℕ} (r : Result (List ℕ) (Failure Unread)) → Reads AreBytes of_bytes left later room rest before now (Ok bytes) → Sorts (λ text. text) IsUtf8 bytes r
    → Reads IsText of_bytes left later room rest before now r
text_sorted r was sorts = sorted AreBytes of_bytes IsText of_bytes (λ text. text) IsUtf8 (λ y. refl) (λ y is. is) (λ y are utf8. (are, utf8)) (λ b c e. e) r was sorts

pub text_stops : {left later : Option (List ℕ)} {room rest before now : ℕ} {failure : Failure Unread} → Reads AreBytes of_bytes left later room rest before now (Err failure) → Reads IsText of_bytes left later room rest before now (Err failure)
text_stops was = seen_stops AreBytes of_bytes IsText of_bytes (λ text. text) (λ y. refl) (λ y is. is.0) was

pub path_sorted : {left later : Option (List ℕ)} {room rest before now : ℕ} {text : List ℕ} (r : Result (List ℕ) (Failure Unread)) → Reads IsText of_bytes left later room rest before now (Ok text) → Sorts (λ path. path) IsNormal text r
    → Reads IsPath of_bytes left later room rest before now r
path_sorted r was sorts = sorted IsText of_bytes IsPath of_bytes (λ path. path) IsNormal (λ y. refl) (λ y is. is) (λ y is normal. (is, normal)) (λ b c e. e) r was sorts

pub path_stops : {left later : Option (List ℕ)} {room rest before now : ℕ} {failure : Failure Unread} → Reads IsText of_bytes left later room rest before now (Err failure) → Reads IsPath of_bytes left later room rest before now (Err failure)
path_stops was = seen_stops IsText of_bytes IsPath of_bytes (λ path. path) (λ y. refl) (λ y is. is.0) was

-- distinct paths, in rising order
abbrev pub AreNames : List (List ℕ) → Type 0
AreNames names = IsList IsPath names × AreInOrder names

pub names_sorted : {left later : Option (List ℕ)} {room rest before now : ℕ} {paths : List (List ℕ)} (r : Result (List (List ℕ)) (Failure Unread)) → Reads (IsList IsPath) (of_list of_bytes) left later room rest before now (Ok paths)
    → Sorts (λ names. names) AreInOrder paths r → Reads AreNames (of_list of_bytes) left later room rest before now r
names_sorted r was sorts = sorted (IsList IsPath) (of_list of_bytes) AreNames (of_list of_bytes) (λ names. names) AreInOrder (λ y. refl) (λ y is. is) (λ y is rise. (is, rise)) (λ b c e. e) r was sorts

pub names_stop : {left later : Option (List ℕ)} {room rest before now : ℕ} {failure : Failure Unread} → Reads (IsList IsPath) (of_list of_bytes) left later room rest before now (Err failure) → Reads AreNames (of_list of_bytes) left later room rest before now (Err failure)
names_stop was = seen_stops (IsList IsPath) (of_list of_bytes) AreNames (of_list of_bytes) (λ names. names) (λ y. refl) (λ y is. is.0) was
