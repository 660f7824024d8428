-- What files, sessions, openings and talks are made of.
use Rattle.std.proofs.Common.{◌≡◌, ◌<◌, ℕ, List, ◌++◌, length, refl, sym, ap, arith, Option, Ok, Err}
use Rattle.std.specs.Prelude.{Result, flat_map, ⊤}
use Rattle.journal_reader.proofs.NumberLemmas.{all_bytes, flat_bytes}
use Rattle.journal_reader.proofs.Tags.{IsByte, of_byte}
use Rattle.journal_reader.proofs.Views.{IsMadeOf, seen_read, seen_stops, sorted}
use Rattle.journal_reader.specs.Reads.{AreSo, Reads, Sorts}
use Rattle.journal_reader.specs.declared.opening.Passes.{Passes}
use Rattle.journal_reader.specs.declared.unread.Unread.{Unread}
use Rattle.pg_text.specs.declared.failure.Failure.{Failure}
use Rattle.pg_value.specs.Datum.{Datum}
use Rattle.site_journal.specs.Codes.{AreBytes, IsList, IsNumber, IsText, of_bytes, of_list, of_number}
use Rattle.site_journal.specs.Journal.{of_attrs, of_file, of_opening, of_session, of_talk}
use Rattle.site_journal.specs.Reading.{AreAttrs, IsFile, IsOpening, IsPath, IsSession, IsTalk}
use Rattle.site_journal.specs.declared.talk.Talk.{Talk}
use Rattle.site_words.specs.declared.words.KeptSession.{KeptSession}
use Rattle.site_words.specs.declared.words.Opening.{Opening}
use Rattle.source_tree.specs.Order.{IsInOrder}
use Rattle.source_tree.specs.declared.file.File.{File}

abbrev pub FileParts : Type 0
FileParts = (List ℕ × ℕ) × List ℕ

abbrev pub file : FileParts → File
file a = record { path = a.0.0; text = a.1; stamp = a.0.1 }

pub file_made : IsMadeOf (λ (a : FileParts). (IsPath a.0.0 × IsNumber a.0.1) × IsText a.1) (λ a. (of_bytes a.0.0 ++ of_number a.0.1) ++ of_bytes a.1) IsFile of_file file
file_made = record { parts = λ y is. (((y.path, y.stamp), y.text), ((is.0, is.1), is.2), refl, refl); text = λ a. refl }

-- files whose paths rise
abbrev pub IsTree : List File → Type 0
IsTree files = IsList IsFile files × IsInOrder files

pub tree_stops : {left later : Option (List ℕ)} {room rest before now : ℕ} {failure : Failure Unread} → Reads (IsList IsFile) (of_list of_file) left later room rest before now (Err failure) → Reads IsTree (of_list of_file) left later room rest before now (Err failure)
tree_stops was = seen_stops (IsList IsFile) (of_list of_file) IsTree (of_list of_file) (λ files. files) (λ y. refl) (λ y is. is.0) was

pub tree_sorted : {left later : Option (List ℕ)} {room rest before now : ℕ} {files : List File} (r : Result (List File) (Failure Unread)) → Reads (IsList IsFile) (of_list of_file) left later room rest before now (Ok files)
    → Sorts (λ tree. tree) IsInOrder files r → Reads IsTree (of_list of_file) left later room rest before now r
tree_sorted r was sorts = sorted (IsList IsFile) (of_list of_file) IsTree (of_list of_file) (λ tree. tree) IsInOrder (λ y. refl) (λ y is. is) (λ y is order. (is, order)) (λ b c e. e) r was sorts

abbrev pub SessionParts : Type 0
SessionParts = (ℕ × ℕ) × List (List ℕ × Datum)

abbrev pub session : SessionParts → KeptSession
session a = record { number = a.0.0; used = a.0.1; attrs = a.1 }

pub session_made : IsMadeOf (λ (a : SessionParts). (IsNumber a.0.0 × IsNumber a.0.1) × AreAttrs a.1) (λ a. (of_number a.0.0 ++ of_number a.0.1) ++ of_attrs a.1) IsSession of_session session
session_made = record { parts = λ y is. (((y.number, y.used), y.attrs), ((is.0, is.1), is.2), refl, refl); text = λ a. refl }

-- the seed

abbrev IsSeed : List ℕ → Type 0
IsSeed seed = length seed ≡ 32

abbrev of_seed : List ℕ → List ℕ
of_seed seed = seed

pub seed_stops : {left later : Option (List ℕ)} {room rest before now : ℕ} {failure : Failure Unread} → Reads (AreSo 32 IsByte) (flat_map of_byte) left later room rest before now (Err failure) → Reads IsSeed of_seed left later room rest before now (Err failure)
seed_stops was = seen_stops (AreSo 32 IsByte) (flat_map of_byte) IsSeed of_seed (λ seed. seed) (λ y. sym (flat_bytes y)) (λ y is. (is, all_bytes y)) was

pub seed_read : {left later : Option (List ℕ)} {room rest before now : ℕ} {bytes : List ℕ} → Reads (AreSo 32 IsByte) (flat_map of_byte) left later room rest before now (Ok bytes) → Reads IsSeed of_seed left later room rest before now (Ok bytes)
seed_read {bytes = bytes} was = seen_read (AreSo 32 IsByte) (flat_map of_byte) IsSeed of_seed (λ seed. seed) (λ y. sym (flat_bytes y)) (λ y is. (is, all_bytes y)) bytes was.answered.is.0 refl (λ y e. e) was

-- how many passes there are

abbrev IsPasses : Passes → Type 0
IsPasses passes = passes.count < 256

abbrev of_passes : Passes → List ℕ
of_passes passes = of_number passes.count

abbrev IsSmall : ℕ → Type 0
IsSmall n = n < 256

one_count : (b c : Passes) → b.count ≡ c.count → b ≡ c
one_count b c e = ap (λ n. record { count = n }) e

pub passes_stop : {left later : Option (List ℕ)} {room rest before now : ℕ} {failure : Failure Unread} → Reads IsNumber of_number left later room rest before now (Err failure) → Reads IsPasses of_passes left later room rest before now (Err failure)
passes_stop was = seen_stops IsNumber of_number IsPasses of_passes (λ y. y.count) (λ y. refl) (λ y is. omega (arith, is)) was

pub passes_sorted : {left later : Option (List ℕ)} {room rest before now number : ℕ} (r : Result Passes (Failure Unread)) → Reads IsNumber of_number left later room rest before now (Ok number) → Sorts (λ passes. passes.count) IsSmall number r
    → Reads IsPasses of_passes left later room rest before now r
passes_sorted r was sorts = sorted IsNumber of_number IsPasses of_passes (λ y. y.count) IsSmall (λ y. refl) (λ y is. (omega (arith, is), is)) (λ y is small. small) one_count r was sorts

-- limit, passes, idle time, version, Begins, Freshes, moment
abbrev pub Counts : Type 0
Counts = (((((ℕ × Passes) × ℕ) × ℕ) × ℕ) × ℕ) × ℕ

abbrev pub AreCounts : Counts → Type 0
AreCounts a = (((((IsNumber a.0.0.0.0.0.0 × (a.0.0.0.0.0.1.count < 256)) × IsNumber a.0.0.0.0.1) × IsNumber a.0.0.0.1) × IsNumber a.0.0.1) × IsNumber a.0.1) × IsNumber a.1

abbrev pub of_all_counts : Counts → List ℕ
of_all_counts a =
    (((((of_number a.0.0.0.0.0.0 ++ of_number a.0.0.0.0.0.1.count) ++ of_number a.0.0.0.0.1) ++ of_number a.0.0.0.1) ++ of_number a.0.0.1) ++ of_number a.0.1) ++ of_number a.1

abbrev pub counts_of : Opening → Counts
counts_of x = ((((((x.limit, record { count = x.passes }), x.idle), x.version), x.begins), x.freshes), x.moment)

abbrev pub OpeningParts : Type 0
OpeningParts = (((List ℕ × Counts) × List (List ℕ × Datum)) × List File) × List KeptSession

abbrev pub opening : OpeningParts → Opening
opening a = record {
  seed = a.0.0.0.0;
  limit = a.0.0.0.1.0.0.0.0.0.0;
  passes = a.0.0.0.1.0.0.0.0.0.1.count;
  idle = a.0.0.0.1.0.0.0.0.1;
  version = a.0.0.0.1.0.0.0.1;
  begins = a.0.0.0.1.0.0.1;
  freshes = a.0.0.0.1.0.1;
  moment = a.0.0.0.1.1;
  app = a.0.0.1;
  tree = a.0.1;
  sessions = a.1;
}

abbrev pub AreOpeningParts : OpeningParts → Type 0
AreOpeningParts a = ((((length a.0.0.0.0 ≡ 32) × AreCounts a.0.0.0.1) × AreAttrs a.0.0.1) × (IsList IsFile a.0.1 × IsInOrder a.0.1)) × IsList IsSession a.1

abbrev pub of_opening_parts : OpeningParts → List ℕ
of_opening_parts a = (((a.0.0.0.0 ++ of_all_counts a.0.0.0.1) ++ of_attrs a.0.0.1) ++ of_list of_file a.0.1) ++ of_list of_session a.1

pub opening_made : IsMadeOf AreOpeningParts of_opening_parts IsOpening of_opening opening
opening_made = record {
  parts = λ y is.
      let n = is.counts in (
        ((((y.seed, counts_of y), y.app), y.tree), y.sessions),
        ((((is.seed, ((((((n.limit, n.passes), n.idle), n.version), n.begins), n.freshes), n.moment)), is.app), (is.files, is.order)), is.sessions),
        refl,
        refl,
      );
  text = λ a. refl;
}

pub opening_is : (a : OpeningParts) → AreOpeningParts a → IsOpening (opening a)
opening_is a is =
    let n = is.0.0.0.1 in
    record {
      seed = is.0.0.0.0;
      counts = record {
        limit = n.0.0.0.0.0.0;
        passes = n.0.0.0.0.0.1;
        idle = n.0.0.0.0.1;
        version = n.0.0.0.1;
        begins = n.0.0.1;
        freshes = n.0.1;
        moment = n.1;
      };
      app = is.0.0.1;
      files = is.0.1.0;
      order = is.0.1.1;
      sessions = is.1;
    }

abbrev pub TalkParts : Type 0
TalkParts = ((List ℕ × List ℕ) × List ℕ) × ℕ

abbrev pub talk : TalkParts → Talk
talk a = record { bytes = a.0.0.0; moments = a.0.0.1; answers = a.0.1; ended = a.1 }

abbrev pub AreTalkParts : TalkParts → Type 0
AreTalkParts a = ((AreBytes a.0.0.0 × IsList IsNumber a.0.0.1) × AreBytes a.0.1) × ⊤

pub talk_made : IsMadeOf AreTalkParts (λ a. ((of_bytes a.0.0.0 ++ of_list of_number a.0.0.1) ++ of_bytes a.0.1) ++ of_byte a.1) IsTalk of_talk talk
talk_made = record {
  parts = λ y is. ((((y.bytes, y.moments), y.answers), y.ended), (((is.bytes, is.moments), is.answers), tt), refl, refl);
  text = λ a. refl;
}

pub talk_is : (a : TalkParts) → AreTalkParts a → a.1 < 256 → IsTalk (talk a)
talk_is a is below = record { bytes = is.0.0.0; moments = is.0.0.1; answers = is.0.1; ended = below }
