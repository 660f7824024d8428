-- The whole journal that is read.
use Rattle.std.proofs.Common.{◌≡◌, ℕ, List, [], ◌∷◌, ◌++◌, drop, refl, sym, ap, subst, ◌∙◌, Option, Some, None, Ok, Err}
use Rattle.std.proofs.lemmas.Result.{err_from_is_err_and}
use Rattle.std.specs.Io.KnownBytes.{Consumes, IsAtEnd}
use Rattle.std.specs.Prelude.{IfSome, IsErrAnd, Result, flat_map, ⊤}
use Rattle.journal_reader.proofs.NumberLemmas.{all_bytes, flat_bytes}
use Rattle.journal_reader.proofs.Tags.{IsByte, body_read, body_stops, of_byte, tag_refuses, tag_stops}
use Rattle.journal_reader.proofs.Views.{IsMadeOf, seen_stops, sorted}
use Rattle.journal_reader.specs.Next.{IsJournalOf, ReadsNext, of_journal, of_tail}
use Rattle.journal_reader.specs.Reads.{AreSo, BeginOnlyWith, Reads, Sorts}
use Rattle.journal_reader.specs.declared.history.History.{History}
use Rattle.journal_reader.specs.declared.journal.Journal.{Journal}
use Rattle.journal_reader.specs.declared.mark.MarkTail.{MarkTail}
use Rattle.journal_reader.specs.declared.unread.Unread.{Unread}
use Rattle.journal_reader.specs.declared.unread.Unread.TheVariants.{NotThere}
use Rattle.pg_text.specs.declared.failure.Failure.{Failure}
use Rattle.pg_text.specs.declared.failure.Failure.TheVariants.{Fault}
use Rattle.site_journal.specs.Codes.{IsList, IsOption, of_list, of_option}
use Rattle.site_journal.specs.Journal.{mark, of_entry, of_opening, of_talk}
use Rattle.site_journal.specs.Reading.{EndsByRoll, IsEntry, IsOpening, IsTalk}
use Rattle.site_journal.specs.declared.talk.Talk.{Talk}
use Rattle.site_words.specs.declared.words.Opening.{Opening}

-- a journal behind its first byte

abbrev pub Parts : Type 0
Parts = ((MarkTail × Opening) × History) × Option Talk

abbrev pub AreParts : Parts → Type 0
AreParts a = ((⊤ × IsOpening a.0.0.1) × (IsList IsEntry a.0.1.entries × EndsByRoll a.0.1.entries)) × IsOption IsTalk a.1

abbrev pub of_parts : Parts → List ℕ
of_parts a = ((drop 1 mark ++ of_opening a.0.0.1) ++ of_list of_entry a.0.1.entries) ++ of_option of_talk a.1

abbrev pub whole : Parts → Journal
whole a = record { opening = a.0.0.1; history = a.0.1.entries; talk = a.1 }

pub whole_made : IsMadeOf AreParts of_parts IsJournalOf of_tail whole
whole_made = record {
  parts = λ y is. ((((record {}, y.opening), record { entries = y.history }), y.talk), (((tt, is.opening), (is.entries, is.rolls)), is.talk_is), refl, refl);
  text = λ a. refl;
}

pub whole_is : (a : Parts) → AreParts a → IsJournalOf (whole a)
whole_is a is = record { opening = is.0.0.1; entries = is.0.1.0; rolls = is.0.1.1; talk_is = is.1 }

-- the first byte of a journal

abbrev first_of : Journal → ℕ
first_of j = 80

first_text : (j : Journal) → of_journal j ≡ first_of j ∷ of_tail j
first_text j = refl

abbrev itself : Journal → Journal
itself j = j

tail_arm : (y : Journal) → IsJournalOf y → first_of y ≡ 80 → (x : Journal) × IsJournalOf x × (of_tail y ≡ of_tail x) × (y ≡ itself x)
tail_arm y is e = (y, is, refl, refl)

-- bytes that begin with one are some
some_came : (left mid : Option (List ℕ)) (byte : ℕ) → Consumes left mid (byte ∷ []) → IfSome left (λ bytes. bytes ≡ [] → ⊥)
some_came None mid byte came = tt
some_came (Some bytes) None byte came = absurd came
some_came (Some bytes) (Some more) byte came = λ none. let both : byte ∷ more ≡ [] = sym came ∙ none in absurd (cc)

no_byte : (bytes : List ℕ) → BeginOnlyWith IsByte of_byte (λ y. ⊥) bytes → bytes ≡ []
no_byte [] none = refl
no_byte (b ∷ bytes) none = absurd (none b bytes tt refl)

at_end : (left : Option (List ℕ)) → IfSome left (BeginOnlyWith IsByte of_byte (λ y. ⊥)) → IsAtEnd left
at_end None none = tt
at_end (Some bytes) none = no_byte bytes none

-- the first byte isn't there, so nothing is
pub nothing_left : {left later : Option (List ℕ)} {room rest before now : ℕ} (failure : Failure Unread) → failure ≡ Fault NotThere → Reads IsByte of_byte left later room rest before now (Err failure) → ReadsNext left later room rest before now (Ok None)
nothing_left {left = left} (Fault NotThere) is was = record { answered = at_end left was.answered; took = was.took; counted = was.counted }
nothing_left failure is was = absurd (cc)

-- a failure that is handed on
pub next_passed : {left later : Option (List ℕ)} {room rest before now : ℕ} {failure : Failure Unread} (r : Result (Option Journal) (Failure Unread)) → IsErrAnd r (λ y. y ≡ failure) → ReadsNext left later room rest before now (Err failure)
    → ReadsNext left later room rest before now r
next_passed {left = left} {later = later} {room = room} {rest = rest} {before = before} {now = now} r is was =
    let p = err_from_is_err_and r is in subst (λ q. ReadsNext left later room rest before now q) (sym (p.1 ∙ ap Err p.2)) was

-- it stopped the reading for another cause
pub first_stopped : {left later : Option (List ℕ)} {room rest before now : ℕ} {failure : Failure Unread} → (failure ≡ Fault NotThere → ⊥) → Reads IsByte of_byte left later room rest before now (Err failure)
    → ReadsNext left later room rest before now (Err failure)
first_stopped other was =
    let all = tag_stops IsJournalOf of_journal first_of of_tail first_text was in
    record { answered = (all.answered, λ is. absurd (other is)); took = all.took; counted = all.counted }

-- it is none of a journal
pub first_refused : {left later : Option (List ℕ)} {room rest before now byte : ℕ} → (byte ≡ 80 → ⊥) → Reads IsByte of_byte left later room rest before now (Ok byte) → ReadsNext left later room rest before now (Err (Fault NotThere))
first_refused {left = left} {later = later} {byte = byte} other was =
    let all = tag_refuses IsJournalOf of_journal first_of of_tail first_text (λ y e. other (sym e)) was in
    record { answered = (all.answered, λ is. some_came left later byte was.answered.consumed); took = all.took; counted = all.counted }

pub tail_stopped : {left mid later : Option (List ℕ)} {room half rest before between now byte : ℕ} {failure : Failure Unread} → byte ≡ 80 → Reads IsByte of_byte left mid room half before between (Ok byte)
    → Reads IsJournalOf of_tail mid later half rest between now (Err failure) → ReadsNext left later room rest before now (Err failure)
tail_stopped {left = left} {mid = mid} {byte = byte} at first second =
    let all = body_stops IsJournalOf of_journal first_of of_tail first_text IsJournalOf of_tail itself 80 tail_arm at first second in
    record { answered = (all.answered, λ is. some_came left mid byte first.answered.consumed); took = all.took; counted = all.counted }

pub journal_read : {left mid later : Option (List ℕ)} {room half rest before between now byte : ℕ} {j : Journal} → byte ≡ 80 → Reads IsByte of_byte left mid room half before between (Ok byte)
    → Reads IsJournalOf of_tail mid later half rest between now (Ok j) → ReadsNext left later room rest before now (Ok (Some j))
journal_read {j = j} at first second =
    let all = body_read IsJournalOf of_journal first_of of_tail first_text IsJournalOf of_tail itself 80 tail_arm at second.answered.is (first_text j) first second in
    record { answered = all.answered; took = all.took; counted = all.counted }

-- the mark behind its first byte

abbrev pub IsTail : List ℕ → Type 0
IsTail bytes = bytes ≡ drop 1 mark

abbrev IsMark : MarkTail → Type 0
IsMark y = ⊤

abbrev pub of_mark : MarkTail → List ℕ
of_mark y = drop 1 mark

one_mark : (b c : MarkTail) → b ≡ c
one_mark b c = refl

pub mark_stops : {left later : Option (List ℕ)} {room rest before now : ℕ} {failure : Failure Unread} → Reads (AreSo 7 IsByte) (flat_map of_byte) left later room rest before now (Err failure) → Reads IsMark of_mark left later room rest before now (Err failure)
mark_stops was = seen_stops (AreSo 7 IsByte) (flat_map of_byte) IsMark of_mark of_mark (λ y. sym (flat_bytes (drop 1 mark))) (λ y is. (refl, all_bytes (drop 1 mark))) was

pub mark_sorted : {left later : Option (List ℕ)} {room rest before now : ℕ} {bytes : List ℕ} (r : Result MarkTail (Failure Unread)) → Sorts of_mark IsTail bytes r → Reads (AreSo 7 IsByte) (flat_map of_byte) left later room rest before now (Ok bytes)
    → Reads IsMark of_mark left later room rest before now r
mark_sorted r sorts was =
    sorted (AreSo 7 IsByte) (flat_map of_byte) IsMark of_mark of_mark IsTail (λ y. sym (flat_bytes (drop 1 mark))) (λ y is. ((refl, all_bytes (drop 1 mark)), refl)) (λ y are such. tt) (λ b c e. one_mark b c) r was sorts
