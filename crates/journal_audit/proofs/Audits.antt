-- Journals that are audited one behind the other.
use Rattle.std.proofs.Common.{◌≡◌, ℕ, ◌+◌, ◌≤◌, ◌<◌, List, [], ◌∷◌, ◌++◌, length, Option, Some, None, refl, sym, ap, subst, ◌∙◌, append_assoc, append-nil, length-append, arith}
use Rattle.std.specs.Prelude.{Err, flat_map, IfSome}
use Rattle.std.specs.Io.KnownBytes.{Consumes, IsAtEnd}
use Rattle.std.specs.Option.{option_map}
use Rattle.edges.proofs.ToldBytes.{consumes_both, consumes_none, none_left, told_front}
use Rattle.edges.specs.Faults.{Rose}
use Rattle.journal_audit.specs.Audit.{Audited, IsTooLong, fault_of, most_bytes}
use Rattle.journal_audit.specs.Judge.{GoesOnAs, IsJudged, part_of, seen}
use Rattle.journal_audit.specs.declared.judging.Judged.TheVariants.{Right, Wrong}
use Rattle.journal_audit.specs.declared.verdict.Why.{Why}
use Rattle.journal_reader.specs.Next.{IsJournalOf}
use Rattle.journal_reader.specs.Next as Reader
use Rattle.journal_reader.specs.Reads.{AreBeyond, BeginOnlyWith, HasRead, Stopped}
use Rattle.journal_reader.specs.declared.journal.Journal.{Journal as ReadJournal}
use Rattle.journal_reader.specs.declared.unread.Unread.{Unread}
use Rattle.journal_reader.specs.declared.unread.Unread.TheVariants.{Failed, NotThere}
use Rattle.journal_reader.specs.declared.unread.Unread.TheVariants as unread
use Rattle.pg_text.specs.declared.failure.Failure.{Failure}
use Rattle.pg_text.specs.declared.failure.Failure.TheVariants.{Fault}
use Rattle.pg_text.specs.declared.failure.Failure.TheVariants as failure
use Rattle.right_journal.specs.Right.{IsRight, Journal, goes_on_as}
use Rattle.right_journal.specs.Verdict.{AllRight, CanBe, Holds, entries_in, last_of, no, no_journal, of_journal, yes}
use Rattle.site_journal.specs.Codes.{of_list, of_number, of_option}
use Rattle.site_journal.specs.Journal.{mark, of_entry, of_opening, of_talk}
use Rattle.site_words.specs.Trees.{Needs}
use Rattle.site_words.specs.declared.words.Entry.{Entry}
use Rattle.site_words.specs.declared.words.Opening.{Opening}

-- lists of journals

right_next : (needs : Needs) (before : Option Journal) (front : List Journal) (j : Journal) → AllRight needs before front → CanBe j → IsRight needs (last_of before front) j → AllRight needs before (front ++ j ∷ [])
right_next needs before [] j all can right = (can, right, tt)
right_next needs before (k ∷ front) j all can right = (all.0, all.1, right_next needs (Some k) front j all.2 can right)

last_next : (before : Option Journal) (front : List Journal) (j : Journal) → last_of before (front ++ j ∷ []) ≡ Some j
last_next before [] j = refl
last_next before (k ∷ front) j = last_next (Some k) front j

bytes_next : (front : List Journal) (j : Journal) → flat_map of_journal (front ++ j ∷ []) ≡ flat_map of_journal front ++ of_journal j
bytes_next [] j = append-nil (of_journal j)
bytes_next (k ∷ front) j = ap (λ l. of_journal k ++ l) (bytes_next front j) ∙ sym (append_assoc (of_journal k) (flat_map of_journal front) (of_journal j))

entries_next : (front : List Journal) (j : Journal) → entries_in (front ++ j ∷ []) ≡ entries_in front + length j.history
entries_next [] j = omega arith
entries_next (k ∷ front) j = let e = entries_next front j in omega (arith, e)

count_next : (front : List Journal) (j : Journal) → length (front ++ j ∷ []) ≡ length front + 1
count_next front j = length-append front (j ∷ [])

-- an entry takes a byte at least, and so does what is before the entries

entries_long : (entries : List Entry) → length entries ≤ length (flat_map of_entry entries)
entries_long [] = omega arith
entries_long (e ∷ entries) =
    let more = entries_long entries in
    let both = length-append (of_entry e) (flat_map of_entry entries) in
    omega (arith, more, both)

journal_long : (j : Journal) → length j.history + 1 ≤ length (of_journal j)
journal_long j =
    let front : List ℕ = mark ++ of_opening j.opening in
    let eight : length mark ≡ 8 = refl in
    let a : length front ≡ length mark + length (of_opening j.opening) = length-append mark (of_opening j.opening) in
    let b : length (front ++ of_list of_entry j.history) ≡ length front + length (of_list of_entry j.history) = length-append front (of_list of_entry j.history) in
    let c : length (of_journal j) ≡ length (front ++ of_list of_entry j.history) + length (of_option of_talk j.talk) = length-append (front ++ of_list of_entry j.history) (of_option of_talk j.talk) in
    let d : length (of_list of_entry j.history) ≡ length (of_number (length j.history)) + length (flat_map of_entry j.history) = length-append (of_number (length j.history)) (flat_map of_entry j.history) in
    let e = entries_long j.history in
    omega (arith, a, b, c, d, e, eight)

-- so many right journals came, and the next goes on from the last of them
pub record SoFar (needs : Needs) (left later : Option (List ℕ)) (room : ℕ) (before : Option Opening) (journals entries : ℕ) : Type 0 where
  pub front : List Journal
  pub right : AllRight needs None front
  pub consumed : Consumes left later (flat_map of_journal front)
  pub goes_on : GoesOnAs needs (last_of None front) before
  pub counted : journals ≡ length front
  pub summed : entries ≡ entries_in front
  pub spent : room + length (flat_map of_journal front) ≡ most_bytes
  pub few : journals + room ≤ most_bytes
  pub items : entries + room ≤ most_bytes

pub at_start : (needs : Needs) (left : Option (List ℕ)) → SoFar needs left left most_bytes None 0 0
at_start needs left = record {
  front = [];
  right = tt;
  consumed = consumes_none left;
  goes_on = refl;
  counted = refl;
  summed = refl;
  spent = refl;
  few = omega arith;
  items = omega arith;
}

-- a right journal more
pub further : (needs : Needs) (left mid later : Option (List ℕ)) (room rest : ℕ) (before : Option Opening) (next : Opening) (journals entries count : ℕ) (j : ReadJournal) → SoFar needs left mid room before journals entries
    → HasRead IsJournalOf Reader.of_journal mid later room rest j → count ≡ length j.history → ((last : Option Journal) → GoesOnAs needs last before → IsJudged needs last (seen j) (Right next))
    → SoFar needs left later rest (Some next) (journals + 1) (entries + count)
further needs left mid later room rest before next journals entries count j so read items judged =
    let is = judged (last_of None so.front) so.goes_on in
    let bytes = bytes_next so.front (seen j) in
    let long = journal_long (seen j) in
    let joined : length (flat_map of_journal so.front ++ of_journal (seen j)) ≡ length (flat_map of_journal so.front) + length (of_journal (seen j)) = length-append (flat_map of_journal so.front) (of_journal (seen j)) in
    let whole : length (flat_map of_journal (so.front ++ seen j ∷ [])) ≡ length (flat_map of_journal so.front) + length (of_journal (seen j)) = ap length bytes ∙ joined in
    let room_is : room ≡ rest + length (of_journal (seen j)) = read.counted in
    let a = so.spent in
    let b = so.few in
    let c = so.items in
    record {
      front = so.front ++ seen j ∷ [];
      right = right_next needs None so.front (seen j) so.right read.is is.0;
      consumed = subst (Consumes left later) (sym bytes) (consumes_both left mid later (flat_map of_journal so.front) (of_journal (seen j)) so.consumed read.consumed);
      goes_on = ap (λ o. Some o) is.1 ∙ ap (λ last. option_map (goes_on_as needs) last) (sym (last_next None so.front (seen j)));
      counted = ap (λ n. n + 1) so.counted ∙ sym (count_next so.front (seen j));
      summed = ap (λ n. n + count) so.summed ∙ ap (λ n. entries_in so.front + n) items ∙ sym (entries_next so.front (seen j));
      spent = omega (arith, whole, room_is, a);
      few = omega (arith, room_is, long, b);
      items = omega (arith, room_is, long, c, items);
    }

-- it ends at the source's end
pub said_yes : (needs : Needs) (left later : Option (List ℕ)) (room : ℕ) (before : Option Opening) (journals entries : ℕ) → SoFar needs left later room before journals entries → IsAtEnd later → IfSome left (λ bytes. Holds needs bytes (yes journals entries))
said_yes needs None later room before journals entries so end = tt
said_yes needs (Some bytes) later room before journals entries so end =
    let came = told_front bytes later (flat_map of_journal so.front) so.consumed in
    let none = none_left later came.0 came.1 end in
    (so.front, record { right = so.right; is = came.2 ∙ ap (λ rest. flat_map of_journal so.front ++ rest) none }, so.counted, so.summed)

-- a journal is wrong
pub said_no : (needs : Needs) (left mid later : Option (List ℕ)) (room rest : ℕ) (before : Option Opening) (journals entries : ℕ) (why : Why) (j : ReadJournal) → SoFar needs left mid room before journals entries
    → HasRead IsJournalOf Reader.of_journal mid later room rest j → ((last : Option Journal) → GoesOnAs needs last before → IsJudged needs last (seen j) (Wrong why)) → IfSome left (λ bytes. Holds needs bytes (no journals (part_of why)))
said_no needs None mid later room rest before journals entries why j so read judged = tt
said_no needs (Some bytes) mid later room rest before journals entries why j so read judged =
    let came = told_front bytes mid (flat_map of_journal so.front) so.consumed in
    let next = told_front came.0 later (of_journal (seen j)) (subst (λ l. Consumes l later (of_journal (seen j))) came.1 read.consumed) in (
      so.front,
      came.0,
      record { right = so.right; is = came.2 },
      so.counted,
      record { journal = seen j; more = next.0; can_be = read.is; is = next.2; wrong = judged (last_of None so.front) so.goes_on },
    )

-- no journal was read

abbrev unseen : Journal → ReadJournal
unseen j = record { opening = j.opening; history = j.history; talk = j.talk }

not_there : (needs : Needs) (left mid : Option (List ℕ)) (room : ℕ) (before : Option Opening) (journals entries : ℕ) → SoFar needs left mid room before journals entries
    → IfSome mid (BeginOnlyWith IsJournalOf Reader.of_journal (λ y. ⊥)) → IfSome mid (λ bytes. bytes ≡ [] → ⊥) → IfSome left (λ bytes. Holds needs bytes (no_journal journals))
not_there needs None mid room before journals entries so none some = tt
not_there needs (Some bytes) mid room before journals entries so none some =
    let came = told_front bytes mid (flat_map of_journal so.front) so.consumed in
    let none_at : IfSome (Some came.0) (BeginOnlyWith IsJournalOf Reader.of_journal (λ y. ⊥)) = subst (λ m. IfSome m (BeginOnlyWith IsJournalOf Reader.of_journal (λ y. ⊥))) came.1 none in
    let some_at : IfSome (Some came.0) (λ bytes. bytes ≡ [] → ⊥) = subst (λ m. IfSome m (λ bytes. bytes ≡ [] → ⊥)) came.1 some in
    (so.front, came.0, record { right = so.right; is = came.2 }, so.counted, (some_at, λ j more can is. none_at (unseen j) more can is))

too_long : (needs : Needs) (left mid : Option (List ℕ)) (room : ℕ) (before : Option Opening) (journals entries : ℕ) → SoFar needs left mid room before journals entries
    → IfSome mid (AreBeyond IsJournalOf Reader.of_journal room) → IfSome left (λ bytes. IsTooLong needs bytes journals)
too_long needs None mid room before journals entries so beyond = tt
too_long needs (Some bytes) mid room before journals entries so beyond =
    let came = told_front bytes mid (flat_map of_journal so.front) so.consumed in
    let at : IfSome (Some came.0) (AreBeyond IsJournalOf Reader.of_journal room) = subst (λ m. IfSome m (AreBeyond IsJournalOf Reader.of_journal room)) came.1 beyond in
    let long = length-append (flat_map of_journal so.front) came.0 in
    let whole : length bytes ≡ length (flat_map of_journal so.front ++ came.0) = ap length came.2 in
    let spent = so.spent in
    let more : room < length came.0 = at.0 in
    record {
      journals = so.front;
      rest = came.0;
      begins = record { right = so.right; is = came.2 };
      counted = so.counted;
      longer = omega (arith, long, whole, spent, more);
      beyond = λ j rest can is. let far : room < length (of_journal j) = at.1 (unseen j) rest can is in omega (arith, far, spent);
    }

rose_since : (first before now : ℕ) → first ≤ before → Rose before now → Rose first now
rose_since first before now later rose = omega (arith, later, rose)

pub stops : (needs : Needs) (failure : Failure Unread) (left mid : Option (List ℕ)) (room first faults now : ℕ) (before : Option Opening) (journals entries : ℕ) → SoFar needs left mid room before journals entries → first ≤ faults
    → Stopped IsJournalOf Reader.of_journal mid room faults now failure × (failure ≡ Fault NotThere → IfSome mid (λ bytes. bytes ≡ [] → ⊥)) → Audited needs left first now (Err (fault_of failure journals))
stops needs (Fault NotThere) left mid room first faults now before journals entries so later stopped = not_there needs left mid room before journals entries so stopped.0 (stopped.1 refl)
stops needs (Fault unread.TooLong) left mid room first faults now before journals entries so later stopped = too_long needs left mid room before journals entries so stopped.0
stops needs (Fault Failed) left mid room first faults now before journals entries so later stopped = rose_since first faults now later stopped.0
stops needs failure.NoMemory left mid room first faults now before journals entries so later stopped = tt
