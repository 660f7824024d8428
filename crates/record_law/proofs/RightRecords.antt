-- Recorded connections are right journals.
use Rattle.std.proofs.Common.{◌≡◌, ℕ, ◌-◌, true, List, [], ◌∷◌, ◌++◌, length, Option, Some, None, refl, sym, ap, subst, ◌∙◌, append-nil, arith}
use Rattle.std.proofs.Math.Seq.{take-append_seam}
use Rattle.std.proofs.lemmas.List.{length-append}
use Rattle.std.specs.Prelude.{flat_map, take}
use Rattle.compiled_pages.specs.Pages.{needs_at}
use Rattle.page_answers.specs.Standing.{standing_of}
use Rattle.pages_record.proofs.Chain.{records_next}
use Rattle.pages_record.specs.Recorded.{IsRecorded, IsTalked, Records}
use Rattle.pages_talk.specs.Play.{only_connection, opening_of}
use Rattle.record_law.proofs.CanBe.{can_be, numbered}
use Rattle.record_law.proofs.Counted.{tells_from}
use Rattle.record_law.specs.RightRecord.{AreRightOf, CommandsAreRight, RecordsAreRight}
use Rattle.right_journal.specs.Right.{GoesOn, HasRightTalk, IsRight, Journal, unrolled}
use Rattle.right_journal.specs.Verdict.{AllRight, of_journal}
use Rattle.rollover.proofs.Rolls.{next_is_sound}
use Rattle.rollover.specs.Roll.{is_spent}
use Rattle.site_core.specs.Lived.{Lived}
use Rattle.site_journal.specs.Journal.{rolled}
use Rattle.site_journal.specs.declared.talk.Talk.{Talk}
use Rattle.site_words.specs.Laws.{NextIsSound}
use Rattle.site_words.specs.Opening.{is_sound}
use Rattle.site_words.specs.declared.words.Entry.{Entry}
use Rattle.site_words.specs.declared.words.Opening.{Opening}
use Rattle.source_tree.specs.Limits.{tree_fault}
use Rattle.talk_law.specs.RightTalk.{IsRightTalk, RecordsAreRight as RecordedTalksAreRight}
use Rattle.talk_words.specs.Connection.{Stand, stand_of}
use Rattle.talk_words.specs.Uses.{EachOnce}

-- one talk

-- without its Roll a history is as it was
without_roll : (history : List Entry) (last : Entry) → unrolled (history ++ last ∷ []) ≡ history
without_roll history last =
    let long = length-append history (last ∷ []) in
    let short : length (history ++ last ∷ []) - 1 ≡ length history = omega (arith, long) in
    ap (λ n. take n (history ++ last ∷ [])) short ∙ take-append_seam history (last ∷ [])

right_talk : RecordedTalksAreRight → (x : Opening) (history : List Entry) (talk : Talk) (steps now : ℕ) → x.passes ≡ 1 → IsTalked x history talk steps now → HasRightTalk needs_at x (rolled history) (Some talk)
right_talk law x history talk steps now one is =
    let number = numbered is.ended talk.ended is.end_is in
    let start : Stand = stand_of [] (standing_of [] is.start steps) in
    let end : Stand = stand_of is.draft (standing_of history is.still now) in
    let again = tells_from (only_connection x) start end (Some talk.bytes) is.later is.before is.risen (Some []) (Some talk.answers) is.ended 0 number.0 is.tells in
    let right : IsRightTalk needs_at x history talk.bytes talk.moments talk.answers is.ended =
    law needs_at x history talk.bytes talk.moments talk.answers is.ended is.start is.still is.draft is.later again.0 is.before is.risen one number.0 is.before_it is.noted again.1 in
    (is.ended, number.1, subst (λ h. IsRightTalk needs_at x h talk.bytes talk.moments talk.answers is.ended) (sym (without_roll history _)) right)

-- one journal

abbrev journal_of : (x : Opening) (bytes : List ℕ) (steps now : ℕ) (next : Opening) (text : List ℕ) → IsRecorded x bytes steps now next text → Journal
journal_of x bytes steps now next text is = record { opening = x; history = rolled is.history; talk = Some is.talk }

is_right : RecordedTalksAreRight → (before : Option Journal) (x : Opening) (bytes : List ℕ) (steps now : ℕ) (next : Opening) (text : List ℕ) → is_sound x ≡ true → x.passes ≡ 1 → GoesOn needs_at before x
    → (is : IsRecorded x bytes steps now next text) → IsRight needs_at before (journal_of x bytes steps now next text is)
is_right law before x bytes steps now next text sound one goes_on is =
    record { opening = record { sound = sound; goes_on = goes_on }; entries = is.is_legal; talk = right_talk law x is.history is.talk steps now one is.talked }

next_sound : NextIsSound → (x : Opening) (bytes : List ℕ) (steps now : ℕ) (next : Opening) (text : List ℕ) → is_sound x ≡ true → IsRecorded x bytes steps now next text → is_sound next ≡ true
next_sound law x bytes steps now next text sound is =
    let site : Lived = record { opening = x; history = rolled is.history } in
    subst (λ y. is_sound y ≡ true) (sym is.goes_on) (next_is_sound law needs_at site sound is.is_legal (ap is_spent (sym is.goes_on) ∙ is.room))

-- all of them

record Found (before : Option Journal) (connections : List (List ℕ)) (text : List ℕ) : Type 0 where
  journals : List Journal
  right : AreRightOf before connections journals
  is : text ≡ flat_map of_journal journals

found : NextIsSound → RecordedTalksAreRight → EachOnce → (before : Option Journal) (x : Opening) (connections : List (List ℕ)) (steps now : ℕ) (last : Opening) (text : List ℕ) → is_sound x ≡ true → x.passes ≡ 1 → GoesOn needs_at before x
    → Records x connections steps now last text → Found before connections text
found sounds talks once before x [] steps now last text sound one goes_on records = record { journals = []; right = tt; is = records.2 }
found sounds talks once before x (bytes ∷ connections) steps now last text sound one goes_on records =
    let next = records.0 in
    let mid = records.1 in
    let first = records.2 in
    let is = records.4 in
    let j : Journal = journal_of x bytes steps mid next first is in
    let next_one : next.passes ≡ 1 = ap (λ (y : Opening). y.passes) is.goes_on ∙ one in
    let rest = found sounds talks once (Some j) next connections mid now last records.3 (next_sound sounds x bytes steps mid next first sound is) next_one is.goes_on records.5 in
    record {
      journals = j ∷ rest.journals;
      right = (can_be once x bytes steps mid next first one is, is_right talks before x bytes steps mid next first sound one goes_on is, is.bytes_are, rest.right);
      is = records.6 ∙ (ap (λ t. t ++ records.3) is.text_is ∙ ap (λ t. of_journal j ++ t) rest.is);
    }

-- the verdict

all_right : (before : Option Journal) (connections : List (List ℕ)) (journals : List Journal) → AreRightOf before connections journals → AllRight needs_at before journals
all_right before [] [] right = tt
all_right before [] (j ∷ journals) right = absurd right
all_right before (bytes ∷ connections) [] right = absurd right
all_right before (bytes ∷ connections) (j ∷ journals) right = (right.0, right.1, all_right (Some j) connections journals right.3)

as_many : (before : Option Journal) (connections : List (List ℕ)) (journals : List Journal) → AreRightOf before connections journals → length connections ≡ length journals
as_many before [] [] right = refl
as_many before [] (j ∷ journals) right = absurd right
as_many before (bytes ∷ connections) [] right = absurd right
as_many before (bytes ∷ connections) (j ∷ journals) right = let rest = as_many (Some j) connections journals right.3 in omega (arith, rest)

pub records_are_right : NextIsSound → RecordedTalksAreRight → EachOnce → RecordsAreRight
records_are_right sounds talks once x connections steps now last text sound one records =
    let all = found sounds talks once None x connections steps now last text sound one tt records in
    record {
      journals = all.journals;
      right = all.right;
      is = all.is;
      verdict = (
        all.journals,
        record { right = all_right None connections all.journals all.right; is = all.is ∙ sym (append-nil (flat_map of_journal all.journals)) },
        as_many None connections all.journals all.right,
        refl,
      );
    }

-- the site of the command

-- there are no files, no attributes and no sessions
first_sound : (seed : List ℕ) → is_sound (opening_of seed) ≡ true
unfolding tree_fault
first_sound seed = refl

pub commands_are_right : RecordsAreRight → CommandsAreRight
commands_are_right law = record {
  first = λ seed. (first_sound seed, refl);
  done = λ seed left later old new steps now is. record {
    came = is.came;
    come = is.come;
    short = is.short;
    connections = is.comes.connections;
    listed = is.comes.listed;
    text = is.comes.text;
    right = law (opening_of seed) is.comes.connections steps now is.comes.last is.comes.text (first_sound seed) refl is.comes.recorded;
    written = is.comes.written;
  };
  broken = λ seed left later old new steps now is.
      let x : Opening = opening_of seed in
      let all = is.comes in
      let with_next = records_next x all.connections all.bytes steps all.mid now all.last all.next all.text all.cut all.recorded all.broken in
      record {
        came = is.came;
        come = is.come;
        short = is.short;
        connections = all.connections;
        bytes = all.bytes;
        behind = all.behind;
        rest = all.rest;
        begins = all.begins;
        then = all.then;
        text = all.text;
        cut = all.cut;
        right = law x all.connections steps all.mid all.last all.text (first_sound seed) refl all.recorded;
        right_behind = law x (all.connections ++ all.bytes ∷ []) steps now all.next (all.text ++ all.cut) (first_sound seed) refl with_next;
        written = all.written;
      };
  stopped = λ seed left later old new steps now is. record {
    came = is.came;
    consumed = is.consumed;
    connections = is.short.connections;
    behind = is.short.rest;
    begins = is.short.begins;
    text = is.short.text;
    right = law (opening_of seed) is.short.connections steps is.short.mid is.short.last is.short.text (first_sound seed) refl is.short.recorded;
    written = is.short.written;
  };
}
