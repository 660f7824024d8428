-- Entries that are read, and histories that end by a Roll.
use Rattle.std.proofs.Common.{◌≡◌, ◌<◌, ◌||◌, ℕ, List, [], ◌∷◌, ◌++◌, refl, sym, ap, subst, ◌∙◌, append-nil, arith, Option, Some, None, Ok, Err, Bool, not, true, false}
use Rattle.std.specs.List.{list_any}
use Rattle.std.specs.Prelude.{IfSome, Result, ⊤}
use Rattle.edges.proofs.ToldBytes.{consumes_none}
use Rattle.journal_reader.proofs.ActParts.{rolling_only}
use Rattle.journal_reader.proofs.Parts.{GoesOn, both_read, first_stops, second_stops}
use Rattle.journal_reader.proofs.Views.{seen_stops, sorted}
use Rattle.journal_reader.specs.Acts.{IsActOf, of_act}
use Rattle.journal_reader.specs.Reads.{BeginOnlyWith, Reads, Sorts}
use Rattle.journal_reader.specs.declared.history.History.{History}
use Rattle.journal_reader.specs.declared.unread.Unread.{Unread}
use Rattle.journal_reader.specs.declared.unread.Unread.TheVariants.{NotThere}
use Rattle.pg_text.specs.declared.failure.Failure.{Failure}
use Rattle.pg_text.specs.declared.failure.Failure.TheVariants.{Fault}
use Rattle.site_journal.specs.Codes.{IsList, of_list}
use Rattle.site_journal.specs.Journal.{kind_of, of_entry}
use Rattle.site_journal.specs.Reading.{EndsByRoll, IsEntry, is_roll}
use Rattle.site_words.specs.declared.words.Entry.{Entry}
use Rattle.site_words.specs.declared.words.Op.{Op}
use Rattle.site_words.specs.declared.words.Op.TheVariants as op
use Rattle.site_words.specs.declared.words.Reply.{Reply}
use Rattle.site_words.specs.declared.words.Reply.TheVariants as reply

-- an operation by its kind

pub act_of : {left later : Option (List ℕ)} {room rest before now : ℕ} (kind n : ℕ) (r : Result (Op × Reply) (Failure Unread)) → kind ≡ n
    → Reads (IsActOf n) of_act left later room rest before now r → Reads (IsActOf kind) of_act left later room rest before now r
act_of {left = left} {later = later} {room = room} {rest = rest} {before = before} {now = now} kind n r same was = subst (λ m. Reads (IsActOf m) of_act left later room rest before now r) (sym same) was

roll_only : (left : Option (List ℕ)) → IfSome left (BeginOnlyWith (IsActOf 10) of_act (λ y. y ≡ (op.Roll, reply.Rolled)))
roll_only None = tt
roll_only (Some bytes) = λ y s is at. rolling_only y is

-- a Roll has no parts
pub roll_read : (left : Option (List ℕ)) (room before : ℕ) → Reads (IsActOf 10) of_act left left room room before before (Ok (op.Roll, reply.Rolled))
roll_read left room before = record {
  answered = record {
    is = record { is_kind = refl; fits = refl; op = tt; reply = tt };
    consumed = consumes_none left;
    counted = omega arith;
    only = roll_only left;
  };
  took = ([], consumes_none left);
  counted = omega arith;
}

kind_some : (o : Op) → 0 < kind_of o
kind_some op.Roll = omega arith
kind_some o = omega arith

kind_most : (o : Op) → kind_of o < 11
kind_most op.Roll = omega arith
kind_most o = omega arith

none_such : (left : Option (List ℕ)) (kind : ℕ) → ((y : Op × Reply) → IsActOf kind y → ⊥) → IfSome left (BeginOnlyWith (IsActOf kind) of_act (λ y. ⊥))
none_such None kind none = tt
none_such (Some bytes) kind none = λ y s is at. none y is

-- there is no such kind
pub no_kind : (left : Option (List ℕ)) (room before kind : ℕ) → ((n : ℕ) → 0 < n → n < 11 → kind ≡ n → ⊥) → Reads (IsActOf kind) of_act left left room room before before (Err (Fault NotThere))
no_kind left room before kind none = record {
  answered = none_such left kind (λ y is. none (kind_of y.0) (kind_some y.0) (kind_most y.0) (sym is.is_kind));
  took = ([], consumes_none left);
  counted = omega arith;
}

-- an entry: its pass and its kind, then the operation and the reply

abbrev AreBytes : ℕ × ℕ → Type 0
AreBytes a = ⊤ × ⊤

abbrev of_bytes : ℕ × ℕ → List ℕ
of_bytes a = (a.0 ∷ []) ++ (a.1 ∷ [])

abbrev entry_of : ℕ → Op × Reply → Entry
entry_of pass act = record { pass = pass; op = act.0; reply = act.1 }

entry_goes : (pass kind : ℕ) → GoesOn AreBytes of_bytes (IsActOf kind) of_act IsEntry of_entry (pass, kind) (λ y x u. y ≡ entry_of pass x)
entry_goes pass kind y is = (
  (y.pass, kind_of y.op),
  of_act (y.op, y.reply),
  (tt, tt),
  refl,
  λ same.
      let passes : y.pass ≡ pass = ap (λ (a : ℕ × ℕ). a.0) same in
      let kinds : kind_of y.op ≡ kind = ap (λ (a : ℕ × ℕ). a.1) same in (
        (y.op, y.reply),
        [],
        record { is_kind = kinds; fits = is.fits ∙ kinds; op = is.op_is; reply = is.reply_is },
        sym (append-nil (of_act (y.op, y.reply))),
        ap (λ p. entry_of p (y.op, y.reply)) passes,
      ),
)

pub entry_stops : {left later : Option (List ℕ)} {room rest before now : ℕ} {failure : Failure Unread} → Reads AreBytes of_bytes left later room rest before now (Err failure)
    → Reads IsEntry of_entry left later room rest before now (Err failure)
entry_stops was = first_stops AreBytes of_bytes IsEntry of_entry (λ y is. ((y.pass, kind_of y.op), of_act (y.op, y.reply), (tt, tt), refl)) was

pub entry_parts_stop : {left mid later : Option (List ℕ)} {room half rest before between now pass kind : ℕ} {failure : Failure Unread} → Reads AreBytes of_bytes left mid room half before between (Ok (pass, kind))
    → Reads (IsActOf kind) of_act mid later half rest between now (Err failure) → Reads IsEntry of_entry left later room rest before now (Err failure)
entry_parts_stop {pass = pass} {kind = kind} first second =
    second_stops AreBytes of_bytes (IsActOf kind) of_act IsEntry of_entry
    (λ y is. let n = entry_goes pass kind y is in (n.0, n.1, n.2, n.3, λ same. let m = n.4 same in (m.0, m.1, m.2, m.3, tt))) first second

pub entry_read : {left mid later : Option (List ℕ)} {room half rest before between now pass kind : ℕ} {act : Op × Reply} → pass < 256 → Reads AreBytes of_bytes left mid room half before between (Ok (pass, kind))
    → Reads (IsActOf kind) of_act mid later half rest between now (Ok act) → Reads IsEntry of_entry left later room rest before now (Ok (entry_of pass act))
entry_read {pass = pass} {kind = kind} {act = act} below first second =
    let is = second.answered.is in
    both_read AreBytes of_bytes (IsActOf kind) of_act IsEntry of_entry
    (record { pass = below; fits = is.fits ∙ sym is.is_kind; op_is = is.op; reply_is = is.reply })
    (ap (λ n. pass ∷ n ∷ of_act act) is.is_kind)
    (λ y q. let n = entry_goes pass kind y q in (n.0, n.1, n.2, n.3, λ same. let m = n.4 same in (m.0, m.1, m.2, m.3, λ last. m.4 ∙ ap (entry_of pass) last)))
    first second

-- a history: entries that end by a Roll

abbrev pub IsHistory : History → Type 0
IsHistory history = IsList IsEntry history.entries × EndsByRoll history.entries

abbrev pub of_history : History → List ℕ
of_history history = of_list of_entry history.entries

one_history : (b c : History) → b.entries ≡ c.entries → b ≡ c
one_history b c e = ap (λ xs. record { entries = xs }) e

pub history_stops : {left later : Option (List ℕ)} {room rest before now : ℕ} {failure : Failure Unread} → Reads (IsList IsEntry) (of_list of_entry) left later room rest before now (Err failure) → Reads IsHistory of_history left later room rest before now (Err failure)
history_stops was = seen_stops (IsList IsEntry) (of_list of_entry) IsHistory of_history (λ y. y.entries) (λ y. refl) (λ y is. is.0) was

pub history_sorted : {left later : Option (List ℕ)} {room rest before now : ℕ} {entries : List Entry} (r : Result History (Failure Unread)) → Reads (IsList IsEntry) (of_list of_entry) left later room rest before now (Ok entries)
    → Sorts (λ history. history.entries) EndsByRoll entries r → Reads IsHistory of_history left later room rest before now r
history_sorted r was sorts =
    sorted (IsList IsEntry) (of_list of_entry) IsHistory of_history (λ y. y.entries) EndsByRoll (λ y. refl) (λ y is. is) (λ y are end. (are, end)) one_history r was sorts

-- the Roll at the end

neither : (a b : Bool) → (a || b) ≡ false → (a ≡ false) × (b ≡ false)
neither false b none = (refl, none)
neither true b none = absurd (cc)

pub ends : (front : List Entry) (last : Entry) → is_roll last ≡ true → list_any is_roll front ≡ false → EndsByRoll (front ++ last ∷ [])
ends [] last is none = is
ends (e ∷ []) last is none = ((neither (is_roll e) false none).0, is)
ends (e ∷ f ∷ front) last is none = let both = neither (is_roll e) (list_any is_roll (f ∷ front)) none in (both.0, ends (f ∷ front) last is both.1)

any_none : (a b : Bool) → a ≡ false → b ≡ false → (a || b) ≡ false
any_none a b first second = ap (λ c. c || b) first ∙ second

pub ends_so : (front : List Entry) (last : Entry) → EndsByRoll (front ++ last ∷ []) → (is_roll last ≡ true) × (list_any is_roll front ≡ false)
ends_so [] last end = (end, refl)
ends_so (e ∷ []) last end = (end.1, any_none (is_roll e) false end.0 refl)
ends_so (e ∷ f ∷ front) last end = let more = ends_so (f ∷ front) last end.1 in (more.0, any_none (is_roll e) (list_any is_roll (f ∷ front)) end.0 more.1)

pub ends_where : (entries front : List Entry) (last : Entry) (roll has : Bool) → entries ≡ front ++ last ∷ [] → roll ≡ is_roll last → has ≡ list_any is_roll front → roll ≡ true
    → (not has ≡ true → EndsByRoll entries) × (EndsByRoll entries → not has ≡ true)
ends_where entries front last roll false at is any rolls = (λ none. subst EndsByRoll (sym at) (ends front last (sym is ∙ rolls) (sym any)), λ end. refl)
ends_where entries front last roll true at is any rolls = (
  λ (none : false ≡ true). absurd (cc),
  λ end.
      let none : list_any is_roll front ≡ false = (ends_so front last (subst EndsByRoll at end)).1 in
      let both : true ≡ false = any ∙ none in
      absurd (cc),
)

pub no_end : (entries front : List Entry) (last : Entry) (roll : Bool) → entries ≡ front ++ last ∷ [] → roll ≡ is_roll last → roll ≡ false → (roll ≡ true → EndsByRoll entries) × (EndsByRoll entries → roll ≡ true)
no_end entries front last roll at is other = (
  λ rolls.
      let both : true ≡ false = sym rolls ∙ other in
      absurd (cc),
  λ end. is ∙ (ends_so front last (subst EndsByRoll at end)).0,
)
