-- What is recorded can be a journal.
use Rattle.std.proofs.Common.{◌≡◌, inl, inr, ℕ, ◌+◌, false, List, [], ◌∷◌, Option, Some, refl, sym, ap, subst, ◌∙◌}
use Rattle.conversation.specs.Conversation.{IsConversation, Tells}
use Rattle.conversation.specs.Exchange.{Exchange}
use Rattle.conversation.specs.declared.ended.Ended.{Ended}
use Rattle.conversation.specs.declared.ended.Ended.TheVariants as ended
use Rattle.compiled_pages.specs.Pages.{needs_at}
use Rattle.http_in.specs.declared.request.Request.{Request}
use Rattle.page_answers.specs.Standing.{standing_of}
use Rattle.page_answers.specs.Turns.{Turn, all_calls, calls_of, hit, made, missed, stepped, unoffered}
use Rattle.pages_record.specs.Recorded.{IsRecorded, IsTalked, end_number}
use Rattle.pages_talk.specs.Play.{only_connection}
use Rattle.right_journal.specs.Right.{IsNumberOf}
use Rattle.site_journal.specs.Journal.{kind_of, replied_kind, rolled}
use Rattle.site_journal.specs.Reading.{EndsByRoll, HasParts, IsEntry, IsJournal, is_roll}
use Rattle.site_journal.specs.declared.talk.Talk.{Talk}
use Rattle.site_words.proofs.Items.{each_both, each_push}
use Rattle.site_words.proofs.Trees.{did_reply}
use Rattle.site_words.specs.Law.{Follows, LegalFrom}
use Rattle.site_words.specs.State.{State, moved, start_of}
use Rattle.site_words.specs.Step.{refusal_of, reply_to}
use Rattle.site_words.specs.Trees.{Each, Needs}
use Rattle.site_words.specs.declared.words.Entry.{Entry}
use Rattle.site_words.specs.declared.words.Op.{Op}
use Rattle.site_words.specs.declared.words.Op.TheVariants as op
use Rattle.site_words.specs.declared.words.Opening.{Opening}
use Rattle.site_words.specs.declared.words.Reply.{Reply}
use Rattle.talk_law.proofs.Alone.{done_is, entries_by, entry_by}
use Rattle.talk_law.specs.OneTalk.{IsByBytes}
use Rattle.talk_words.specs.Connection.{Connection, Stand, stand_of}
use Rattle.talk_words.specs.Said.{IsLeft, IsSaid, way}
use Rattle.talk_words.specs.Uses.{AreUsed, EachOnce, IsEnd, Uses}
use Rattle.talk_words.specs.declared.way.Way.{Way}
use Rattle.talk_words.specs.declared.way.Way.TheVariants.{Edits, Nowhere, Asks}

-- each reply is of its operation's kind

reply_kind : (needs : Needs) (x : Opening) (s : State) (pass : ℕ) (o : Op) → replied_kind (reply_to needs x s pass o) ≡ kind_of o
reply_kind needs x s pass (op.Publish base edits) = refl
reply_kind needs x s pass (op.Begin cookie moment) = refl
reply_kind needs x s pass (op.App request step) = refl
reply_kind needs x s pass (op.Fresh request) = refl
reply_kind needs x s pass (op.Fetch request path) = refl
reply_kind needs x s pass (op.Offer request path) = refl
reply_kind needs x s pass (op.End request attrs) = refl
reply_kind needs x s pass (op.Abandon request) = refl
reply_kind needs x s pass (op.Snapshot cookie) = refl
reply_kind needs x s pass op.Roll = refl

fits_kind : (needs : Needs) (x : Opening) (s : State) (e : Entry) → Follows needs x s e → replied_kind e.reply ≡ kind_of e.op
fits_kind needs x s e follows =
    let same = did_reply (refusal_of needs x s e.pass e.op) (reply_to needs x s e.pass e.op) e.reply follows.did in
    ap replied_kind (sym same.0) ∙ reply_kind needs x s e.pass e.op

are_entries : (needs : Needs) (x : Opening) (s : State) (history : List Entry) → LegalFrom needs x s history → Each HasParts history → Each IsEntry history
are_entries needs x s [] legal parts = tt
are_entries needs x s (e ∷ history) legal parts =
    let first = parts.0 in
    (record { pass = first.pass; fits = fits_kind needs x s e legal.0; op_is = first.op_is; reply_is = first.reply_is }, are_entries needs x (moved needs x s e) history legal.1 parts.1)

-- a connection asks for no Roll

abbrev NoRoll : Entry → Type 0
NoRoll e = is_roll e ≡ false

abbrev AsksNone : Op × Reply → Type 0
AsksNone call = NoRoll (entry_by 0 call)

turn_asks_none : (request : ℕ) (turn : Turn) → Each AsksNone (calls_of request turn)
turn_asks_none request (stepped step r) = (refl, tt)
turn_asks_none request (made session) = (refl, tt)
turn_asks_none request (hit path) = (refl, tt)
turn_asks_none request (missed path kept) = (refl, (refl, tt))
turn_asks_none request (unoffered path) = (refl, tt)

turns_ask_none : (request : ℕ) (turns : List Turn) → Each AsksNone (all_calls request turns)
turns_ask_none request [] = tt
turns_ask_none request (turn ∷ turns) = each_both AsksNone (calls_of request turn) (all_calls request turns) (turn_asks_none request turn) (turns_ask_none request turns)

uses_ask_none : (route : Way) (request : Request) (old : Stand) (calls : List (Op × Reply)) → Uses route request old calls IsEnd → Each AsksNone calls
uses_ask_none Edits request old calls (inl is) = subst (Each AsksNone) (sym is.is) (refl, tt)
uses_ask_none Edits request old calls (inr none) = subst (Each AsksNone) (sym none) tt
uses_ask_none Nowhere request old calls none = subst (Each AsksNone) (sym none) tt
uses_ask_none Asks request old calls (inl is) =
    subst (Each AsksNone) (sym is.is) (refl, each_push AsksNone (all_calls is.number is.turns) is.last (turns_ask_none is.number is.turns) (subst AsksNone (sym is.ended.1) refl))
uses_ask_none Asks request old calls (inr none) = subst (Each AsksNone) (sym none) tt

all_ask_none : (w : Connection) (number : ℕ) (old : Stand) (exchanges : List Exchange) (calls : List (Op × Reply)) (new : Stand) → AreUsed w number old exchanges calls new → Each AsksNone calls
all_ask_none w number old [] calls new used = subst (Each AsksNone) (sym used.1) tt
all_ask_none w number old (e ∷ exchanges) calls new used =
    let first = used.2 in
    let rest = used.3 in
    subst (Each AsksNone) (sym used.4)
    (each_both AsksNone first.calls rest (uses_ask_none (way w e.request) e.request old first.calls first.uses) (all_ask_none w (number + 1) used.0 exchanges rest new used.5))

entries_of_none : (calls : List (Op × Reply)) → Each AsksNone calls → Each NoRoll (entries_by 0 calls)
entries_of_none [] none = tt
entries_of_none (call ∷ calls) none = (none.0, entries_of_none calls none.1)

-- an end that has a number came by the bytes, and the number is its own
pub numbered : (end : Ended) (number : ℕ) → end_number end ≡ Some number → IsByBytes end × IsNumberOf number end
numbered ended.Done number is = (tt, (cc))
numbered (ended.Refused fault) number is = (tt, (cc))
numbered ended.ReadFault number is = absurd (cc)
numbered ended.WriteFault number is = absurd (cc)
numbered ended.NoMemory number is = absurd (cc)

talked_by_bytes : (w : Connection) (start now : Stand) (left later : Option (List ℕ)) (before risen : ℕ) (old new : Option (List ℕ)) (answer : Ended) → IsByBytes answer
    → Tells (IsSaid w) (IsLeft w) start now left later before risen old new answer → IsConversation (IsSaid w) start now left later old new answer
talked_by_bytes w start now left later before risen old new ended.Done by tells = tells
talked_by_bytes w start now left later before risen old new (ended.Refused fault) by tells = tells
talked_by_bytes w start now left later before risen old new ended.ReadFault by tells = absurd by
talked_by_bytes w start now left later before risen old new ended.WriteFault by tells = absurd by
talked_by_bytes w start now left later before risen old new ended.NoMemory by tells = absurd by

talk_asks_none : EachOnce → (x : Opening) (history : List Entry) (talk : Talk) (steps now : ℕ) → x.passes ≡ 1 → IsTalked x history talk steps now → Each NoRoll history
talk_asks_none once x history talk steps now one is =
    let w : Connection = only_connection x in
    let start : Stand = stand_of [] (standing_of [] is.start steps) in
    let end : Stand = stand_of is.draft (standing_of history is.still now) in
    let whole = talked_by_bytes w start end (Some talk.bytes) is.later is.before is.risen (Some []) (Some talk.answers) is.ended (numbered is.ended talk.ended is.end_is).0 is.tells in
    let used = once.walked w 0 start end whole.exchanges tt whole.walked in
    let is_calls : history ≡ entries_by 0 used.calls = done_is needs_at x 0 one refl [] history used.calls tt used.did in
    subst (Each NoRoll) (sym is_calls) (entries_of_none used.calls (all_ask_none w 0 start whole.exchanges used.calls end used.used))

-- so its last entry alone is a Roll

ends_by_roll : (history : List Entry) → Each NoRoll history → EndsByRoll (rolled history)
ends_by_roll [] none = refl
ends_by_roll (e ∷ []) none = (none.0, refl)
ends_by_roll (e ∷ next ∷ history) none = (none.0, ends_by_roll (next ∷ history) none.1)

-- and its parts are such as have a code
pub can_be : EachOnce → (x : Opening) (bytes : List ℕ) (steps now : ℕ) (next : Opening) (text : List ℕ) → x.passes ≡ 1 → (is : IsRecorded x bytes steps now next text) → IsJournal x (rolled is.history) (Some is.talk)
can_be once x bytes steps now next text one is =
    let code = is.has_code in
    record {
      opening = code.opening;
      entries = (code.entries.0, are_entries needs_at x (start_of x) (rolled is.history) is.is_legal code.entries.1);
      rolls = ends_by_roll is.history (talk_asks_none once x is.history is.talk steps now one is.talked);
      talk_is = code.talk_is;
    }
