-- Where one pass alone acts, the bytes have one talk.
use Rattle.std.proofs.Common.{◌≡◌, ℕ, ◌+◌, Bool, List, [], ◌∷◌, ◌++◌, sym, ap, subst, ◌∙◌, Option, Some, None}
use Rattle.std.specs.Io.KnownBytes.{Appends}
use Rattle.conversation.proofs.OneConversation.{one_walk}
use Rattle.conversation.specs.Conversation.{IsConversation, Tells, Walked, closes, last_words, outcome_of, texts}
use Rattle.conversation.specs.Exchange.{Exchange}
use Rattle.conversation.specs.declared.ended.Ended.{Ended}
use Rattle.conversation.specs.declared.ended.Ended.TheVariants as ended
use Rattle.talk_law.proofs.Exchanges.{IsGood, said_one, tells_said}
use Rattle.talk_law.specs.OneTalk.{IsAlone, IsByBytes, TalksAreOne}
use Rattle.page_meaning.specs.Laws.{RequestsGoOn}
use Rattle.talk_words.proofs.UseLemmas.{said_used}
use Rattle.talk_words.specs.Connection.{Connection, Stand}
use Rattle.talk_words.specs.Said.{IsLeft, IsSaid}

-- an exchange from a good state
abbrev Serves : Connection → Bool → Stand → Exchange → Stand → Type 0
Serves w close old e now = IsGood w old × IsSaid w close old e now

good_walk : RequestsGoOn → (w : Connection) → IsAlone w → (number : ℕ) (old now : Stand) (exchanges : List Exchange) → IsGood w old → Walked (IsSaid w) number old exchanges now → Walked (Serves w) number old exchanges now
good_walk go_on w alone number old now [] good walked = walked
good_walk go_on w alone number old now (e ∷ exchanges) good walked =
    let close : Bool = closes number e.request in
    let used = said_used w close old walked.0 e good.0 walked.1 in
    let next : IsGood w walked.0 = (used.did.is_legal, tells_said go_on w alone close old walked.0 e good.1 walked.1) in
    (walked.0, (good, walked.1), good_walk go_on w alone (number + 1) walked.0 now exchanges next walked.2)

-- what came to its end by the bytes is a conversation
by_bytes : (w : Connection) (start now : Stand) (left later old new : Option (List ℕ)) (before after : ℕ) (answer : Ended) → IsByBytes answer
    → Tells (IsSaid w) (IsLeft w) start now left later before after old new answer → IsConversation (IsSaid w) start now left later old new answer
by_bytes w start now left later old new before after ended.Done by tells = tells
by_bytes w start now left later old new before after (ended.Refused fault) by tells = tells
by_bytes w start now left later old new before after ended.ReadFault by tells = absurd by
by_bytes w start now left later old new before after ended.WriteFault by tells = absurd by
by_bytes w start now left later old new before after ended.NoMemory by tells = absurd by

one_text : (old new after : Option (List ℕ)) (taken text : List ℕ) → old ≡ Some taken → Appends old new text → Appends old after text → after ≡ new
one_text None new after taken text is a b = absurd (cc)
one_text (Some t) None after taken text is a b = absurd a
one_text (Some t) (Some u) None taken text is a b = absurd b
one_text (Some t) (Some u) (Some v) taken text is a b = ap Some (b ∙ sym a)

pub talks_are_one : RequestsGoOn → TalksAreOne
talks_are_one go_on w start now other bytes later still before risen first last old new after answer end alone legal tells by is by_too also =
    let a = by_bytes w start now (Some bytes) later old new before risen answer by is in
    let b = by_bytes w start other (Some bytes) still old after first last end by_too also in
    let good : IsGood w start = (legal, tells) in
    let same = one_walk (Serves w) (λ close s t u e f p q request. said_one go_on w alone close s t u e f p.0 p.1 q.1 request) bytes 0 a.exchanges b.exchanges a.stop b.stop a.told.rest b.told.rest start now other
    a.told.front a.told.stops a.ends (good_walk go_on w alone 0 start now a.exchanges good a.walked)
    b.told.front b.told.stops b.ends (good_walk go_on w alone 0 start other b.exchanges good b.walked) in
    let words : texts a.exchanges ++ last_words a.stop ≡ texts b.exchanges ++ last_words b.stop = ap (λ es. texts es ++ last_words a.stop) same.0 ∙ ap (λ s. texts b.exchanges ++ last_words s) same.1 in
    record {
      stand = sym same.2;
      ended = b.outcome ∙ ap outcome_of (sym same.1) ∙ sym a.outcome;
      answers = λ taken told. one_text old new after taken (texts a.exchanges ++ last_words a.stop) told a.written (subst (λ t. Appends old after t) (sym words) b.written);
    }
