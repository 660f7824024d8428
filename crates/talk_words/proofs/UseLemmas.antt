-- The entries that each request uses.
use Rattle.std.proofs.Common.{◌≡◌, ℕ, ◌+◌, List, [], ◌∷◌, ◌++◌, Bool, true, false, refl, sym, ap, subst, inl, inr}
use Rattle.std.specs.Bool.{MatchBool}
use Rattle.std.specs.Prelude.{◌⊎◌, Result, Ok, Err}
use Rattle.conversation.specs.Conversation.{Walked, closes}
use Rattle.conversation.specs.Exchange.{Exchange}
use Rattle.editor.specs.Message.{message}
use Rattle.editor.specs.Taking.{Takes}
use Rattle.editor.specs.declared.answer.EditorAnswer.{EditorAnswer}
use Rattle.editor.specs.declared.answer.EditorAnswer.TheVariants as answer
use Rattle.editor.specs.declared.fault.EditorFault.{EditorFault}
use Rattle.editor.specs.declared.message.Message.{Message}
use Rattle.editor.specs.declared.message.Message.TheVariants.{Change, Publish}
use Rattle.http_in.specs.declared.request.Request.{Request}
use Rattle.page_answers.specs.Answers.{IsAnswered, IsNotTaken, IsRefused, attrs_left}
use Rattle.http_out.specs.Methods.{takes_method}
use Rattle.page_answers.specs.Dropped.{IsDropped, IsUnbegun}
use Rattle.page_answers.specs.Standing.{AtMoment, Standing}
use Rattle.page_answers.specs.Turns.{all_calls}
use Rattle.pass_course.proofs.CourseLemmas.{courses_join, done_acts, done_none, done_stays}
use Rattle.pass_course.specs.Course.{HasDone}
use Rattle.pg_text.specs.declared.failure.Failure.{Failure}
use Rattle.pg_text.specs.declared.failure.Failure.TheVariants.{Fault, NoMemory}
use Rattle.site_words.specs.Law.{Legal}
use Rattle.site_words.specs.Trees.{Needs}
use Rattle.site_words.specs.declared.words.Entry.{Entry}
use Rattle.site_words.specs.declared.words.Op.{Op}
use Rattle.site_words.specs.declared.words.Op.TheVariants as op
use Rattle.site_words.specs.declared.words.Opening.{Opening}
use Rattle.site_words.specs.declared.words.Reply.{Reply}
use Rattle.site_words.specs.declared.words.Reply.TheVariants as reply
use Rattle.source_tree.specs.declared.edit.Edit.{Edit}
use Rattle.talk_words.specs.Connection.{Connection, Stand}
use Rattle.talk_words.specs.Said.{IsLeft, IsSaid, Leaves, Says, taken_as, way}
use Rattle.talk_words.specs.declared.way.Way.{Way}
use Rattle.talk_words.specs.declared.way.Way.TheVariants.{Edits, Nowhere, Asks}
use Rattle.talk_words.specs.Uses.{AreUsedUp, EachOnce, HasUsed, IsAbandoning, IsEnd, IsPublishing, IsRequest, Uses}

-- where nothing was seen
none_seen : (needs : Needs) (x : Opening) (pass : ℕ) (a b : List Entry) → Legal needs x a → b ≡ a → HasDone needs x pass a b []
none_seen needs x pass a b legal same = subst (λ s. HasDone needs x pass a s []) (sym same) (done_none needs x pass a legal)

-- an editor's message

abbrev pub Published : Needs → Opening → ℕ → Request → List Edit → List Entry → List Entry → Type 0
Published needs x pass request draft seen now = (calls : List (Op × Reply)) × (IsPublishing request draft calls ⊎ (calls ≡ [])) × HasDone needs x pass seen now calls

pub takes_use : (needs : Needs) (x : Opening) (pass : ℕ) (request : Request) (said : Result Message EditorFault) (draft later : List Edit) (seen now : List Entry) (result : Result EditorAnswer (Failure EditorFault))
    → message request ≡ said → Legal needs x seen → Takes needs x pass said draft later seen now result → Published needs x pass request draft seen now
takes_use needs x pass request (Ok (Publish base)) draft later seen now (Ok (answer.Published published)) is legal takes = (
  (op.Publish base draft, reply.Published published.version published.dirty) ∷ [],
  inl (record { base = base; says = is; version = published.version; dirty = published.dirty; is = refl }),
  done_acts needs x pass seen now (op.Publish base draft) (reply.Published published.version published.dirty) takes.entry,
)
takes_use needs x pass request (Ok (Publish base)) draft later seen now (Ok (answer.Drafted count)) is legal takes = absurd takes
takes_use needs x pass request (Ok (Publish base)) draft later seen now (Err (Fault told)) is legal takes = ([], inr refl, done_stays needs x pass seen now takes.stays)
takes_use needs x pass request (Ok (Publish base)) draft later seen now (Err NoMemory) is legal takes = ([], inr refl, done_stays needs x pass seen now takes.stays)
takes_use needs x pass request (Ok (Change edit)) draft later seen now result is legal takes = ([], inr refl, none_seen needs x pass seen now legal takes.unasked)
takes_use needs x pass request (Err fault) draft later seen now result is legal takes = ([], inr refl, none_seen needs x pass seen now legal takes.unasked)

-- a request to pages

abbrev Asked : Needs → Opening → ℕ → Request → List Entry → List Entry → (ℕ → Op × Reply → Type 0) → Type 0
Asked needs x pass request seen now ends = (calls : List (Op × Reply)) × (IsRequest request calls ends ⊎ (calls ≡ [])) × HasDone needs x pass seen now calls

answered_use : (needs : Needs) (x : Opening) (pass : ℕ) (request : Request) (close : Bool) (a : Standing) (text : List ℕ) (broken : Bool) (b : Standing) (moment : ℕ)
    → IsAnswered needs x pass request close a text broken b moment → Asked needs x pass request a.seen b.seen IsEnd
answered_use needs x pass request close a text broken b moment is =
    let begins = is.begins in
    let last : Op × Reply = (op.End begins.request (attrs_left is.end), reply.Ended) in
    let first : Op × Reply = (op.Begin request.cookie moment, reply.Begun begins.request begins.version begins.session) in (
      first ∷ (all_calls begins.request is.turns ++ last ∷ []),
      inl (record { number = begins.request; version = begins.version; session = begins.session; moment = moment; turns = is.turns; last = last; ended = (attrs_left is.end, refl); is = refl }),
      courses_join needs x pass a.seen is.begun b.seen (first ∷ []) (all_calls begins.request is.turns ++ last ∷ []) (done_acts needs x pass a.seen is.begun first.0 first.1 begins.acts) is.did,
    )

answers_use : (needs : Needs) (x : Opening) (pass : ℕ) (request : Request) (close : Bool) (a : Standing) (text : List ℕ) (broken : Bool) (b : Standing) (takes : Bool) → Legal needs x a.seen
    → MatchBool takes (AtMoment a b (λ moment. IsAnswered needs x pass request close a text broken b moment ⊎ IsRefused needs x pass request close a text broken b moment)) (IsNotTaken request close a text broken b)
    → Asked needs x pass request a.seen b.seen IsEnd
answers_use needs x pass request close a text broken b true legal is = go is.done
  where
    go : IsAnswered needs x pass request close a text broken b is.moment ⊎ IsRefused needs x pass request close a text broken b is.moment → Asked needs x pass request a.seen b.seen IsEnd
    go (inl answered) = answered_use needs x pass request close a text broken b is.moment answered
    go (inr refused) = ([], inr refl, done_stays needs x pass a.seen b.seen refused.stays)
answers_use needs x pass request close a text broken b false legal is = ([], inr refl, none_seen needs x pass a.seen b.seen legal (ap (λ (s : Standing). s.seen) is.same))

dropped_use : (needs : Needs) (x : Opening) (pass : ℕ) (request : Request) (close : Bool) (a : Standing) (text : List ℕ) (b : Standing) (moment : ℕ)
    → IsDropped needs x pass request close a text b moment → Asked needs x pass request a.seen b.seen IsAbandoning
dropped_use needs x pass request close a text b moment is =
    let begins = is.begins in
    let last : Op × Reply = (op.Abandon begins.request, reply.Dropped) in
    let first : Op × Reply = (op.Begin request.cookie moment, reply.Begun begins.request begins.version begins.session) in (
      first ∷ (all_calls begins.request is.turns ++ last ∷ []),
      inl (record { number = begins.request; version = begins.version; session = begins.session; moment = moment; turns = is.turns; last = last; ended = refl; is = refl }),
      courses_join needs x pass a.seen is.begun b.seen (first ∷ []) (all_calls begins.request is.turns ++ last ∷ []) (done_acts needs x pass a.seen is.begun first.0 first.1 begins.acts) is.did,
    )

drops_use : (needs : Needs) (x : Opening) (pass : ℕ) (request : Request) (close : Bool) (a : Standing) (text : List ℕ) (b : Standing) (takes : Bool) → Legal needs x a.seen
    → MatchBool takes (AtMoment a b (λ moment. IsUnbegun needs x pass a text b ⊎ IsDropped needs x pass request close a text b moment)) ((b ≡ a) × (text ≡ []))
    → Asked needs x pass request a.seen b.seen IsAbandoning
drops_use needs x pass request close a text b true legal is = go is.done
  where
    go : IsUnbegun needs x pass a text b ⊎ IsDropped needs x pass request close a text b is.moment → Asked needs x pass request a.seen b.seen IsAbandoning
    go (inl unbegun) = ([], inr refl, done_stays needs x pass a.seen b.seen unbegun.stays)
    go (inr dropped) = dropped_use needs x pass request close a text b is.moment dropped
drops_use needs x pass request close a text b false legal is = ([], inr refl, none_seen needs x pass a.seen b.seen legal (ap (λ (s : Standing). s.seen) is.0))

-- by the way of a request

abbrev Used : Connection → Way → Request → Stand → Stand → (ℕ → Op × Reply → Type 0) → Type 0
Used w route request a b ends = (calls : List (Op × Reply)) × Uses route request a calls ends × HasDone w.needs w.opening w.pass a.at.seen b.at.seen calls

says_use : (w : Connection) (route : Way) (request : Request) (close : Bool) (a b : Stand) (text : List ℕ) (broken : Bool) → Legal w.needs w.opening a.at.seen → Says w route request close a text broken b → Used w route request a b IsEnd
says_use w Edits request close a b text broken legal is = takes_use w.needs w.opening w.pass request (message request) a.draft b.draft a.at.seen b.at.seen (taken_as is.told) refl legal is.takes
says_use w Nowhere request close a b text broken legal is = ([], refl, none_seen w.needs w.opening w.pass a.at.seen b.at.seen legal (ap (λ (s : Stand). s.at.seen) is.same))
says_use w Asks request close a b text broken legal is = answers_use w.needs w.opening w.pass request close a.at text broken b.at (takes_method request.method) legal is.0

leaves_use : (w : Connection) (route : Way) (request : Request) (close : Bool) (a b : Stand) (text : List ℕ) → Legal w.needs w.opening a.at.seen → Leaves w route request close a text b → Used w route request a b IsAbandoning
leaves_use w Edits request close a b text legal is = takes_use w.needs w.opening w.pass request (message request) a.draft b.draft a.at.seen b.at.seen is.result refl legal is.takes
leaves_use w Nowhere request close a b text legal is = ([], refl, none_seen w.needs w.opening w.pass a.at.seen b.at.seen legal (ap (λ (s : Stand). s.at.seen) is.0))
leaves_use w Asks request close a b text legal is = drops_use w.needs w.opening w.pass request close a.at text b.at (takes_method request.method) legal is.0

pub said_used : (w : Connection) (close : Bool) (old new : Stand) (e : Exchange) → Legal w.needs w.opening old.at.seen → IsSaid w close old e new → HasUsed w e.request old new IsEnd
said_used w close old new e legal is =
    let used = says_use w (way w e.request) e.request close old new e.text e.broken legal is in record { calls = used.0; uses = used.1; did = used.2 }

pub left_used : (w : Connection) (close : Bool) (old new : Stand) (request : Request) (text : List ℕ) → Legal w.needs w.opening old.at.seen → IsLeft w close old request text new → HasUsed w request old new IsAbandoning
left_used w close old new request text legal is =
    let used = leaves_use w (way w request) request close old new text legal is in record { calls = used.0; uses = used.1; did = used.2 }

pub walked_used : (w : Connection) (number : ℕ) (old new : Stand) (exchanges : List Exchange) → Legal w.needs w.opening old.at.seen → Walked (IsSaid w) number old exchanges new → AreUsedUp w number old exchanges new
walked_used w number old new [] legal walked =
    record { calls = []; used = (walked, refl); did = none_seen w.needs w.opening w.pass old.at.seen new.at.seen legal (ap (λ (s : Stand). s.at.seen) walked) }
walked_used w number old new (e ∷ exchanges) legal walked =
    let one = said_used w (closes number e.request) old walked.0 e legal walked.1 in
    let more = walked_used w (number + 1) walked.0 new exchanges one.did.is_legal walked.2 in
    record {
      calls = one.calls ++ more.calls;
      used = (walked.0, walked.1, one, more.calls, refl, more.used);
      did = courses_join w.needs w.opening w.pass old.at.seen walked.0.at.seen new.at.seen one.calls more.calls one.did more.did;
    }

pub each_once : EachOnce
each_once = record { said = said_used; left = left_used; walked = walked_used }
