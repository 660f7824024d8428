-- A connection that was counted from another number on.
use Rattle.std.proofs.Common.{ℕ, ◌+◌, ◌⊎◌, inl, inr, List, [], ◌∷◌, Bool, true, false, Option, refl, ap}
use Rattle.std.specs.Bool.{MatchBool}
use Rattle.conversation.specs.Conversation.{IsConversation, Tells, Walked, closes}
use Rattle.conversation.specs.Exchange.{Exchange}
use Rattle.conversation.specs.declared.ended.Ended.{Ended}
use Rattle.conversation.specs.declared.ended.Ended.TheVariants as ended
use Rattle.http_in.specs.declared.request.Request.{Request}
use Rattle.http_out.specs.Methods.{takes_method}
use Rattle.page_answers.specs.Answers.{IsAnswered, IsNotTaken, IsRefused}
use Rattle.page_answers.specs.Standing.{AtMoment, Standing, standing_of, tree_at}
use Rattle.page_answers.specs.Turns.{all_bytes}
use Rattle.site_words.specs.Trees.{Needs}
use Rattle.site_words.specs.declared.words.Opening.{Opening}
use Rattle.talk_law.specs.OneTalk.{IsByBytes}
use Rattle.talk_words.specs.Connection.{Connection, Stand, stand_of}
use Rattle.talk_words.specs.Said.{IsLeft, IsSaid, Says, way}
use Rattle.talk_words.specs.declared.way.Way.{Way}
use Rattle.talk_words.specs.declared.way.Way.TheVariants.{Asks, Edits, Nowhere}

-- the same standing, at another count of bytes
abbrev counted : Standing → ℕ → Standing
counted at steps = standing_of at.seen at.moments steps

abbrev pub counted_stand : Stand → ℕ → Stand
counted_stand stand steps = stand_of stand.draft (counted stand.at steps)

module _ (needs : Needs) (x : Opening) (pass : ℕ) (request : Request) (close : Bool) where
  abbrev Comes : Standing → List ℕ → Bool → Standing → ℕ → Type 0
  Comes old text broken new moment = IsAnswered needs x pass request close old text broken new moment ⊎ IsRefused needs x pass request close old text broken new moment

  comes_from : (old new : Standing) (text : List ℕ) (broken : Bool) (moment steps : ℕ) → Comes old text broken new moment → (now : ℕ) × Comes (counted old steps) text broken (counted new now) moment
  comes_from old new text broken moment steps (inl is) =
      let now : ℕ = steps + all_bytes (tree_at needs x is.begun) is.turns in
      let again : IsAnswered needs x pass request close (counted old steps) text broken (counted new now) moment = record {
        begun = is.begun;
        begins = is.begins;
        turns = is.turns;
        whole = is.whole;
        response = is.response;
        end = is.end;
        means = is.means;
        asked = is.asked;
        used = is.used;
        did = is.did;
        read = refl;
        text_is = is.text_is;
        broken_is = is.broken_is;
      } in
      (now, inl again)
  comes_from old new text broken moment steps (inr is) =
      (steps, inr (record { stays = is.stays; weight = is.weight; promised = is.promised; refused = is.refused; read = refl; text_is = is.text_is; broken_is = is.broken_is }))

  answers_from : (takes : Bool) (old new : Standing) (text : List ℕ) (broken : Bool) (steps : ℕ) → MatchBool takes (AtMoment old new (Comes old text broken new)) (IsNotTaken request close old text broken new)
      → (now : ℕ) × MatchBool takes (AtMoment (counted old steps) (counted new now) (Comes (counted old steps) text broken (counted new now))) (IsNotTaken request close (counted old steps) text broken (counted new now))
  answers_from true old new text broken steps is =
      let again = comes_from old new text broken is.moment steps is.done in
      (again.0, record { moment = is.moment; told = is.told; done = again.1 })
  answers_from false old new text broken steps is = (steps, record { same = ap (λ s. counted s steps) is.same; text_is = is.text_is; broken_is = is.broken_is })

says_from : (w : Connection) (route : Way) (request : Request) (close : Bool) (old new : Stand) (text : List ℕ) (broken : Bool) (steps : ℕ) → Says w route request close old text broken new
    → (now : ℕ) × Says w route request close (counted_stand old steps) text broken (counted_stand new now)
says_from w Edits request close old new text broken steps is =
    (steps, record { told = is.told; takes = is.takes; quiet = record { moments = is.quiet.moments; read = refl }; text_is = is.text_is; broken_is = is.broken_is })
says_from w Nowhere request close old new text broken steps is = (steps, record { same = ap (λ s. counted_stand s steps) is.same; text_is = is.text_is; broken_is = is.broken_is })
says_from w Asks request close old new text broken steps is =
    let again = answers_from w.needs w.opening w.pass request close (takes_method request.method) old.at new.at text broken steps is.0 in
    (again.0, (again.1, is.1))

walked_from : (w : Connection) (number : ℕ) (old new : Stand) (exchanges : List Exchange) (steps : ℕ) → Walked (IsSaid w) number old exchanges new
    → (now : ℕ) × Walked (IsSaid w) number (counted_stand old steps) exchanges (counted_stand new now)
walked_from w number old new [] steps walked = (steps, ap (λ s. counted_stand s steps) walked)
walked_from w number old new (e ∷ exchanges) steps walked =
    let one = says_from w (way w e.request) e.request (closes number e.request) old walked.0 e.text e.broken steps walked.1 in
    let more = walked_from w (number + 1) walked.0 new exchanges one.0 walked.2 in
    (more.0, (counted_stand walked.0 one.0, one.1, more.1))

conversation_from : (w : Connection) (start now : Stand) (left later old new : Option (List ℕ)) (answer : Ended) (steps : ℕ) → IsConversation (IsSaid w) start now left later old new answer
    → (count : ℕ) × IsConversation (IsSaid w) (counted_stand start steps) (counted_stand now count) left later old new answer
conversation_from w start now left later old new answer steps is =
    let again = walked_from w 0 start now is.exchanges steps is.walked in
    let so : IsConversation (IsSaid w) (counted_stand start steps) (counted_stand now again.0) left later old new answer = record {
      came = is.came;
      consumed = is.consumed;
      exchanges = is.exchanges;
      rest = is.rest;
      front = is.front;
      walked = again.1;
      stop = is.stop;
      stops = is.stops;
      ends = is.ends;
      read_out = is.read_out;
      read_on = is.read_on;
      outcome = is.outcome;
      written = is.written;
      told = is.told;
    } in
    (again.0, so)

-- what came to its end by its bytes is the same from any count on
pub tells_from : (w : Connection) (start now : Stand) (left later : Option (List ℕ)) (before risen : ℕ) (old new : Option (List ℕ)) (answer : Ended) (steps : ℕ) → IsByBytes answer
    → Tells (IsSaid w) (IsLeft w) start now left later before risen old new answer
    → (count : ℕ) × Tells (IsSaid w) (IsLeft w) (counted_stand start steps) (counted_stand now count) left later before risen old new answer
tells_from w start now left later before risen old new ended.Done steps by tells = conversation_from w start now left later old new ended.Done steps tells
tells_from w start now left later before risen old new (ended.Refused fault) steps by tells = conversation_from w start now left later old new (ended.Refused fault) steps tells
tells_from w start now left later before risen old new ended.ReadFault steps by tells = absurd by
tells_from w start now left later before risen old new ended.WriteFault steps by tells = absurd by
tells_from w start now left later before risen old new ended.NoMemory steps by tells = absurd by
