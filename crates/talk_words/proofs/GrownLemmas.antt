-- The one history of a connection.
use Rattle.std.proofs.Common.{◌≡◌, ℕ, ◌+◌, List, [], ◌∷◌, ◌++◌, length, Bool, Option, None, sym, ap, subst, ◌∙◌, inl, inr}
use Rattle.conversation.specs.Conversation.{IsLast, IsNext, Walked, closes}
use Rattle.conversation.specs.Exchange.{Exchange, exchange_of}
use Rattle.conversation.specs.declared.ended.Ended.TheVariants as ended
use Rattle.edges.proofs.Own.{front_both, front_same}
use Rattle.http_in.specs.declared.request.Request.{Request}
use Rattle.page_answers.specs.Turns.{all_calls}
use Rattle.pass_course.proofs.CourseLemmas.{counted_on}
use Rattle.pass_course.proofs.UnderLemmas.{done_run}
use Rattle.pass_course.specs.Course.{IsIdle}
use Rattle.site_words.proofs.Items.{fold-both}
use Rattle.site_words.specs.Law.{Legal}
use Rattle.site_words.specs.Runs.{run_after}
use Rattle.site_words.specs.Trees.{Needs}
use Rattle.site_words.specs.declared.words.Entry.{Entry}
use Rattle.site_words.specs.declared.words.Op.{Op}
use Rattle.site_words.specs.declared.words.Op.TheVariants as op
use Rattle.site_words.specs.declared.words.Opening.{Opening}
use Rattle.site_words.specs.declared.words.Reply.{Reply}
use Rattle.site_words.specs.declared.words.Reply.TheVariants as reply
use Rattle.site_words.specs.declared.words.Run.{Run}
use Rattle.source_tree.specs.declared.edit.Edit.{Edit}
use Rattle.talk_words.proofs.UseLemmas.{left_used, said_used}
use Rattle.talk_words.specs.Connection.{Connection, Stand}
use Rattle.talk_words.specs.Grown.{HasGrown, HasOneHistory}
use Rattle.talk_words.specs.Said.{IsLeft, IsSaid, way}
use Rattle.talk_words.specs.declared.way.Way.{Way}
use Rattle.talk_words.specs.declared.way.Way.TheVariants.{Edits, Nowhere, Asks}
use Rattle.talk_words.specs.Uses.{HasUsed, IsAbandoning, IsEnd, IsPublishing, IsRequest, Uses}

-- what ends a request leaves none under way

abbrev Frees : (ℕ → Op × Reply → Type 0) → Type 0
Frees ends = (number : ℕ) (last : Op × Reply) → ends number last → (run : Option Run) → run_after run last.0 last.1 ≡ None

end_frees : Frees IsEnd
end_frees number last is run = ap (λ (c : Op × Reply). run_after run c.0 c.1) is.1

abandoning_frees : Frees IsAbandoning
abandoning_frees number last is run = ap (λ (c : Op × Reply). run_after run c.0 c.1) is

-- after the last of these calls
after_last : (run : Option Run) (calls : List (Op × Reply)) (last : Op × Reply) → counted_on run_after run (calls ++ last ∷ []) ≡ run_after (counted_on run_after run calls) last.0 last.1
after_last run calls last = fold-both (λ b (c : Op × Reply). run_after b c.0 c.1) run calls (last ∷ [])

none_left : (request : Request) (draft : List Edit) (calls : List (Op × Reply)) → IsPublishing request draft calls → counted_on run_after None calls ≡ None
none_left request draft calls is = ap (λ c. counted_on run_after None c) is.is

none_under : (request : Request) (calls : List (Op × Reply)) (ends : ℕ → Op × Reply → Type 0) → Frees ends → IsRequest request calls ends → counted_on run_after None calls ≡ None
none_under request calls ends frees is =
    let first : Op × Reply = (op.Begin request.cookie is.moment, reply.Begun is.number is.version is.session) in
    ap (λ c. counted_on run_after None c) is.is
    ∙ (after_last (run_after None first.0 first.1) (all_calls is.number is.turns) is.last ∙ frees is.number is.last is.ended (counted_on run_after (run_after None first.0 first.1) (all_calls is.number is.turns)))

none_then : (route : Way) (request : Request) (old : Stand) (calls : List (Op × Reply)) (ends : ℕ → Op × Reply → Type 0) → Frees ends → Uses route request old calls ends → counted_on run_after None calls ≡ None
none_then Edits request old calls ends frees (inl is) = none_left request old.draft calls is
none_then Edits request old calls ends frees (inr is) = ap (λ c. counted_on run_after None c) is
none_then Nowhere request old calls ends frees is = ap (λ c. counted_on run_after None c) is
none_then Asks request old calls ends frees (inl is) = none_under request calls ends frees is
none_then Asks request old calls ends frees (inr is) = ap (λ c. counted_on run_after None c) is

used_grown : (w : Connection) (request : Request) (old new : Stand) (ends : ℕ → Op × Reply → Type 0) → Frees ends → IsIdle w.opening w.pass old.at.seen → HasUsed w request old new ends
    → HasGrown w.needs w.opening w.pass old.at.seen new.at.seen
used_grown w request old new ends frees idle used = record {
  longer = used.did.longer;
  is_legal = used.did.is_legal;
  idle = (
    idle.0,
    done_run w.needs w.opening w.pass old.at.seen new.at.seen used.calls used.did ∙ (ap (λ r. counted_on run_after r used.calls) idle.1 ∙ none_then (way w request) request old used.calls ends frees used.uses),
  );
}

pub said_grown : (w : Connection) (close : Bool) (old new : Stand) (e : Exchange) → IsIdle w.opening w.pass old.at.seen → Legal w.needs w.opening old.at.seen → IsSaid w close old e new → HasGrown w.needs w.opening w.pass old.at.seen new.at.seen
said_grown w close old new e idle legal is = used_grown w e.request old new IsEnd end_frees idle (said_used w close old new e legal is)

pub left_grown : (w : Connection) (close : Bool) (old new : Stand) (request : Request) (text : List ℕ) → IsIdle w.opening w.pass old.at.seen → Legal w.needs w.opening old.at.seen → IsLeft w close old request text new
    → HasGrown w.needs w.opening w.pass old.at.seen new.at.seen
left_grown w close old new request text idle legal is = used_grown w request old new IsAbandoning abandoning_frees idle (left_used w close old new request text legal is)

-- over whole connections

same_grown : (w : Connection) (old new : Stand) → IsIdle w.opening w.pass old.at.seen → Legal w.needs w.opening old.at.seen → new ≡ old → HasGrown w.needs w.opening w.pass old.at.seen new.at.seen
same_grown w old new idle legal same =
    subst (λ (s : Stand). HasGrown w.needs w.opening w.pass old.at.seen s.at.seen) (sym same) (record { longer = front_same old.at.seen; is_legal = legal; idle = idle })

grown_both : (needs : Needs) (x : Opening) (pass : ℕ) (a b c : List Entry) → HasGrown needs x pass a b → HasGrown needs x pass b c → HasGrown needs x pass a c
grown_both needs x pass a b c one two = record { longer = front_both a b c one.longer two.longer; is_legal = two.is_legal; idle = two.idle }

walked_grown : (w : Connection) (number : ℕ) (old new : Stand) (exchanges : List Exchange) → IsIdle w.opening w.pass old.at.seen → Legal w.needs w.opening old.at.seen → Walked (IsSaid w) number old exchanges new
    → HasGrown w.needs w.opening w.pass old.at.seen new.at.seen
walked_grown w number old new [] idle legal walked = same_grown w old new idle legal walked
walked_grown w number old new (e ∷ exchanges) idle legal walked =
    let one = said_grown w (closes number e.request) old walked.0 e idle legal walked.1 in
    grown_both w.needs w.opening w.pass old.at.seen walked.0.at.seen new.at.seen one (walked_grown w (number + 1) walked.0 new exchanges one.idle one.is_legal walked.2)

next_grown : (w : Connection) (number : ℕ) (mid now : Stand) (rest next : List ℕ) → IsIdle w.opening w.pass mid.at.seen → Legal w.needs w.opening mid.at.seen → IsNext (IsSaid w) number mid now rest next
    → HasGrown w.needs w.opening w.pass mid.at.seen now.at.seen
next_grown w number mid now rest next idle legal (inl is) = said_grown w (closes number is.0) mid now (exchange_of is.0 next is.1) idle legal is.4
next_grown w number mid now rest next idle legal (inr is) = same_grown w mid now idle legal is.3

last_grown : (w : Connection) (number : ℕ) (mid now : Stand) (rest text : List ℕ) → IsIdle w.opening w.pass mid.at.seen → Legal w.needs w.opening mid.at.seen → IsLast (IsLeft w) number mid now rest text
    → HasGrown w.needs w.opening w.pass mid.at.seen now.at.seen
last_grown w number mid now rest text idle legal (inl is) = same_grown w mid now idle legal is.0
last_grown w number mid now rest text idle legal (inr is) = left_grown w (closes number is.0) mid now is.0 text idle legal is.3

pub one_history : HasOneHistory
one_history w start now left later before after old new ended.ReadFault idle legal is = walked_grown w 0 start now is.come.exchanges idle legal is.come.walked
one_history w start now left later before after old new ended.WriteFault idle legal is =
    let one = walked_grown w 0 start is.mid is.come.exchanges idle legal is.come.walked in
    grown_both w.needs w.opening w.pass start.at.seen is.mid.at.seen now.at.seen one (next_grown w (length is.come.exchanges) is.mid now is.rest is.next one.idle one.is_legal is.is_next)
one_history w start now left later before after old new ended.NoMemory idle legal is =
    let one = walked_grown w 0 start is.mid is.come.exchanges idle legal is.come.walked in
    grown_both w.needs w.opening w.pass start.at.seen is.mid.at.seen now.at.seen one (last_grown w (length is.come.exchanges) is.mid now is.rest is.text one.idle one.is_legal is.is_last)
one_history w start now left later before after old new ended.Done idle legal is = walked_grown w 0 start now is.exchanges idle legal is.walked
one_history w start now left later before after old new (ended.Refused fault) idle legal is = walked_grown w 0 start now is.exchanges idle legal is.walked
