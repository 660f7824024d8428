-- The pictures that are taken on a preview connection.
use Rattle.std.proofs.Common.{◌≡◌, ◌⊎◌, ℕ, ◌+◌, Bool, true, false, List, [], ◌∷◌, ◌++◌, length, sym, ap, subst, ◌∙◌, inl, inr, append_assoc}
use Rattle.std.proofs.lemmas.List.{append-nil}
use Rattle.std.specs.Bool.{MatchBool}
use Rattle.conversation.specs.Conversation.{IsLast, IsNext, Walked, closes}
use Rattle.conversation.specs.Exchange.{Exchange, exchange_of}
use Rattle.conversation.specs.declared.ended.Ended.TheVariants as ended
use Rattle.edges.proofs.Own.{front_both, front_same}
use Rattle.edges.specs.History.{IsFront}
use Rattle.http_in.specs.declared.request.Request.{Request}
use Rattle.http_out.specs.Methods.{takes_method}
use Rattle.preview_words.specs.Laws.{AreLatest, GrewByPictures, IsPicture, TakesPicturesAlone}
use Rattle.preview_words.specs.Previewed.{IsDropped, IsEdited, IsNotTaken, IsPictured, IsPreviewed, IsRefused, IsShown, IsUnasked, IsUntold, Leaves, PreviewStand}
use Rattle.site_words.proofs.Items.{each_both}
use Rattle.site_words.proofs.Legal.{after_push, legal_rest}
use Rattle.site_words.proofs.Trees.{did_reply}
use Rattle.site_words.specs.Law.{Follows, Legal, own}
use Rattle.site_words.specs.State.{State, after, start_of}
use Rattle.site_words.specs.Step.{refusal_of, reply_to}
use Rattle.site_words.specs.Trees.{Needs}
use Rattle.site_words.specs.declared.words.Entry.{Entry}
use Rattle.site_words.specs.declared.words.Op.TheVariants as op
use Rattle.site_words.specs.declared.words.Opening.{Opening}
use Rattle.site_words.specs.declared.words.Reply.TheVariants as reply
use Rattle.talk_words.specs.Said.{is_editors}

-- the last entry of a legal history follows the others
follows_last : (needs : Needs) (x : Opening) (front : List Entry) (e : Entry) → Legal needs x (front ++ e ∷ []) → Follows needs x (after needs x front) e
follows_last needs x front e legal = (legal_rest needs x (start_of x) front (e ∷ []) legal).0

pub latest : AreLatest
latest needs x pass old new cookie version session acts =
    let e : Entry = record { pass = pass; op = op.Snapshot cookie; reply = reply.Snapped version session } in
    let seen : new ≡ acts.front ++ e ∷ [] = acts.seen ∙ ap (λ (one : Entry). acts.front ++ one ∷ []) acts.said in
    let follows = follows_last needs x acts.front e (subst (Legal needs x) seen acts.is_legal) in
    let told : reply_to needs x (after needs x acts.front) pass (op.Snapshot cookie) ≡ reply.Snapped version session = (did_reply (refusal_of needs x (after needs x acts.front) pass (op.Snapshot cookie)) (reply_to needs x (after needs x acts.front) pass (op.Snapshot cookie)) (reply.Snapped version session) follows.did).0 in
    let same : (after needs x acts.front).version ≡ version = cc in
    sym same ∙ sym (ap (λ h. (after needs x h).version) seen ∙ ap (λ (s : State). s.version) (after_push needs x acts.front e))

-- how the entries of a pass grew

none_more : (pass : ℕ) (old new : List Entry) → IsFront old new → own pass new ≡ own pass old → GrewByPictures pass old new
none_more pass old new longer same = record { longer = longer; entries = []; grown = same ∙ sym (append-nil (own pass old)); pictures = tt }

same_seen : (pass : ℕ) (old new : List Entry) → new ≡ old → GrewByPictures pass old new
same_seen pass old new same = none_more pass old new (subst (IsFront old) (sym same) (front_same old)) (ap (own pass) same)

grew_both : (pass : ℕ) (a b c : List Entry) → GrewByPictures pass a b → GrewByPictures pass b c → GrewByPictures pass a c
grew_both pass a b c one two = record {
  longer = front_both a b c one.longer two.longer;
  entries = one.entries ++ two.entries;
  grown = two.grown ∙ (ap (λ l. l ++ two.entries) one.grown ∙ append_assoc (own pass a) one.entries two.entries);
  pictures = each_both IsPicture one.entries two.entries one.pictures two.pictures;
}

module _ (needs : Needs) (x : Opening) (pass : ℕ) where
  one_more : (cookie : List ℕ) (old new : List Entry) → IsPictured needs x pass cookie old new → GrewByPictures pass old new
  one_more cookie old new is = record {
    longer = front_both old is.entry.front new is.entry.stays.longer (is.entry.entry ∷ [], is.entry.seen);
    entries = (length is.entry.front, is.entry.entry) ∷ [];
    grown = is.entry.grown;
    pictures = (
      record {
        cookie = cookie;
        version = is.version;
        session = is.session;
        op_is = ap (λ (e : Entry). e.op) is.entry.said;
        reply_is = ap (λ (e : Entry). e.reply) is.entry.said;
      },
      tt,
    );
  }

  previewed : (close : Bool) (old new : PreviewStand) (e : Exchange) → IsPreviewed needs x pass close old e new → GrewByPictures pass old.seen new.seen
  previewed close old new e is = by_target (is_editors e.request.target) is
    where
      by_way : IsShown needs x pass e.request close old e.text e.broken new ⊎ IsRefused needs x pass e.request close old e.text e.broken new → GrewByPictures pass old.seen new.seen
      by_way (inl is) = one_more e.request.cookie old.seen new.seen is.picture
      by_way (inr is) = none_more pass old.seen new.seen is.stays.longer is.stays.same

      by_method : (test : Bool) → MatchBool test (IsShown needs x pass e.request close old e.text e.broken new ⊎ IsRefused needs x pass e.request close old e.text e.broken new) (IsNotTaken e.request close old e.text e.broken new)
          → GrewByPictures pass old.seen new.seen
      by_method true is = by_way is
      by_method false is = same_seen pass old.seen new.seen (ap (λ (d : PreviewStand). d.seen) is.same)

      by_target : (test : Bool) → MatchBool test (IsEdited e.request close old e.text e.broken new) (MatchBool (takes_method e.request.method) (IsShown needs x pass e.request close old e.text e.broken new ⊎ IsRefused needs x pass e.request close old e.text e.broken new) (IsNotTaken e.request close old e.text e.broken new))
          → GrewByPictures pass old.seen new.seen
      by_target true is = same_seen pass old.seen new.seen is.drafts.unasked
      by_target false is = by_method (takes_method e.request.method) is

  left : (close : Bool) (old new : PreviewStand) (request : Request) (text : List ℕ) → Leaves needs x pass request close old text new → GrewByPictures pass old.seen new.seen
  left close old new request text is = by_target (is_editors request.target) is
    where
      by_way : IsUnasked needs x pass old text new ⊎ IsDropped needs x pass request close old text new → GrewByPictures pass old.seen new.seen
      by_way (inl is) = none_more pass old.seen new.seen is.stays.longer is.stays.same
      by_way (inr is) = one_more request.cookie old.seen new.seen is.picture

      by_method : (test : Bool) → MatchBool test (IsUnasked needs x pass old text new ⊎ IsDropped needs x pass request close old text new) ((new ≡ old) × (text ≡ [])) → GrewByPictures pass old.seen new.seen
      by_method true is = by_way is
      by_method false is = same_seen pass old.seen new.seen (ap (λ (d : PreviewStand). d.seen) is.0)

      by_target : (test : Bool) → MatchBool test (IsUntold request old text new) (MatchBool (takes_method request.method) (IsUnasked needs x pass old text new ⊎ IsDropped needs x pass request close old text new) ((new ≡ old) × (text ≡ [])))
          → GrewByPictures pass old.seen new.seen
      by_target true is = same_seen pass old.seen new.seen is.drafts.unasked
      by_target false is = by_method (takes_method request.method) is

  same_stand : (old new : PreviewStand) → new ≡ old → GrewByPictures pass old.seen new.seen
  same_stand old new same = same_seen pass old.seen new.seen (ap (λ (d : PreviewStand). d.seen) same)

  walked : (number : ℕ) (old new : PreviewStand) (exchanges : List Exchange) → Walked (IsPreviewed needs x pass) number old exchanges new → GrewByPictures pass old.seen new.seen
  walked number old new [] is = same_stand old new is
  walked number old new (e ∷ exchanges) is =
      grew_both pass old.seen is.0.seen new.seen (previewed (closes number e.request) old is.0 e is.1) (walked (number + 1) is.0 new exchanges is.2)

  next : (number : ℕ) (mid now : PreviewStand) (rest text : List ℕ) → IsNext (IsPreviewed needs x pass) number mid now rest text → GrewByPictures pass mid.seen now.seen
  next number mid now rest text (inl is) = previewed (closes number is.0) mid now (exchange_of is.0 text is.1) is.4
  next number mid now rest text (inr is) = same_stand mid now is.3

  last : (number : ℕ) (mid now : PreviewStand) (rest text : List ℕ) → IsLast (λ close at request text to. Leaves needs x pass request close at text to) number mid now rest text → GrewByPictures pass mid.seen now.seen
  last number mid now rest text (inl is) = same_stand mid now is.0
  last number mid now rest text (inr is) = left (closes number is.0) mid now is.0 text is.3

pub pictures_alone : TakesPicturesAlone
pictures_alone needs x pass start now left later faults risen old new ended.ReadFault is = walked needs x pass 0 start now is.come.exchanges is.come.walked
pictures_alone needs x pass start now left later faults risen old new ended.WriteFault is =
    grew_both pass start.seen is.mid.seen now.seen (walked needs x pass 0 start is.mid is.come.exchanges is.come.walked)
    (next needs x pass (length is.come.exchanges) is.mid now is.rest is.next is.is_next)
pictures_alone needs x pass start now left later faults risen old new ended.NoMemory is =
    grew_both pass start.seen is.mid.seen now.seen (walked needs x pass 0 start is.mid is.come.exchanges is.come.walked)
    (last needs x pass (length is.come.exchanges) is.mid now is.rest is.text is.is_last)
pictures_alone needs x pass start now left later faults risen old new ended.Done is = walked needs x pass 0 start now is.exchanges is.walked
pictures_alone needs x pass start now left later faults risen old new (ended.Refused fault) is = walked needs x pass 0 start now is.exchanges is.walked
