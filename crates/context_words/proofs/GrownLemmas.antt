-- The one history of each context.
use Rattle.std.proofs.Common.{◌≡◌, ℕ, ◌+◌, ◌==◌, Bool, true, false, List, [], ◌∷◌, length, Option, Some, None, refl, sym, ap, subst, ◌∙◌, inl, inr}
use Rattle.std.specs.List.{slice_get}
use Rattle.std.specs.Prelude.{set}
use Rattle.std.proofs.lemmas.Bool.{eq-eqb, eqb-true}
use Rattle.context_desk.specs.Several.{AnswersIn, IsIn, LeavesIn, Several, exchange_inside, retargeted}
use Rattle.context_names.proofs.Places.{get_set, get_set_other, same_some}
use Rattle.context_names.specs.Targets.{context_of}
use Rattle.context_words.specs.Grown.{Grew, HasOwnHistories}
use Rattle.context_words.specs.Parts.{Lent, Part, stand_at}
use Rattle.context_words.specs.Said.{IsLeftAmong, IsLeftIn, IsSaidAmong, IsSaidIn}
use Rattle.conversation.specs.Conversation.{IsLast, IsNext, Walked, closes}
use Rattle.conversation.specs.Exchange.{Exchange, exchange_of}
use Rattle.conversation.specs.declared.ended.Ended.TheVariants as ended
use Rattle.edges.proofs.Own.{front_both, front_same}
use Rattle.http_in.specs.declared.request.Request.{Request}
use Rattle.pass_course.specs.Course.{IsIdle}
use Rattle.site_words.specs.Law.{Legal}
use Rattle.talk_words.proofs.GrownLemmas.{left_grown, said_grown}
use Rattle.talk_words.specs.Connection.{Connection}
use Rattle.talk_words.specs.Grown.{HasGrown}

module _ {H : Type 0} (names : List (List ℕ)) (connections : List (Connection × H)) (context : ℕ) (place : Connection × H) (at : slice_get connections context ≡ Some place) where
  abbrev Grows : Several Part Lent → Several Part Lent → Type 0
  Grows old new = Grew place.0 context old.parts new.parts

  same_grows : (old new : Several Part Lent) → new ≡ old → Grows old new
  same_grows old new same a there idle legal = record {
    now = a;
    now_is = ap (λ (s : Several Part Lent). slice_get s.parts context) same ∙ there;
    grown = record { longer = front_same a.seen; is_legal = legal; idle = idle };
  }

  grows_both : (old mid new : Several Part Lent) → Grows old mid → Grows mid new → Grows old new
  grows_both old mid new one two a there idle legal =
      let first = one a there idle legal in
      let then = two first.now first.now_is first.grown.idle first.grown.is_legal in
      record {
        now = then.now;
        now_is = then.now_is;
        grown = record { longer = front_both a.seen first.now.seen then.now.seen first.grown.longer then.grown.longer; is_legal = then.grown.is_legal; idle = then.grown.idle };
      }

  -- one context comes to something that lets its own history grow
  in_grows : (asked : ℕ) (old new : Several Part Lent) (comes : Connection × H → Part → Lent → Part → Lent → Type 0)
      → ((p : Connection × H) (a : Part) (b : Lent) (a' : Part) (b' : Lent) → comes p a b a' b' → IsIdle p.0.opening p.0.pass a.seen → Legal p.0.needs p.0.opening a.seen → HasGrown p.0.needs p.0.opening p.0.pass a.seen a'.seen)
      → IsIn connections asked old new comes → (test : Bool) → (asked == context) ≡ test → Grows old new
  in_grows asked old new comes grows is true same a there idle legal =
      let asked_is : asked ≡ context = eqb-true asked context same in
      let one_place : is.place ≡ place = same_some is.place place (sym is.place_is ∙ (ap (λ k. slice_get connections k) asked_is ∙ at)) in
      let one_part : is.before ≡ a = same_some is.before a (sym is.before_is ∙ (ap (λ k. slice_get old.parts k) asked_is ∙ there)) in
      let came : comes place a old.lent is.after new.lent =
      subst (λ (p : Connection × H). comes p a old.lent is.after new.lent) one_place (subst (λ (part : Part). comes is.place part old.lent is.after new.lent) one_part is.came) in
      record {
        now = is.after;
        now_is = ap (λ parts. slice_get parts context) is.parts_are ∙ (ap (λ k. slice_get (set old.parts asked is.after) k) (sym asked_is) ∙ get_set old.parts asked is.after is.before is.before_is);
        grown = grows place a old.lent is.after new.lent came idle legal;
      }
  in_grows asked old new comes grows is false other a there idle legal =
      let apart : (asked ≡ context → ⊥) = λ same. absurd (let t : (asked == context) ≡ true = ap (λ k. asked == k) (sym same) ∙ eq-eqb asked asked refl in cc) in
      record {
        now = a;
        now_is = ap (λ parts. slice_get parts context) is.parts_are ∙ (get_set_other old.parts asked context is.after apart ∙ there);
        grown = record { longer = front_same a.seen; is_legal = legal; idle = idle };
      }

  answers_grow : (close : Bool) (old new : Several Part Lent) (e : Exchange) (found : Option (ℕ × ℕ)) → AnswersIn names connections IsSaidIn close old e new found → Grows old new
  answers_grow close old new e None is = same_grows old new is.same
  answers_grow close old new e (Some found) is =
      in_grows found.0 old new (λ p a b a' b'. IsSaidIn p close a b (exchange_inside found.1 e) a' b')
      (λ p a b a' b' said idle legal. said_grown p.0 close (stand_at a b) (stand_at a' b') (exchange_inside found.1 e) idle legal said) is (found.0 == context) refl

  leaves_grow : (close : Bool) (old new : Several Part Lent) (request : Request) (text : List ℕ) (found : Option (ℕ × ℕ)) → LeavesIn names connections IsLeftIn close old request text new found → Grows old new
  leaves_grow close old new request text None is = same_grows old new is.0
  leaves_grow close old new request text (Some found) (inl is) = same_grows old new is.0
  leaves_grow close old new request text (Some found) (inr is) =
      in_grows found.0 old new (λ p a b a' b'. IsLeftIn p close a b (retargeted found.1 request) text a' b')
      (λ p a b a' b' left idle legal. left_grown p.0 close (stand_at a b) (stand_at a' b') (retargeted found.1 request) text idle legal left) is (found.0 == context) refl

  said_grows : (close : Bool) (old new : Several Part Lent) (e : Exchange) → IsSaidAmong names connections close old e new → Grows old new
  said_grows close old new e is = answers_grow close old new e (context_of names e.request.target) is

  left_grows : (close : Bool) (old new : Several Part Lent) (request : Request) (text : List ℕ) → IsLeftAmong names connections close old request text new → Grows old new
  left_grows close old new request text is = leaves_grow close old new request text (context_of names request.target) is

  -- over whole connections

  walked_grow : (number : ℕ) (old new : Several Part Lent) (exchanges : List Exchange) → Walked (IsSaidAmong names connections) number old exchanges new → Grows old new
  walked_grow number old new [] walked = same_grows old new walked
  walked_grow number old new (e ∷ exchanges) walked =
      grows_both old walked.0 new (said_grows (closes number e.request) old walked.0 e walked.1) (walked_grow (number + 1) walked.0 new exchanges walked.2)

  next_grows : (number : ℕ) (mid now : Several Part Lent) (rest next : List ℕ) → IsNext (IsSaidAmong names connections) number mid now rest next → Grows mid now
  next_grows number mid now rest next (inl is) = said_grows (closes number is.0) mid now (exchange_of is.0 next is.1) is.4
  next_grows number mid now rest next (inr is) = same_grows mid now is.3

  last_grows : (number : ℕ) (mid now : Several Part Lent) (rest text : List ℕ) → IsLast (IsLeftAmong names connections) number mid now rest text → Grows mid now
  last_grows number mid now rest text (inl is) = same_grows mid now is.0
  last_grows number mid now rest text (inr is) = left_grows (closes number is.0) mid now is.0 text is.3

pub own_histories : {H : Type 0} → HasOwnHistories H
own_histories names connections context place old new left later before after taken has ended.ReadFault at is = walked_grow names connections context place at 0 old new is.come.exchanges is.come.walked
own_histories names connections context place old new left later before after taken has ended.WriteFault at is =
    grows_both names connections context place at old is.mid new (walked_grow names connections context place at 0 old is.mid is.come.exchanges is.come.walked)
    (next_grows names connections context place at (length is.come.exchanges) is.mid new is.rest is.next is.is_next)
own_histories names connections context place old new left later before after taken has ended.NoMemory at is =
    grows_both names connections context place at old is.mid new (walked_grow names connections context place at 0 old is.mid is.come.exchanges is.come.walked)
    (last_grows names connections context place at (length is.come.exchanges) is.mid new is.rest is.text is.is_last)
own_histories names connections context place old new left later before after taken has ended.Done at is = walked_grow names connections context place at 0 old new is.exchanges is.walked
own_histories names connections context place old new left later before after taken has (ended.Refused fault) at is = walked_grow names connections context place at 0 old new is.exchanges is.walked
