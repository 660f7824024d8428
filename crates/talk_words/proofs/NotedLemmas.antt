-- What was said while a clock noted is said again over a clock that tells what was noted.
use Rattle.std.proofs.Common.{◌≡◌, ℕ, ◌⊎◌, inl, inr, List, [], ◌∷◌, ◌++◌, length, Bool, true, false, Option, Some, None, refl, sym, ap, subst, ◌∙◌, append_assoc, arith}
use Rattle.std.specs.Bool.{MatchBool}
use Rattle.std.specs.Prelude.{nat_lt}
use Rattle.std.proofs.lemmas.Bool.{lt-ltb}
use Rattle.std.proofs.lemmas.List.{append-nil, append_cancel_left}
use Rattle.conversation.proofs.Backward.{tells_back, walked_back}
use Rattle.conversation.specs.Conversation.{Tells, WalkedBy}
use Rattle.conversation.specs.Exchange.{Exchange}
use Rattle.edges.specs.Clock.{Answers as Ticks, GoesNoted, Moments, ahead_after}
use Rattle.http_in.specs.declared.request.Request.{Request}
use Rattle.page_answers.specs.Answers.{IsAnswered, IsNotTaken, IsRefused}
use Rattle.http_out.specs.Methods.{takes_method}
use Rattle.page_answers.specs.Dropped.{IsDropped, IsUnbegun}
use Rattle.page_answers.specs.Standing.{AtMoment, Standing, standing_of}
use Rattle.site_words.specs.Trees.{Needs}
use Rattle.site_words.specs.declared.words.Opening.{Opening}
use Rattle.talk_words.specs.Connection.{Connection, Stand}
use Rattle.talk_words.specs.Noted.{HasNoted, IsToldAgain, telling, with_moments}
use Rattle.talk_words.specs.Said.{IsLeft, IsSaid, Leaves, Says, way}
use Rattle.talk_words.specs.declared.way.Way.{Way}
use Rattle.talk_words.specs.declared.way.Way.TheVariants.{Edits, Nowhere, Asks}

-- the moments that are ahead behind the first, where there are some
ahead_behind : (first next : ℕ) (more : List ℕ) → ahead_after (first ∷ next ∷ more) ≡ next ∷ more
ahead_behind first next more =
    let many : nat_lt 1 (length (first ∷ next ∷ more)) ≡ true = lt-ltb 1 (length (first ∷ next ∷ more)) (omega arith) in
    rw many refl

-- all moments that are noted in the end, and those that are told behind them
module _ (all : List ℕ) (behind : ℕ) (more : List ℕ) where
  -- a clock has noted all but these
  abbrev HasFurther : Moments → List ℕ → Type 0
  HasFurther moments further = (so_far : List ℕ) × (moments.noted ≡ Some so_far) × (so_far ++ further ≡ all)

  -- a clock that tells these
  abbrev ahead : List ℕ → Moments
  ahead further = telling (further ++ behind ∷ more)

  noted_back : (noted later : Option (List ℕ)) (moment : ℕ) (further : List ℕ) → GoesNoted noted later moment → (so_far : List ℕ) × (later ≡ Some so_far) × (so_far ++ further ≡ all)
      → (so_far : List ℕ) × (noted ≡ Some so_far) × (so_far ++ moment ∷ further ≡ all)
  noted_back None later moment further goes has = absurd (cc)
  noted_back (Some noted) None moment further goes has = absurd (cc)
  noted_back (Some noted) (Some later) moment further goes has =
      let same : later ≡ has.0 = cc in
      (noted, refl, sym (append_assoc noted (moment ∷ []) further) ∙ (ap (λ l. l ++ further) (sym goes ∙ same) ∙ has.2))

  first_told : (moment : ℕ) (further : List ℕ) → Ticks (ahead (moment ∷ further)) (ahead further) moment
  first_told moment [] = record { goes = (refl, ap Some (sym (ahead_behind moment behind more))); notes = refl }
  first_told moment (next ∷ further) = record { goes = (refl, ap Some (sym (ahead_behind moment next (further ++ behind ∷ more)))); notes = refl }

  -- the same standing, over a clock that tells what it hasn't noted yet
  abbrev at_again : Standing → List ℕ → Standing
  at_again at further = standing_of at.seen (ahead further) at.steps

  moment_back : (old new : Standing) (further : List ℕ) (comes : ℕ → Type 0) (again : List ℕ → ℕ → Type 0) → HasFurther new.moments further → ((earlier : List ℕ) (moment : ℕ) → comes moment → again earlier moment)
      → AtMoment old new comes → (earlier : List ℕ) × HasFurther old.moments earlier × AtMoment (at_again old earlier) (at_again new further) (again earlier)
  moment_back old new further comes again has so at = (
    at.moment ∷ further,
    noted_back old.moments.noted new.moments.noted at.moment further at.told.notes has,
    record { moment = at.moment; told = first_told at.moment further; done = so (at.moment ∷ further) at.moment at.done },
  )

  same_back : (old new : Standing) (further : List ℕ) → new ≡ old → HasFurther new.moments further → HasFurther old.moments further
  same_back old new further same has = subst (λ (s : Standing). HasFurther s.moments further) same has

  module _ (needs : Needs) (x : Opening) (pass : ℕ) (request : Request) (close : Bool) where
    done_so : (old new : Standing) (text : List ℕ) (broken : Bool) (further earlier : List ℕ) (moment : ℕ)
        → IsAnswered needs x pass request close old text broken new moment ⊎ IsRefused needs x pass request close old text broken new moment
        → IsAnswered needs x pass request close (at_again old earlier) text broken (at_again new further) moment ⊎ IsRefused needs x pass request close (at_again old earlier) text broken (at_again new further) moment
    done_so old new text broken further earlier moment (inl is) =
        let again : IsAnswered needs x pass request close (at_again old earlier) text broken (at_again new further) moment = record {
          begun = is.begun;
          begins = is.begins;
          turns = is.turns;
          whole = is.whole;
          response = is.response;
          end = is.end;
          means = is.means;
          asked = is.asked;
          used = is.used;
          did = is.did;
          read = is.read;
          text_is = is.text_is;
          broken_is = is.broken_is;
        } in
        inl again
    done_so old new text broken further earlier moment (inr is) =
        inr (record { stays = is.stays; weight = is.weight; promised = is.promised; refused = is.refused; read = is.read; text_is = is.text_is; broken_is = is.broken_is })

    answers_by : (takes : Bool) (old new : Standing) (text : List ℕ) (broken : Bool) (further : List ℕ) → HasFurther new.moments further
        → MatchBool takes (AtMoment old new (λ moment. IsAnswered needs x pass request close old text broken new moment ⊎ IsRefused needs x pass request close old text broken new moment)) (IsNotTaken request close old text broken new)
        → (earlier : List ℕ) × HasFurther old.moments earlier × MatchBool takes (AtMoment (at_again old earlier) (at_again new further)
        (λ moment. IsAnswered needs x pass request close (at_again old earlier) text broken (at_again new further) moment ⊎ IsRefused needs x pass request close (at_again old earlier) text broken (at_again new further) moment))
        (IsNotTaken request close (at_again old earlier) text broken (at_again new further))
    answers_by true old new text broken further has is = moment_back old new further
        (λ moment. IsAnswered needs x pass request close old text broken new moment ⊎ IsRefused needs x pass request close old text broken new moment)
        (λ earlier moment. IsAnswered needs x pass request close (at_again old earlier) text broken (at_again new further) moment ⊎ IsRefused needs x pass request close (at_again old earlier) text broken (at_again new further) moment)
        has (done_so old new text broken further) is
    answers_by false old new text broken further has is =
        (further, same_back old new further is.same has, record { same = ap (λ (s : Standing). at_again s further) is.same; text_is = is.text_is; broken_is = is.broken_is })

    dropped_so : (old new : Standing) (text : List ℕ) (further earlier : List ℕ) (moment : ℕ) → IsUnbegun needs x pass old text new ⊎ IsDropped needs x pass request close old text new moment
        → IsUnbegun needs x pass (at_again old earlier) text (at_again new further) ⊎ IsDropped needs x pass request close (at_again old earlier) text (at_again new further) moment
    dropped_so old new text further earlier moment (inl is) = inl (record { stays = is.stays; read = is.read; text_is = is.text_is })
    dropped_so old new text further earlier moment (inr is) =
        let again : IsDropped needs x pass request close (at_again old earlier) text (at_again new further) moment = record {
          begun = is.begun;
          begins = is.begins;
          turns = is.turns;
          whole = is.whole;
          reached = is.reached;
          asked = is.asked;
          ordered = is.ordered;
          means = is.means;
          did = is.did;
          read = is.read;
          head = is.head;
          heads = is.heads;
          text_is = is.text_is;
        } in
        inr again

    drops_by : (takes : Bool) (old new : Standing) (text : List ℕ) (further : List ℕ) → HasFurther new.moments further
        → MatchBool takes (AtMoment old new (λ moment. IsUnbegun needs x pass old text new ⊎ IsDropped needs x pass request close old text new moment)) ((new ≡ old) × (text ≡ []))
        → (earlier : List ℕ) × HasFurther old.moments earlier × MatchBool takes (AtMoment (at_again old earlier) (at_again new further)
        (λ moment. IsUnbegun needs x pass (at_again old earlier) text (at_again new further) ⊎ IsDropped needs x pass request close (at_again old earlier) text (at_again new further) moment))
        ((at_again new further ≡ at_again old earlier) × (text ≡ []))
    drops_by true old new text further has is = moment_back old new further (λ moment. IsUnbegun needs x pass old text new ⊎ IsDropped needs x pass request close old text new moment)
        (λ earlier moment. IsUnbegun needs x pass (at_again old earlier) text (at_again new further) ⊎ IsDropped needs x pass request close (at_again old earlier) text (at_again new further) moment) has (dropped_so old new text further) is
    drops_by false old new text further has is = (further, same_back old new further is.0 has, (ap (λ (s : Standing). at_again s further) is.0, is.1))

  abbrev again : Stand → List ℕ → Stand
  again stand further = with_moments stand (ahead further)

  says_back : (w : Connection) (route : Way) (request : Request) (close : Bool) (old new : Stand) (text : List ℕ) (broken : Bool) (further : List ℕ) → HasFurther new.at.moments further
      → Says w route request close old text broken new → (earlier : List ℕ) × HasFurther old.at.moments earlier × Says w route request close (again old earlier) text broken (again new further)
  says_back w Edits request close old new text broken further has is = (
    further,
    subst (λ (moments : Moments). HasFurther moments further) is.quiet.moments has,
    record { told = is.told; takes = is.takes; quiet = record { moments = refl; read = is.quiet.read }; text_is = is.text_is; broken_is = is.broken_is },
  )
  says_back w Nowhere request close old new text broken further has is = (
    further,
    subst (λ (s : Stand). HasFurther s.at.moments further) is.same has,
    record { same = ap (λ (s : Stand). again s further) is.same; text_is = is.text_is; broken_is = is.broken_is },
  )
  says_back w Asks request close old new text broken further has is =
      let back = answers_by w.needs w.opening w.pass request close (takes_method request.method) old.at new.at text broken further has is.0 in
      (back.0, back.1, (back.2, is.1))

  leaves_back : (w : Connection) (route : Way) (request : Request) (close : Bool) (old new : Stand) (text : List ℕ) (further : List ℕ) → HasFurther new.at.moments further
      → Leaves w route request close old text new → (earlier : List ℕ) × HasFurther old.at.moments earlier × Leaves w route request close (again old earlier) text (again new further)
  leaves_back w Edits request close old new text further has is = (
    further,
    subst (λ (moments : Moments). HasFurther moments further) is.quiet.moments has,
    record { result = is.result; takes = is.takes; quiet = record { moments = refl; read = is.quiet.read }; text_is = is.text_is },
  )
  leaves_back w Nowhere request close old new text further has is =
      (further, subst (λ (s : Stand). HasFurther s.at.moments further) is.0 has, (ap (λ (s : Stand). again s further) is.0, is.1))
  leaves_back w Asks request close old new text further has is =
      let back = drops_by w.needs w.opening w.pass request close (takes_method request.method) old.at new.at text further has is.0 in
      (back.0, back.1, (back.2, is.1))

  -- the other is the same stand, over a clock that tells what it hasn't noted yet
  record IsAgain (stand other : Stand) : Type 0 where
    further : List ℕ
    has : HasFurther stand.at.moments further
    is : other ≡ again stand further

  said_back : (w : Connection) (close : Bool) (old now other : Stand) (e : Exchange) → IsSaid w close old e now → IsAgain now other → (before : Stand) × IsAgain old before × IsSaid w close before e other
  said_back w close old now other e said is =
      let back = says_back w (way w e.request) e.request close old now e.text e.broken is.further is.has said in
      (again old back.0, record { further = back.0; has = back.1; is = refl }, subst (λ (s : Stand). IsSaid w close (again old back.0) e s) (sym is.is) back.2)

  left_back : (w : Connection) (close : Bool) (old now other : Stand) (request : Request) (text : List ℕ) → IsLeft w close old request text now → IsAgain now other
      → (before : Stand) × IsAgain old before × IsLeft w close before request text other
  left_back w close old now other request text left is =
      let back = leaves_back w (way w request) request close old now text is.further is.has left in
      (again old back.0, record { further = back.0; has = back.1; is = refl }, subst (λ (s : Stand). IsLeft w close (again old back.0) request text s) (sym is.is) back.2)

-- where all is noted, the clock goes on with what stands behind
at_end : (old new : Stand) (noted : List ℕ) (behind : ℕ) (more : List ℕ) (has : HasNoted old noted new) → IsAgain (has.before ++ noted) behind more new (with_moments new (telling (behind ∷ more)))
at_end old new noted behind more has = record { further = []; has = (has.before ++ noted, has.after_is, append-nil (has.before ++ noted)); is = refl }

-- where nothing of that is noted yet, all of it is ahead
at_start : (old new start : Stand) (noted : List ℕ) (behind : ℕ) (more : List ℕ) (has : HasNoted old noted new) → IsAgain (has.before ++ noted) behind more old start
    → start ≡ with_moments old (telling (noted ++ behind ∷ more))
at_start old new start noted behind more has is =
    let same : has.before ≡ is.has.0 = some_same has.before is.has.0 (sym has.before_is ∙ is.has.1) in
    let further : is.further ≡ noted = append_cancel_left has.before is.further noted (ap (λ l. l ++ is.further) same ∙ is.has.2) in
    is.is ∙ ap (λ l. with_moments old (telling (l ++ behind ∷ more))) further
  where
    some_same : (a b : List ℕ) → Some a ≡ Some b → a ≡ b
    some_same a b same = cc

pub told_again : IsToldAgain
told_again = record {
  walked = λ w old new exchanges noted behind more has walked.
      let back = walked_back (IsSaid w) (IsLeft w) (IsAgain (has.before ++ noted) behind more) (said_back (has.before ++ noted) behind more w) (left_back (has.before ++ noted) behind more w)
      exchanges old new (with_moments new (telling (behind ∷ more))) walked (at_end old new noted behind more has) in
      subst (λ (s : Stand). WalkedBy (IsSaid w) s exchanges (with_moments new (telling (behind ∷ more)))) (at_start old new back.0 noted behind more has back.1) back.2;
  talked = λ w start now left later before after old new ended noted behind more has tells.
      let back = tells_back (IsSaid w) (IsLeft w) (IsAgain (has.before ++ noted) behind more) (said_back (has.before ++ noted) behind more w) (left_back (has.before ++ noted) behind more w)
      start now (with_moments now (telling (behind ∷ more))) left later before after old new ended tells (at_end start now noted behind more has) in
      subst (λ (s : Stand). Tells (IsSaid w) (IsLeft w) s (with_moments now (telling (behind ∷ more))) left later before after old new ended) (at_start start now back.0 noted behind more has back.1) back.2;
}
