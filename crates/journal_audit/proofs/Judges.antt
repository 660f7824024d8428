-- One journal behind another.
use Rattle.std.proofs.Common.{◌≡◌, ℕ, suc, ◌+◌, ◌-◌, Bool, true, false, List, [], ◌∷◌, ◌++◌, length, take, Option, Some, None, refl, sym, ap, subst, ◌∙◌, arith}
use Rattle.std.specs.Bool.{Decides}
use Rattle.std.specs.Prelude.{Result, Ok, Err, IfOk}
use Rattle.journal_audit.specs.Judge.{HasTalkIf, IsJudged, IsOpenedJudged, IsTalkJudged}
use Rattle.journal_audit.specs.declared.judging.Judged.{Judged}
use Rattle.journal_audit.specs.declared.judging.Judged.TheVariants.{Right, Wrong}
use Rattle.journal_audit.specs.declared.verdict.Why.TheVariants as why
use Rattle.recorded_talk.specs.Talked.{HasTalk}
use Rattle.right_journal.specs.Right.{HasRightTalk, IsRightOpening, Journal, goes_on_as, unrolled}
use Rattle.right_journal.specs.Verdict.{IsWrong, at_opening}
use Rattle.site_journal.specs.Reading.{EndsByRoll, is_roll}
use Rattle.site_journal.specs.declared.talk.Talk.{Talk}
use Rattle.site_words.proofs.Legal.{after_push}
use Rattle.site_words.specs.Law.{Legal}
use Rattle.site_words.specs.Opening.{is_sound, next_opening}
use Rattle.site_words.specs.State.{State, after, moved}
use Rattle.site_words.specs.Trees.{Needs}
use Rattle.site_words.specs.declared.words.Entry.{Entry}
use Rattle.site_words.specs.declared.words.Op.{Op}
use Rattle.site_words.specs.declared.words.Op.TheVariants as op
use Rattle.site_words.specs.declared.words.Opening.{Opening}
use Rattle.site_words.specs.declared.words.Reply.{Reply}

-- the opening

pub never_opens : (needs : Needs) (last : Option Journal) (x : Opening) → is_sound x ≡ false → Decides false (IsRightOpening needs last x)
never_opens needs last x unsound = (λ is. absurd (cc), λ right. absurd (let sound : is_sound x ≡ true = right.sound in cc))

-- an opening goes on from itself before the first entry
pub first_again : (needs : Needs) (x y first : Opening) (history : List Entry) → y ≡ x → history ≡ [] → first ≡ next_opening y (after needs y history) → first ≡ x
first_again needs x y first history same empty is = is ∙ ap (λ h. next_opening y (after needs y h)) empty ∙ same

-- the Roll

roll_op : (o : Op) (pass : ℕ) (r : Reply) → is_roll (record { pass = pass; op = o; reply = r }) ≡ true → o ≡ op.Roll
roll_op (op.Publish base edits) pass r is = absurd (cc)
roll_op (op.Begin cookie moment) pass r is = absurd (cc)
roll_op (op.App request st) pass r is = absurd (cc)
roll_op (op.Fresh request) pass r is = absurd (cc)
roll_op (op.Fetch request path) pass r is = absurd (cc)
roll_op (op.Offer request path) pass r is = absurd (cc)
roll_op (op.End request attrs) pass r is = absurd (cc)
roll_op (op.Abandon request) pass r is = absurd (cc)
roll_op (op.Snapshot cookie) pass r is = absurd (cc)
roll_op op.Roll pass r is = refl

record Ends (history : List Entry) : Type 0 where
  last : Entry
  is : history ≡ unrolled history ++ last ∷ []
  rolls : is_roll last ≡ true

unrolled_more : (e f : Entry) (more : List Entry) → unrolled (e ∷ f ∷ more) ≡ e ∷ unrolled (f ∷ more)
unrolled_more e f more =
    let long : length (e ∷ f ∷ more) - 1 ≡ suc (length more) = omega arith in
    let short : length (f ∷ more) - 1 ≡ length more = omega arith in
    ap (λ k. take k (e ∷ f ∷ more)) long ∙ ap (λ k. e ∷ take k (f ∷ more)) (sym short)

ends_by : (history : List Entry) → EndsByRoll history → Ends history
ends_by [] ends = absurd ends
ends_by (e ∷ []) ends = record { last = e; is = refl; rolls = ends }
ends_by (e ∷ f ∷ more) ends = let rest = ends_by (f ∷ more) ends.1 in record { last = rest.last; is = ap (λ l. e ∷ l) rest.is ∙ ap (λ l. l ++ (rest.last ∷ [])) (sym (unrolled_more e f more)); rolls = rest.rolls }

-- it changes nothing of the opening that goes on
by_roll : (needs : Needs) (x : Opening) (s : State) (e : Entry) → e.op ≡ op.Roll → next_opening x (moved needs x s e) ≡ next_opening x s
by_roll needs x s e is = subst (λ o. next_opening x (moved needs x s (record { pass = e.pass; op = o; reply = e.reply })) ≡ next_opening x s) (sym is) refl

pub goes_on_so : (needs : Needs) (j : Journal) (y next : Opening) (front : List Entry) → EndsByRoll j.history → y ≡ j.opening → front ≡ unrolled j.history → next ≡ next_opening y (after needs y front) → next ≡ goes_on_as needs j
goes_on_so needs j y next front ends opening unroll is =
    let split = ends_by j.history ends in
    let here : next ≡ next_opening j.opening (after needs j.opening (unrolled j.history)) = is ∙ ap (λ z. next_opening z (after needs z front)) opening ∙ ap (λ h. next_opening j.opening (after needs j.opening h)) unroll in
    let rolled : next_opening j.opening (after needs j.opening (unrolled j.history ++ split.last ∷ [])) ≡ next_opening j.opening (after needs j.opening (unrolled j.history)) =
    ap (next_opening j.opening) (after_push needs j.opening (unrolled j.history) split.last)
    ∙ by_roll needs j.opening (after needs j.opening (unrolled j.history)) split.last (roll_op split.last.op split.last.pass split.last.reply split.rolls) in
    here ∙ sym rolled ∙ ap (λ h. next_opening j.opening (after needs j.opening h)) (sym split.is)

-- the whole

pub wrong_opening : (needs : Needs) (last : Option Journal) (j : Journal) (right : Bool) → right ≡ false → Decides right (IsRightOpening needs last j.opening) → IsWrong needs last j at_opening
wrong_opening needs last j right isnt decides = λ is. absurd (let yes = decides.1 is in cc)

-- what is said of a journal whose opening is right
pub judged_so : (needs : Needs) (last : Option Journal) (j : Journal) (said : Judged) → IsRightOpening needs last j.opening → IsOpenedJudged needs j.opening j.history j.talk said → IsJudged needs last j said
judged_so needs last j (Right next) opens is = (record { opening = opens; entries = is.0; talk = is.1 }, is.2)
judged_so needs last j (Wrong why.Opening) opens is = absurd is
judged_so needs last j (Wrong (why.Entry place)) opens is = (opens, is)
judged_so needs last j (Wrong why.Talk) opens is = (opens, is.0, is.1)

to_right : (needs : Needs) (x y : Opening) (history front : List Entry) (talk : Option Talk) → y ≡ x → front ≡ unrolled history → HasTalkIf needs y front talk → HasRightTalk needs x history talk
to_right needs x y history front None same unroll has = tt
to_right needs x y history front (Some talk) same unroll has = subst (λ h. HasTalk needs x h talk) unroll (subst (λ z. HasTalk needs z front talk) same has)

of_right : (needs : Needs) (x y : Opening) (history front : List Entry) (talk : Option Talk) → y ≡ x → front ≡ unrolled history → HasRightTalk needs x history talk → HasTalkIf needs y front talk
of_right needs x y history front None same unroll has = tt
of_right needs x y history front (Some talk) same unroll has = subst (λ z. HasTalk needs z front talk) (sym same) (subst (λ h. HasTalk needs x h talk) (sym unroll) has)

-- what is said of the talk is said of the journal
pub opened_so : (needs : Needs) (x y z : Opening) (history front : List Entry) (talk : Option Talk) (said : Judged) → EndsByRoll history → y ≡ x → z ≡ x → front ≡ unrolled history → Legal needs x history
    → IsTalkJudged needs y front talk (next_opening z (after needs z front)) said → IsOpenedJudged needs x history talk said
opened_so needs x y z history front talk (Right next) ends same site unroll legal is =
    (legal, to_right needs x y history front talk same unroll is.0, goes_on_so needs (record { opening = x; history = history; talk = talk }) z next front ends site unroll is.1)
opened_so needs x y z history front talk (Wrong why.Opening) ends same site unroll legal is = absurd is
opened_so needs x y z history front talk (Wrong (why.Entry place)) ends same site unroll legal is = absurd is
opened_so needs x y z history front talk (Wrong why.Talk) ends same site unroll legal is = (legal, λ has. is (of_right needs x y history front talk same unroll has))

-- unless memory ran out

pub judged_if : {E : Type 0} (needs : Needs) (last : Option Journal) (j : Journal) (r : Result Judged E) → IsRightOpening needs last j.opening → IfOk r (IsOpenedJudged needs j.opening j.history j.talk) → IfOk r (IsJudged needs last j)
judged_if needs last j (Ok said) opens is = judged_so needs last j said opens is
judged_if needs last j (Err e) opens is = tt

pub opened_if : {E : Type 0} (needs : Needs) (x y z : Opening) (history front : List Entry) (talk : Option Talk) (r : Result Judged E) → EndsByRoll history → y ≡ x → z ≡ x → front ≡ unrolled history → Legal needs x history
    → IfOk r (IsTalkJudged needs y front talk (next_opening z (after needs z front))) → IfOk r (IsOpenedJudged needs x history talk)
opened_if needs x y z history front talk (Ok said) ends same site unroll legal is = opened_so needs x y z history front talk said ends same site unroll legal is
opened_if needs x y z history front talk (Err e) ends same site unroll legal is = tt
