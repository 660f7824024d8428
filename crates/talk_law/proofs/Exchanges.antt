-- Where one pass alone acts, from one state a request has one exchange, which leaves one state.
use Rattle.std.proofs.Common.{◌≡◌, ℕ, Bool, true, false, List, sym, ap, subst, ◌∙◌}
use Rattle.std.specs.Bool.{MatchBool}
use Rattle.std.specs.Prelude.{◌⊎◌}
use Rattle.conversation.specs.Exchange.{Exchange, exchange_of}
use Rattle.editor.specs.Message.{message}
use Rattle.http_in.specs.declared.request.Request.{Request}
use Rattle.talk_law.specs.OneTalk.{IsAlone, TellsMoments}
use Rattle.page_answers.specs.Answers.{IsAnswered, IsNotTaken, IsRefused}
use Rattle.http_out.specs.Methods.{shows_body, takes_method}
use Rattle.page_answers.specs.Standing.{AtMoment, Standing}
use Rattle.page_meaning.specs.Laws.{RequestsGoOn}
use Rattle.site_words.specs.Law.{Legal}
use Rattle.talk_words.specs.Connection.{Connection, Stand}
use Rattle.talk_words.specs.Said.{IsSaid, Says, told_text, way}
use Rattle.talk_words.specs.declared.way.Way.{Way}
use Rattle.talk_words.specs.declared.way.Way.TheVariants.{Edits, Nowhere, Asks}
use Rattle.talk_law.proofs.Messages.{took_one}
use Rattle.talk_law.proofs.Requests.{asked_one, tells_on}

-- what is said

stand_is : (a b : Stand) → a.draft ≡ b.draft → a.at ≡ b.at → a ≡ b
stand_is a b draft at = ap (λ d. let z : Stand = record { draft = d; at = a.at } in z) draft ∙ ap (λ s. let z : Stand = record { draft = b.draft; at = s } in z) at

quiet_is : (old a b : Standing) → a.seen ≡ b.seen → a.moments ≡ old.moments → b.moments ≡ old.moments → a.steps ≡ old.steps → b.steps ≡ old.steps → a ≡ b
quiet_is old a b seen moments other steps also =
    ap (λ s. let z : Standing = record { seen = s; moments = a.moments; steps = a.steps } in z) seen
    ∙ (ap (λ s. let z : Standing = record { seen = b.seen; moments = s; steps = a.steps } in z) (moments ∙ sym other) ∙ ap (λ n. let z : Standing = record { seen = b.seen; moments = b.moments; steps = n } in z) (steps ∙ sym also))

-- the state of a connection from which its way is determined
abbrev pub IsGood : Connection → Stand → Type 0
IsGood w s = Legal w.needs w.opening s.at.seen × TellsMoments s.at.moments

module _ (go_on : RequestsGoOn) (w : Connection) (alone : IsAlone w) where
  says_one : (route : Way) (request : Request) (close : Bool) (old : Stand) (text text' : List ℕ) (broken broken' : Bool) (now other : Stand) → IsGood w old
      → Says w route request close old text broken now → Says w route request close old text' broken' other → (text ≡ text') × (broken ≡ broken') × (now ≡ other)
  says_one Edits request close old text text' broken broken' now other good a b =
      let same = took_one w.needs w.opening w.pass alone.one alone.first (message request) old.draft now.draft other.draft old.at.seen now.at.seen other.at.seen a.told b.told good.0 a.takes b.takes in (
        a.text_is ∙ ap (λ t. told_text t close (shows_body request.method)) same.0 ∙ sym b.text_is,
        a.broken_is ∙ sym b.broken_is,
        stand_is now other same.1 (quiet_is old.at now.at other.at same.2 a.quiet.moments b.quiet.moments a.quiet.read b.quiet.read),
      )
  says_one Nowhere request close old text text' broken broken' now other good a b = (a.text_is ∙ sym b.text_is, a.broken_is ∙ sym b.broken_is, a.same ∙ sym b.same)
  says_one Asks request close old text text' broken broken' now other good a b =
      let same = asked_one go_on w.needs w.opening w.pass alone.one alone.first request close old.at text text' broken broken' now.at other.at (takes_method request.method) good.0 good.1 a.0 b.0 in
      (same.0, same.1, stand_is now other (a.1 ∙ sym b.1) same.2)

  -- from one state a request has one exchange
  pub said_one : (close : Bool) (old now other : Stand) (e f : Exchange) → IsGood w old → IsSaid w close old e now → IsSaid w close old f other → e.request ≡ f.request → (e ≡ f) × (now ≡ other)
  said_one close old now other e f good a b request =
      let moved = subst (λ r. Says w (way w r) r close old f.text f.broken other) (sym request) b in
      let same = says_one (way w e.request) e.request close old e.text f.text e.broken f.broken now other good a moved in (
        ap (λ r. exchange_of r e.text e.broken) request ∙ (ap (λ t. exchange_of f.request t e.broken) same.0 ∙ ap (exchange_of f.request f.text) same.1),
        same.2,
      )

  -- the clock goes on telling
  tells_says : (route : Way) (request : Request) (close : Bool) (old : Stand) (text : List ℕ) (broken : Bool) (now : Stand) → TellsMoments old.at.moments → Says w route request close old text broken now → TellsMoments now.at.moments
  tells_says Edits request close old text broken now tells a = subst TellsMoments (sym a.quiet.moments) tells
  tells_says Nowhere request close old text broken now tells a = subst TellsMoments (sym (ap (λ (s : Stand). s.at.moments) a.same)) tells
  tells_says Asks request close old text broken now tells a = go (takes_method request.method) a.0
    where
      go : (takes : Bool)
          → MatchBool takes (AtMoment old.at now.at (λ moment. IsAnswered w.needs w.opening w.pass request close old.at text broken now.at moment ⊎ IsRefused w.needs w.opening w.pass request close old.at text broken now.at moment))
          (IsNotTaken request close old.at text broken now.at) → TellsMoments now.at.moments
      go true is = tells_on old.at.moments now.at.moments now.at.moments is.moment is.moment tells is.told is.told
      go false is = subst TellsMoments (sym (ap (λ (s : Standing). s.moments) is.same)) tells

  pub tells_said : (close : Bool) (old now : Stand) (e : Exchange) → TellsMoments old.at.moments → IsSaid w close old e now → TellsMoments now.at.moments
  tells_said close old now e tells a = tells_says (way w e.request) e.request close old e.text e.broken now tells a
