-- Where one pass alone acts, from one state a request is answered in one way.
use Rattle.std.proofs.Common.{◌≡◌, ℕ, ◌+◌, Bool, true, false, List, [], ◌∷◌, ◌++◌, refl, sym, ap, subst, ◌∙◌, Option, Some, inl, inr, None}
use Rattle.std.proofs.lemmas.List.{map-append}
use Rattle.std.specs.Bool.{MatchBool}
use Rattle.std.specs.List.{list_all}
use Rattle.std.specs.Prelude.{◌⊎◌}
use Rattle.edges.specs.Clock.{Answers as Told, Moments, ahead_after}
use Rattle.edges.specs.declared.acted.Acted.{Acted}
use Rattle.edges.specs.declared.acted.Acted.TheVariants.{Did, Refused}
use Rattle.http_in.specs.declared.request.Request.{Request}
use Rattle.http_out.specs.Full.{full_line}
use Rattle.http_out.specs.Response.{Response, plain, wire}
use Rattle.http_out.specs.declared.status.Status.TheVariants as status
use Rattle.talk_law.proofs.Alone.{acts_did, acts_is, done_follows, done_is, entries_by, entry_by, stays_is}
use Rattle.talk_law.proofs.Steps.{Ends}
use Rattle.talk_law.proofs.Turns.{one_course, one_reply}
use Rattle.talk_law.specs.OneTalk.{TellsMoments}
use Rattle.page_answers.specs.Answers.{IsAnswered, IsNotTaken, IsRefused, attrs_left}
use Rattle.http_out.specs.Methods.{shows_body}
use Rattle.page_answers.specs.Standing.{AtMoment, Standing, session_found, tree_at}
use Rattle.page_answers.specs.Turns.{Turn, all_bytes, all_calls, answers_of, is_whole, steps_of}
use Rattle.page_answers.specs.Pages.{paged_at}
use Rattle.page_meaning.specs.Laws.{RequestsGoOn}
use Rattle.page_meaning.specs.Respond.{respond}
use Rattle.page_meaning.specs.Response.{Answered, closing, end_state, responds}
use Rattle.page_meaning.specs.State.{State}
use Rattle.pass_course.specs.Course.{HasDone}
use Rattle.site_words.specs.Law.{Answer, Legal, LegalFrom}
use Rattle.site_words.specs.State.{after}
use Rattle.site_words.specs.Step.{step}
use Rattle.site_words.specs.Trees.{Needs}
use Rattle.site_words.specs.declared.words.Entry.{Entry}
use Rattle.site_words.specs.declared.words.Op.{Op}
use Rattle.site_words.specs.declared.words.Op.TheVariants as op
use Rattle.site_words.specs.declared.words.Opening.{Opening}
use Rattle.site_words.specs.declared.words.Refusal.{Refusal}
use Rattle.site_words.specs.declared.words.Refusal.TheVariants.{JournalFull}
use Rattle.site_words.specs.declared.words.Reply.{Reply}
use Rattle.site_words.specs.declared.words.Reply.TheVariants as reply
use Rattle.source_tree.specs.declared.file.File.{File}
use Rattle.talk_words.specs.Noted.{telling}

-- a step isn't both done and refused
pub both_ways : (a : Acted Reply Refusal) (r : Reply) (refusal : Refusal) → a ≡ Did r → a ≡ Refused refusal → ⊥
both_ways a r refusal first second = let same : Did r ≡ Refused refusal = sym first ∙ second in absurd (cc)

pub one_refusal : (a : Acted Reply Refusal) (r q : Refusal) → a ≡ Refused r → a ≡ Refused q → r ≡ q
one_refusal a r q first second = let same : Refused r ≡ Refused q = sym first ∙ second in cc

-- a clock that tells its moments
module _ (before later still : Moments) (m n : ℕ) (tells : TellsMoments before) (first : Told before later m) (second : Told before still n) where
  told_first : Told (telling tells.0) later m
  told_first = subst (λ a. Told a later m) tells.1 first

  told_second : Told (telling tells.0) still n
  told_second = subst (λ a. Told a still n) tells.1 second

  goes_on : (told : Moments) (ahead : List ℕ) → told.ahead ≡ Some ahead → told.noted ≡ None → told ≡ telling ahead
  goes_on told ahead is none =
      ap (λ a. let z : Moments = record { ahead = a; noted = told.noted } in z) is ∙ ap (λ a. let z : Moments = record { ahead = Some ahead; noted = a } in z) none

  later_is : later ≡ telling (ahead_after tells.0)
  later_is = goes_on later (ahead_after tells.0) told_first.goes.1 told_first.notes

  pub tells_on : TellsMoments later
  tells_on = (ahead_after tells.0, later_is)

  pub one_moment : (m ≡ n) × (later ≡ still)
  one_moment = (told_first.goes.0 ∙ sym told_second.goes.0, later_is ∙ sym (goes_on still (ahead_after tells.0) told_second.goes.1 told_second.notes))

-- an answered request, behind its beginning
record Went (needs : Needs) (x : Opening) (pass : ℕ) (request : Request) (close : Bool) (text : List ℕ) (broken : Bool) (seen : List Entry) (before steps : ℕ) (begun : List Entry) (number : ℕ) (session : Option ℕ) : Type 0 where
  turns : List Turn
  whole : list_all is_whole turns ≡ true
  response : Response
  end : State
  means : respond (paged_at (tree_at needs x begun)) request (session_found needs x request.cookie begun session) (answers_of x.seed turns) ≡ responds response end
  asked : end.asked ≡ steps_of turns
  used : end.answers ≡ []
  did : HasDone needs x pass begun seen (all_calls number turns ++ (op.End number (attrs_left end), reply.Ended) ∷ [])
  read : steps ≡ before + all_bytes (tree_at needs x begun) turns
  text_is : text ≡ wire (closing close response) (shows_body request.method)
  broken_is : broken ≡ response.broken

abbrev AreOne : (text text' : List ℕ) (broken broken' : Bool) (new new' : Standing) → Type 0
AreOne text text' broken broken' new new' = (text ≡ text') × (broken ≡ broken') × (new ≡ new')

module _ (go_on : RequestsGoOn) (needs : Needs) (x : Opening) (pass : ℕ) (one : x.passes ≡ 1) (first : pass ≡ 0) where
  -- from one beginning a request goes one way
  one_answer : (request : Request) (close : Bool) (text text' : List ℕ) (broken broken' : Bool) (seen seen' : List Entry) (before steps steps' : ℕ) (begun : List Entry) (number : ℕ) (session : Option ℕ) → Legal needs x begun
      → Went needs x pass request close text broken seen before steps begun number session → Went needs x pass request close text' broken' seen' before steps' begun number session
      → (text ≡ text') × (broken ≡ broken') × (seen ≡ seen') × (steps ≡ steps')
  one_answer request close text text' broken broken' seen seen' before steps steps' begun number session legal a b =
      let tree : List File = tree_at needs x begun in
      let resp : List Answer → Answered = respond (paged_at tree) request (session_found needs x request.cookie begun session) in
      let last : Entry = entry_by pass (op.End number (attrs_left a.end), reply.Ended) in
      let other : Entry = entry_by pass (op.End number (attrs_left b.end), reply.Ended) in
      let ends : Ends resp x.seed a.turns = record { response = a.response; end = a.end; means = a.means; asked = a.asked; used = a.used } in
      let also : Ends resp x.seed b.turns = record { response = b.response; end = b.end; means = b.means; asked = b.asked; used = b.used } in
      let follows = subst (LegalFrom needs x (after needs x begun)) (map-append (entry_by pass) (all_calls number a.turns) ((op.End number (attrs_left a.end), reply.Ended) ∷ []))
      (done_follows needs x pass one first begun seen (all_calls number a.turns ++ (op.End number (attrs_left a.end), reply.Ended) ∷ []) legal a.did) in
      let follows' = subst (LegalFrom needs x (after needs x begun)) (map-append (entry_by pass) (all_calls number b.turns) ((op.End number (attrs_left b.end), reply.Ended) ∷ []))
      (done_follows needs x pass one first begun seen' (all_calls number b.turns ++ (op.End number (attrs_left b.end), reply.Ended) ∷ []) legal b.did) in
      let turns = one_course needs x pass number resp (λ answers more. go_on (paged_at tree) request (session_found needs x request.cookie begun session) answers more) x.seed
      a.turns b.turns (after needs x begun) (last ∷ []) (other ∷ []) ends also a.whole b.whole follows follows' in
      let means : resp (answers_of x.seed a.turns) ≡ responds b.response b.end = subst (λ ts. resp (answers_of x.seed ts) ≡ responds b.response b.end) (sym turns) b.means in
      let same : responds a.response a.end ≡ responds b.response b.end = sym a.means ∙ means in
      let response : a.response ≡ b.response = cc in
      let end : a.end ≡ b.end = ap end_state same in
      let grown = done_is needs x pass one first begun seen (all_calls number a.turns ++ (op.End number (attrs_left a.end), reply.Ended) ∷ []) legal a.did in
      let grown' = done_is needs x pass one first begun seen' (all_calls number b.turns ++ (op.End number (attrs_left b.end), reply.Ended) ∷ []) legal b.did in (
        a.text_is ∙ ap (λ r. wire (closing close r) (shows_body request.method)) response ∙ sym b.text_is,
        a.broken_is ∙ ap (λ (r : Response). r.broken) response ∙ sym b.broken_is,
        grown ∙ ap (λ ts. begun ++ entries_by pass (all_calls number ts ++ (op.End number (attrs_left a.end), reply.Ended) ∷ [])) turns
            ∙ ap (λ e. begun ++ entries_by pass (all_calls number b.turns ++ (op.End number (attrs_left e), reply.Ended) ∷ [])) end ∙ sym grown',
        a.read ∙ ap (λ ts. before + all_bytes tree ts) turns ∙ sym b.read,
      )

  -- a request that was answered twice from one state
  both_answered : (request : Request) (close : Bool) (old : Standing) (text text' : List ℕ) (broken broken' : Bool) (new new' : Standing) (moment : ℕ) → Legal needs x old.seen → new.moments ≡ new'.moments
      → IsAnswered needs x pass request close old text broken new moment → IsAnswered needs x pass request close old text' broken' new' moment → AreOne text text' broken broken' new new'
  both_answered request close old text text' broken broken' new new' moment legal moments a b =
      let o : Op = op.Begin request.cookie moment in
      let r : Reply = reply.Begun a.begins.request a.begins.version a.begins.session in
      let q : Reply = reply.Begun b.begins.request b.begins.version b.begins.session in
      let replies = one_reply (step needs x (after needs x old.seen) pass o) r q (acts_did needs x pass one first old.seen a.begun o r legal a.begins.acts) (acts_did needs x pass one first old.seen b.begun o q legal b.begins.acts) in
      let number : a.begins.request ≡ b.begins.request = cc in
      let session : a.begins.session ≡ b.begins.session = cc in
      let begun : a.begun ≡ b.begun = acts_is needs x pass one first old.seen a.begun o r legal a.begins.acts ∙ ap (λ z. old.seen ++ entry_by pass (o, z) ∷ []) replies ∙ sym (acts_is needs x pass one first old.seen b.begun o q legal b.begins.acts) in
      let went : Went needs x pass request close text broken new.seen old.steps new.steps a.begun a.begins.request a.begins.session = record {
        turns = a.turns;
        whole = a.whole;
        response = a.response;
        end = a.end;
        means = a.means;
        asked = a.asked;
        used = a.used;
        did = a.did;
        read = a.read;
        text_is = a.text_is;
        broken_is = a.broken_is;
      } in
      let also : Went needs x pass request close text' broken' new'.seen old.steps new'.steps b.begun b.begins.request b.begins.session = record {
        turns = b.turns;
        whole = b.whole;
        response = b.response;
        end = b.end;
        means = b.means;
        asked = b.asked;
        used = b.used;
        did = b.did;
        read = b.read;
        text_is = b.text_is;
        broken_is = b.broken_is;
      } in
      let moved : Went needs x pass request close text' broken' new'.seen old.steps new'.steps a.begun a.begins.request a.begins.session =
      subst (λ z. Went needs x pass request close text' broken' new'.seen old.steps new'.steps z a.begins.request a.begins.session) (sym begun)
      (subst (λ z. Went needs x pass request close text' broken' new'.seen old.steps new'.steps b.begun z a.begins.session) (sym number)
      (subst (λ z. Went needs x pass request close text' broken' new'.seen old.steps new'.steps b.begun b.begins.request z) (sym session) also)) in
      let same = one_answer request close text text' broken broken' new.seen new'.seen old.steps new.steps new'.steps a.begun a.begins.request a.begins.session a.begins.acts.is_legal went moved in
      (same.0, same.1, standing_same new new' same.2 moments same.3)
    where
      standing_same : (a b : Standing) → a.seen ≡ b.seen → a.moments ≡ b.moments → a.steps ≡ b.steps → a ≡ b
      standing_same a b seen moments steps =
          ap (λ s. let z : Standing = record { seen = s; moments = a.moments; steps = a.steps } in z) seen ∙ (ap (λ s. let z : Standing = record { seen = b.seen; moments = s; steps = a.steps } in z) moments
          ∙ ap (λ n. let z : Standing = record { seen = b.seen; moments = b.moments; steps = n } in z) steps)

  both_refused : (request : Request) (close : Bool) (old : Standing) (text text' : List ℕ) (broken broken' : Bool) (new new' : Standing) (moment : ℕ) → Legal needs x old.seen → new.moments ≡ new'.moments
      → IsRefused needs x pass request close old text broken new moment → IsRefused needs x pass request close old text' broken' new' moment → AreOne text text' broken broken' new new'
  both_refused request close old text text' broken broken' new new' moment legal moments a b =
      let here = stays_is needs x pass one first old.seen new.seen legal a.stays in
      let there = stays_is needs x pass one first old.seen new'.seen legal b.stays in
      let o : Op = op.Begin request.cookie moment in
      let is = subst (λ h. step needs x (after needs x h) pass o ≡ Refused (JournalFull a.weight a.promised)) here a.refused in
      let also = subst (λ h. step needs x (after needs x h) pass o ≡ Refused (JournalFull b.weight b.promised)) there b.refused in
      let same = one_refusal (step needs x (after needs x old.seen) pass o) (JournalFull a.weight a.promised) (JournalFull b.weight b.promised) is also in
      let weight : a.weight ≡ b.weight = cc in
      let promised : a.promised ≡ b.promised = cc in (
        a.text_is ∙ ap (λ n. told n a.promised) weight ∙ ap (told b.weight) promised ∙ sym b.text_is,
        a.broken_is ∙ sym b.broken_is,
        standing_is new old.seen new'.moments old.steps here moments a.read ∙ sym (standing_is new' old.seen new'.moments old.steps there refl b.read),
      )
    where
      told : ℕ → ℕ → List ℕ
      told weight promised = plain status.ServiceUnavailable close (full_line weight promised) (shows_body request.method)

      standing_is : (a : Standing) (seen : List Entry) (moments : Moments) (steps : ℕ) → a.seen ≡ seen → a.moments ≡ moments → a.steps ≡ steps → a ≡ record { seen = seen; moments = moments; steps = steps }
      standing_is a seen moments steps is also too =
          ap (λ s. let z : Standing = record { seen = s; moments = a.moments; steps = a.steps } in z) is ∙ (ap (λ s. let z : Standing = record { seen = seen; moments = s; steps = a.steps } in z) also
          ∙ ap (λ n. let z : Standing = record { seen = seen; moments = moments; steps = n } in z) too)

  one_way : (request : Request) (close : Bool) (old : Standing) (text text' : List ℕ) (broken broken' : Bool) (new new' : Standing) (moment : ℕ) → Legal needs x old.seen → new.moments ≡ new'.moments
      → IsAnswered needs x pass request close old text broken new moment ⊎ IsRefused needs x pass request close old text broken new moment
      → IsAnswered needs x pass request close old text' broken' new' moment ⊎ IsRefused needs x pass request close old text' broken' new' moment → AreOne text text' broken broken' new new'
  one_way request close old text text' broken broken' new new' moment legal moments (inl a) (inl b) = both_answered request close old text text' broken broken' new new' moment legal moments a b
  one_way request close old text text' broken broken' new new' moment legal moments (inr a) (inr b) = both_refused request close old text text' broken broken' new new' moment legal moments a b
  one_way request close old text text' broken broken' new new' moment legal moments (inl a) (inr b) =
      let o : Op = op.Begin request.cookie moment in
      let r : Reply = reply.Begun a.begins.request a.begins.version a.begins.session in
      let is = subst (λ h. step needs x (after needs x h) pass o ≡ Refused (JournalFull b.weight b.promised)) (stays_is needs x pass one first old.seen new'.seen legal b.stays) b.refused in
      absurd (both_ways (step needs x (after needs x old.seen) pass o) r (JournalFull b.weight b.promised) (acts_did needs x pass one first old.seen a.begun o r legal a.begins.acts) is)
  one_way request close old text text' broken broken' new new' moment legal moments (inr a) (inl b) =
      let o : Op = op.Begin request.cookie moment in
      let r : Reply = reply.Begun b.begins.request b.begins.version b.begins.session in
      let is = subst (λ h. step needs x (after needs x h) pass o ≡ Refused (JournalFull a.weight a.promised)) (stays_is needs x pass one first old.seen new.seen legal a.stays) a.refused in
      absurd (both_ways (step needs x (after needs x old.seen) pass o) r (JournalFull a.weight a.promised) (acts_did needs x pass one first old.seen b.begun o r legal b.begins.acts) is)

  pub asked_one : (request : Request) (close : Bool) (old : Standing) (text text' : List ℕ) (broken broken' : Bool) (new new' : Standing) (takes : Bool) → Legal needs x old.seen → TellsMoments old.moments
      → MatchBool takes (AtMoment old new (λ moment. IsAnswered needs x pass request close old text broken new moment ⊎ IsRefused needs x pass request close old text broken new moment)) (IsNotTaken request close old text broken new)
      → MatchBool takes (AtMoment old new' (λ moment. IsAnswered needs x pass request close old text' broken' new' moment ⊎ IsRefused needs x pass request close old text' broken' new' moment)) (IsNotTaken request close old text' broken' new')
      → AreOne text text' broken broken' new new'
  asked_one request close old text text' broken broken' new new' true legal tells a b =
      let moments = one_moment old.moments new.moments new'.moments a.moment b.moment tells a.told b.told in
      one_way request close old text text' broken broken' new new' a.moment legal moments.1 a.done
      (subst (λ m. IsAnswered needs x pass request close old text' broken' new' m ⊎ IsRefused needs x pass request close old text' broken' new' m) (sym moments.0) b.done)
  asked_one request close old text text' broken broken' new new' false legal tells a b = (a.text_is ∙ sym b.text_is, a.broken_is ∙ sym b.broken_is, a.same ∙ sym b.same)
