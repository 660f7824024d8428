-- A request that runs on a site of its own is answered there at once: nothing is under way, and its journal is empty.
use Rattle.std.proofs.Common.{◌≡◌, ◌⊎◌, ◌<◌, ℕ, Bool, true, List, [], ◌∷◌, Option, Some, None, refl, subst, inl, inr, arith}
use Rattle.std.specs.Bool.{MatchBool}
use Rattle.std.specs.Prelude.{◌==◌, ◌&&◌, if◌then◌else◌, nat_lt}
use Rattle.edges.specs.declared.acted.Acted.TheVariants.{Refused}
use Rattle.http_in.specs.declared.request.Request.{Request}
use Rattle.http_out.specs.Methods.{takes_method}
use Rattle.page_answers.specs.Answers.{Answers, IsAnswered, IsNotTaken, IsRefused}
use Rattle.page_answers.specs.Standing.{AtMoment, Standing, standing_of}
use Rattle.preview_words.specs.Own.{Picture, own_opening, own_request, own_seed, own_sessions}
use Rattle.preview_words.specs.Shown.{no_time}
use Rattle.site_words.proofs.Items.{and_left, lt_of}
use Rattle.site_words.specs.Calls.{Stays}
use Rattle.site_words.specs.Fits.{asks, finds, rests}
use Rattle.site_words.specs.Law.{Legal, own, own_from}
use Rattle.site_words.specs.Runs.{run_at, under_at}
use Rattle.site_words.specs.Sessions.{holder, session_at}
use Rattle.site_words.specs.State.{State, after as site_after, start_of}
use Rattle.site_words.specs.Step.{busy, or_else, reply_to, step, stepped}
use Rattle.site_words.specs.Trees.{Needs}
use Rattle.site_words.specs.declared.words.Entry.{Entry}
use Rattle.site_words.specs.declared.words.Op.TheVariants as op
use Rattle.site_words.specs.declared.words.Opening.{Opening}
use Rattle.site_words.specs.declared.words.Refusal.TheVariants.{JournalFull}
use Rattle.site_words.specs.declared.words.Reply.{Reply}
use Rattle.source_tree.specs.declared.file.File.{File}

-- where a site has one pass, and that has no entry, the history is empty
none_seen : (needs : Needs) (x : Opening) (history : List Entry) → x.passes ≡ 1 → Legal needs x history → own 0 history ≡ [] → history ≡ []
none_seen needs x [] one legal none = refl
none_seen needs x (e ∷ entries) one legal none =
    let s : State = start_of x in
    let within : e.pass < x.passes = lt_of e.pass x.passes (and_left (nat_lt e.pass x.passes) (asks (run_at s.runs e.pass) e.op && (finds (under_at s.runs e.pass) e.op && rests s.runs e.op)) legal.0.fit) in
    let first : e.pass ≡ 0 = omega arith in
    let some : ((0, e) ∷ own_from 1 0 entries) ≡ [] = subst (λ (n : ℕ). (if n == 0 then (0, e) ∷ own_from 1 0 entries else own_from 1 0 entries) ≡ []) first none in
    absurd (cc)

-- where the journal has room nothing is refused for want of it
not_full : (o : Option ℕ) (r : Reply) (weight promised : ℕ) → stepped (or_else (busy o) None) r ≡ Refused (JournalFull weight promised) → ⊥
not_full None r weight promised is = cc
not_full (Some request) r weight promised is = cc

module _ (needs : Needs) (tree : List File) (picture : Picture) where
  never_refused : (seen : List Entry) (cookie : List ℕ) (moment weight promised : ℕ) → Stays needs (own_opening tree picture) 0 [] seen
      → step needs (own_opening tree picture) (site_after needs (own_opening tree picture) seen) 0 (op.Begin cookie moment) ≡ Refused (JournalFull weight promised) → ⊥
  never_refused seen cookie moment weight promised stays refused =
      let x : Opening = own_opening tree picture in
      let none : seen ≡ [] = none_seen needs x seen refl stays.is_legal stays.same in
      let at_start : step needs x (start_of x) 0 (op.Begin cookie moment) ≡ Refused (JournalFull weight promised) =
      subst (λ (history : List Entry). step needs x (site_after needs x history) 0 (op.Begin cookie moment) ≡ Refused (JournalFull weight promised)) none refused in
      not_full (holder (session_at own_seed cookie (own_sessions picture.session picture.attrs)) (start_of x).runs) (reply_to needs x (start_of x) 0 (op.Begin cookie moment)) weight promised at_start

  module _ (request : Request) (close : Bool) (old : Standing) (text : List ℕ) (broken : Bool) (new : Standing) (empty : old.seen ≡ []) where
    at_first : (moment : ℕ) → moment ≡ 0 → IsAnswered needs (own_opening tree picture) 0 request close old text broken new moment ⊎ IsRefused needs (own_opening tree picture) 0 request close old text broken new moment
        → IsAnswered needs (own_opening tree picture) 0 request close old text broken new 0
    at_first moment first (inl is) = subst (IsAnswered needs (own_opening tree picture) 0 request close old text broken new) first is
    at_first moment first (inr is) =
        absurd (never_refused new.seen request.cookie moment is.weight is.promised (subst (λ (seen : List Entry). Stays needs (own_opening tree picture) 0 seen new.seen) empty is.stays) is.refused)

  -- at the moment 0
  pub answered : (request : Request) (close : Bool) (steps : ℕ) (text : List ℕ) (broken : Bool) (history : List Entry) (later : ℕ) → takes_method request.method ≡ true
      → Answers needs (own_opening tree picture) 0 (own_request picture.session request) close (standing_of [] no_time steps) text broken (standing_of history no_time later)
      → IsAnswered needs (own_opening tree picture) 0 (own_request picture.session request) close (standing_of [] no_time steps) text broken (standing_of history no_time later) 0
  answered request close steps text broken history later taken is =
      let x : Opening = own_opening tree picture in
      let asked : Request = own_request picture.session request in
      let old : Standing = standing_of [] no_time steps in
      let new : Standing = standing_of history no_time later in
      let at : AtMoment old new (λ moment. IsAnswered needs x 0 asked close old text broken new moment ⊎ IsRefused needs x 0 asked close old text broken new moment) =
      subst (λ (test : Bool). MatchBool test (AtMoment old new (λ moment. IsAnswered needs x 0 asked close old text broken new moment ⊎ IsRefused needs x 0 asked close old text broken new moment))
      (IsNotTaken asked close old text broken new)) taken is in
      at_first asked close old text broken new refl at.moment at.told.goes.0 at.done
