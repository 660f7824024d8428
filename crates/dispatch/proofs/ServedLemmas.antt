-- What a request comes to, by what was written of its response.
use Rattle.std.proofs.Common.{◌≡◌, ◌⊎◌, ℕ, Bool, true, false, List, [], Option, refl, sym, subst}
use Rattle.std.specs.Bool.{MatchBool}
use Rattle.conversation.specs.Served.{IsStarved}
use Rattle.http_in.specs.declared.request.Request.{Request}
use Rattle.http_out.proofs.SentLemmas.{sent_none}
use Rattle.page_answers.specs.Answers.{Answers, IsAnswered, IsNotTaken, IsRefused}
use Rattle.http_out.specs.Methods.{takes_method}
use Rattle.page_answers.specs.Dropped.{Drops, IsDropped, IsUnbegun}
use Rattle.page_answers.specs.Standing.{AtMoment, Standing}
use Rattle.site_words.specs.Trees.{Needs}
use Rattle.site_words.specs.declared.words.Opening.{Opening}

at_true : (b : Bool) (P Q : Type 0) → b ≡ true → P → MatchBool b P Q
at_true b P Q is p = subst (λ b. MatchBool b P Q) (sym is) p

at_false : (b : Bool) (P Q : Type 0) → b ≡ false → Q → MatchBool b P Q
at_false b P Q is q = subst (λ b. MatchBool b P Q) (sym is) q

module _ (needs : Needs) (x : Opening) (pass : ℕ) (request : Request) (close : Bool) (old : Standing) (text : List ℕ) where
  -- by the method of the request

  pub answers_taken : (broken : Bool) (new : Standing) → takes_method request.method ≡ true
      → AtMoment old new (λ moment. IsAnswered needs x pass request close old text broken new moment ⊎ IsRefused needs x pass request close old text broken new moment) → Answers needs x pass request close old text broken new
  answers_taken broken new is h = at_true (takes_method request.method) _ (IsNotTaken request close old text broken new) is h

  pub answers_other : (broken : Bool) (new : Standing) → takes_method request.method ≡ false → IsNotTaken request close old text broken new → Answers needs x pass request close old text broken new
  answers_other broken new is h =
      at_false (takes_method request.method)
      (AtMoment old new (λ moment. IsAnswered needs x pass request close old text broken new moment ⊎ IsRefused needs x pass request close old text broken new moment)) _ is h

  pub drops_taken : (new : Standing) → takes_method request.method ≡ true
      → AtMoment old new (λ moment. IsUnbegun needs x pass old text new ⊎ IsDropped needs x pass request close old text new moment) → Drops needs x pass request close old text new
  drops_taken new is h = at_true (takes_method request.method) _ ((new ≡ old) × (text ≡ [])) is h

  pub drops_other : takes_method request.method ≡ false → text ≡ [] → Drops needs x pass request close old text old
  drops_other is none =
      at_false (takes_method request.method) (AtMoment old old (λ moment. IsUnbegun needs x pass old text old ⊎ IsDropped needs x pass request close old text old moment)) _ is (refl, none)

-- what was written of a response

module _ {W : Type 0} {starves : Bool → W → Request → List ℕ → W → Type 0} where
  -- nothing, where memory ran out
  pub starves_silently : (close : Bool) (request : Request) (old new : W) (before after : ℕ) (taken : Option (List ℕ)) → starves close old request [] new → IsStarved starves close request old new before after taken taken
  starves_silently close request old new before after taken left = record { text = []; left = left; failed = false; sent = sent_none taken; cause = λ is. absurd (cc) }
