-- Talks that are known by their kinds.
use Rattle.std.proofs.Common.{◌≡◌, ℕ, List, Bool, true, false, inl, inr, ap, ◌∙◌}
use Rattle.site_words.specs.Trees.{Needs}
use Rattle.site_words.specs.declared.words.Entry.{Entry}
use Rattle.site_words.specs.declared.words.Opening.{Opening}
use Rattle.site_rounds.specs.Served.{IsServed, IsTalkOf}
use Rattle.site_rounds.specs.declared.rounds.Talks.{Talks}

module _ {T U : Type 0} (kind : T → U) (talks : Talks T) (kinds : Talks U) (readers : kind talks.readers ≡ kinds.readers) (editors : kind talks.editors ≡ kinds.editors) (previews : kind talks.previews ≡ kinds.previews) where
  kind_of : (drafts : Bool) (passes number : ℕ) (talk : T) → IsTalkOf talks drafts passes number talk → IsTalkOf kinds drafts passes number (kind talk)
  kind_of true passes number talk (inl is) = inl (is.0, ap kind is.1 ∙ readers)
  kind_of true passes number talk (inr (inl is)) = inr (inl (is.0, ap kind is.1 ∙ editors))
  kind_of true passes number talk (inr (inr is)) = inr (inr (is.0, ap kind is.1 ∙ previews))
  kind_of false passes number talk (inl is) = inl (is.0, ap kind is.1 ∙ readers)
  kind_of false passes number talk (inr is) = inr (is.0, ap kind is.1 ∙ editors)

  -- where a talk does what is told of its kind, a pass that is served by talks is so by their kinds
  pub served_by_kind : (talked : U → ℕ → List Entry → List Entry → Type 0) (drafts : Bool) (needs : Needs) (x : Opening) (number : ℕ) (old new : List Entry) → IsServed (λ talk. talked (kind talk)) talks drafts needs x number old new → IsServed talked kinds drafts needs x number old new
  served_by_kind talked drafts needs x number old new served = record {
    seen = served.seen;
    led = record {
      talk = kind served.led.talk;
      talk_is = kind_of drafts x.passes number served.led.talk served.led.talk_is;
      longer = served.led.longer;
      led = served.led.led;
    };
    stands = served.stands;
  }
