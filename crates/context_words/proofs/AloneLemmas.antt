-- What is said in a context is said so whatever else is lent.
use Rattle.std.proofs.Common.{◌≡◌, ◌+◌, Bool, true, false, [], ◌∷◌, refl, sym, ap, subst, inl, inr, ◌⊎◌, arith}
use Rattle.std.specs.Bool.{MatchBool}
use Rattle.context_desk.specs.Shares.{StandsAlone}
use Rattle.edges.specs.Clock.{Answers as Tells}
use Rattle.context_words.specs.Parts.{Lent, Part, stand_at}
use Rattle.context_words.specs.Shared.{Taken, Takes}
use Rattle.conversation.specs.Exchange.{Exchange}
use Rattle.http_out.specs.Methods.{takes_method}
use Rattle.page_answers.specs.Answers.{IsAnswered, IsNotTaken, IsRefused}
use Rattle.page_answers.specs.Standing.{AtMoment, Standing, tree_at}
use Rattle.page_answers.specs.Turns.{all_bytes}
use Rattle.talk_words.specs.Connection.{Connection, Stand}
use Rattle.talk_words.specs.Said.{IsEdited, IsNowhere, IsSaid, Says, way}
use Rattle.talk_words.specs.declared.way.Way.{Way}
use Rattle.talk_words.specs.declared.way.Way.TheVariants.{Edits, Nowhere, Asks}
use Rattle.context_words.specs.Shared.{AreOwnWalks}

-- an exchange of this way that is as it is wherever the same is taken
pub record IsSaidAlone (w : Connection) (route : Way) (close : Bool) (a : Part) (b : Lent) (e : Exchange) (a' : Part) (b' : Lent) : Type 0 where
  pub taken : Taken
  pub took : Takes b taken b'
  pub anywhere : (before after : Lent) → Takes before taken after → Says w route e.request close (stand_at a before) e.text e.broken (stand_at a' after)

module _ (w : Connection) (close : Bool) (a : Part) (b : Lent) (e : Exchange) (a' : Part) (b' : Lent) where
  edited_alone : IsEdited w e.request close (stand_at a b) e.text e.broken (stand_at a' b') → IsSaidAlone w Edits close a b e a' b'
  edited_alone is = record {
    taken = record { moments = []; bytes = 0 };
    took = (is.quiet.moments, (let r : b'.steps ≡ b.steps = is.quiet.read in omega arith));
    anywhere = λ before after took. record {
      told = is.told;
      takes = is.takes;
      quiet = record { moments = took.0; read = (let r : after.steps ≡ before.steps + 0 = took.1 in omega arith) };
      text_is = is.text_is;
      broken_is = is.broken_is;
    };
  }

  nowhere_alone : IsNowhere e.request close (stand_at a b) e.text e.broken (stand_at a' b') → IsSaidAlone w Nowhere close a b e a' b'
  nowhere_alone is =
      let draft : a'.draft ≡ a.draft = ap (λ (s : Stand). s.draft) is.same in
      let seen : a'.seen ≡ a.seen = ap (λ (s : Stand). s.at.seen) is.same in
      record {
        taken = record { moments = []; bytes = 0 };
        took = (ap (λ (s : Stand). s.at.moments) is.same, (let r : b'.steps ≡ b.steps = ap (λ (s : Stand). s.at.steps) is.same in omega arith));
        anywhere = λ before after took. record {
          same = (let steps : after.steps ≡ before.steps = (let r : after.steps ≡ before.steps + 0 = took.1 in omega arith) in let moments : after.moments ≡ before.moments = took.0 in cc);
          text_is = is.text_is;
          broken_is = is.broken_is;
        };
      }

  -- a request for a page
  asked_alone : (test : Bool) → takes_method e.request.method ≡ test
      → MatchBool test
      (AtMoment (stand_at a b).at (stand_at a' b').at (λ moment. IsAnswered w.needs w.opening w.pass e.request close (stand_at a b).at e.text e.broken (stand_at a' b').at moment ⊎ IsRefused w.needs w.opening w.pass e.request close (stand_at a b).at e.text e.broken (stand_at a' b').at moment))
      (IsNotTaken e.request close (stand_at a b).at e.text e.broken (stand_at a' b').at)
      → a'.draft ≡ a.draft → IsSaidAlone w Asks close a b e a' b'
  asked_alone false other is draft =
      let seen : a'.seen ≡ a.seen = ap (λ (s : Standing). s.seen) is.same in
      record {
        taken = record { moments = []; bytes = 0 };
        took = (ap (λ (s : Standing). s.moments) is.same, (let r : b'.steps ≡ b.steps = ap (λ (s : Standing). s.steps) is.same in omega arith));
        anywhere = λ before after took. (
          subst (λ t. MatchBool t (AtMoment (stand_at a before).at (stand_at a' after).at (λ moment. IsAnswered w.needs w.opening w.pass e.request close (stand_at a before).at e.text e.broken (stand_at a' after).at moment ⊎ IsRefused w.needs w.opening w.pass e.request close (stand_at a before).at e.text e.broken (stand_at a' after).at moment))
              (IsNotTaken e.request close (stand_at a before).at e.text e.broken (stand_at a' after).at)) (sym other)
              (record {
                same = (let steps : after.steps ≡ before.steps = (let r : after.steps ≡ before.steps + 0 = took.1 in omega arith) in let moments : after.moments ≡ before.moments = took.0 in cc);
                text_is = is.text_is;
                broken_is = is.broken_is;
              }),
          draft,
        );
      }
  asked_alone true taken is draft = by is.done
    where
      again : (before after : Lent) → AtMoment (stand_at a before).at (stand_at a' after).at (λ moment. IsAnswered w.needs w.opening w.pass e.request close (stand_at a before).at e.text e.broken (stand_at a' after).at moment ⊎ IsRefused w.needs w.opening w.pass e.request close (stand_at a before).at e.text e.broken (stand_at a' after).at moment)
          → Says w Asks e.request close (stand_at a before) e.text e.broken (stand_at a' after)
      again before after at = (
        subst (λ t. MatchBool t (AtMoment (stand_at a before).at (stand_at a' after).at (λ moment. IsAnswered w.needs w.opening w.pass e.request close (stand_at a before).at e.text e.broken (stand_at a' after).at moment ⊎ IsRefused w.needs w.opening w.pass e.request close (stand_at a before).at e.text e.broken (stand_at a' after).at moment))
            (IsNotTaken e.request close (stand_at a before).at e.text e.broken (stand_at a' after).at)) (sym taken) at,
        draft,
      )

      by : IsAnswered w.needs w.opening w.pass e.request close (stand_at a b).at e.text e.broken (stand_at a' b').at is.moment ⊎ IsRefused w.needs w.opening w.pass e.request close (stand_at a b).at e.text e.broken (stand_at a' b').at is.moment
          → IsSaidAlone w Asks close a b e a' b'
      by (inl answered) = record {
        taken = record { moments = is.moment ∷ []; bytes = all_bytes (tree_at w.needs w.opening answered.begun) answered.turns };
        took = ((b'.moments, is.told, refl), answered.read);
        anywhere = λ before after took. again before after (record {
          moment = is.moment;
          told = subst (λ later. Tells before.moments later is.moment) (sym took.0.2) took.0.1;
          done = inl (record {
            begun = answered.begun;
            begins = answered.begins;
            turns = answered.turns;
            whole = answered.whole;
            response = answered.response;
            end = answered.end;
            means = answered.means;
            asked = answered.asked;
            used = answered.used;
            did = answered.did;
            read = took.1;
            text_is = answered.text_is;
            broken_is = answered.broken_is;
          });
        });
      }
      by (inr refused) = record {
        taken = record { moments = is.moment ∷ []; bytes = 0 };
        took = ((b'.moments, is.told, refl), (let r : b'.steps ≡ b.steps = refused.read in omega arith));
        anywhere = λ before after took. again before after (record {
          moment = is.moment;
          told = subst (λ later. Tells before.moments later is.moment) (sym took.0.2) took.0.1;
          done = inr (record {
            stays = refused.stays;
            weight = refused.weight;
            promised = refused.promised;
            refused = refused.refused;
            read = (let r : after.steps ≡ before.steps + 0 = took.1 in omega arith);
            text_is = refused.text_is;
            broken_is = refused.broken_is;
          });
        });
      }

  says_alone : (route : Way) → Says w route e.request close (stand_at a b) e.text e.broken (stand_at a' b') → IsSaidAlone w route close a b e a' b'
  says_alone Edits is = edited_alone is
  says_alone Nowhere is = nowhere_alone is
  says_alone Asks is = asked_alone (takes_method e.request.method) refl is.0 is.1

pub said_alone : (w : Connection) → StandsAlone Takes (λ close a b e a' b'. IsSaid w close (stand_at a b) e (stand_at a' b'))
said_alone w close a a' b b' e is =
    let alone = says_alone w close a b e a' b' (way w e.request) is in
    record { taken = alone.taken; took = alone.took; anywhere = alone.anywhere }

pub own_walks : AreOwnWalks
own_walks w old new [] is = ap (λ (at : Part × Lent). stand_at at.0 at.1) is
own_walks w old new (e ∷ share) is = (stand_at is.0.0 is.0.1, is.1, own_walks w is.0 new share is.2)
