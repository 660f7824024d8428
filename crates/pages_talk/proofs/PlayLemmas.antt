-- A connection for whose site memory ran out.
use Rattle.std.proofs.Common.{ℕ, ◌<◌, List, [], Option, false, inl, refl}
use Rattle.conversation.specs.declared.ended.Ended.TheVariants.{NoMemory}
use Rattle.edges.proofs.Own.{front_same}
use Rattle.edges.proofs.ToldBytes.{appends_none, consumes_none}
use Rattle.edges.specs.Clock.{Moments}
use Rattle.talk_words.specs.Standing.{standing_of}
use Rattle.site_words.specs.declared.words.Opening.{Opening}
use Rattle.talk_words.specs.Connection.{stand_of}
use Rattle.pages_talk.specs.Play.{HasTalked}

-- nothing was read and nothing was written
pub untold : (x : Opening) (moments : Moments) (steps : ℕ) (left : Option (List ℕ)) (faults : ℕ) (taken : Option (List ℕ)) → 0 < x.passes → HasTalked x moments moments steps steps left left faults faults taken taken NoMemory
untold x moments steps left faults taken some = record {
  draft = [];
  history = [];
  talk = record {
    rest = [];
    mid = stand_of [] (standing_of [] moments steps);
    come = record { exchanges = []; came = []; consumed = consumes_none left; front = refl; goes_on = tt; walked = refl };
    text = [];
    is_last = inl (refl, refl);
    failed = false;
    cause = λ is. absurd (cc);
    sent = appends_none taken;
  };
  grown = record { longer = front_same []; is_legal = tt; idle = (some, refl) };
}
