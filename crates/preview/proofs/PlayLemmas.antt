-- A preview connection to a site for which memory ran out.
use Rattle.std.proofs.Common.{ℕ, List, [], Option, false, inl, refl}
use Rattle.conversation.specs.declared.ended.Ended.TheVariants.{NoMemory}
use Rattle.edges.proofs.ToldBytes.{appends_none, consumes_none}
use Rattle.preview.specs.Play.{HasPlayed}
use Rattle.preview_words.specs.Previewed.{preview_stand}

-- nothing was read and nothing was written
pub untold : (seed : List ℕ) (steps : ℕ) (left : Option (List ℕ)) (faults : ℕ) (taken : Option (List ℕ)) → HasPlayed seed steps steps left left faults faults taken taken NoMemory
untold seed steps left faults taken = record {
  seen = [];
  talk = record {
    draft = [];
    talk = record {
      rest = [];
      mid = preview_stand [] [] steps;
      come = record { exchanges = []; came = []; consumed = consumes_none left; front = refl; goes_on = tt; walked = refl };
      text = [];
      is_last = inl (refl, refl);
      failed = false;
      cause = λ is. absurd (cc);
      sent = appends_none taken;
    };
  };
  alone = record { longer = ([], refl); entries = []; grown = refl; pictures = tt };
}
