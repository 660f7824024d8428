-- What the code's parts answer, said of where the sessions' attributes stand.
use Rattle.std.specs.Prelude.{◌≡◌, ℕ, true, false, List, [], Option, Some, None}
use Rattle.std.specs.Arc.{arc_value}
use Rattle.pg_value.specs.Datum.{Datum}
use Rattle.source_tree.specs.declared.file.File.{File}
use Rattle.site_words.specs.declared.words.Entry.{Entry}
use Rattle.site_words.specs.declared.words.KeptSession.{KeptSession}
use Rattle.site_words.specs.declared.words.Reply.{Reply}
use Rattle.site_words.specs.declared.words.Reply.TheVariants as reply
use Rattle.site_state.specs.declared.gift.Done.{Done}
use Rattle.site_state.specs.declared.gift.Gift.{Gift}
use Rattle.site_state.specs.declared.gift.Gift.TheVariants.{Start, Made, Picture}
use Rattle.site_state.specs.declared.session.Session.{Session}
use Rattle.site_state.specs.Parts.{Parts}
use Rattle.site_state.specs.ReadSessions.{number_in}
use Rattle.site_state.specs.Sources.{attrs_at}

-- the attributes of the session, none where there is none
abbrev pub attrs_in : List KeptSession → List Entry → Option Session → List (List ℕ × Datum)
attrs_in opened history None = []
attrs_in opened history (Some session) = attrs_at opened history session.source

module _ {P : Type 0} where
  -- both replies are this one
  abbrev pub Tells : Reply → Done P → Type 0
  Tells r done = (done.reply ≡ r) × (done.given.reply ≡ r)

  -- the tree and the attributes that a request begins with
  abbrev pub IsStartOf : List File → List (List ℕ × Datum) → Gift P → Type 0
  IsStartOf tree attrs (Start given held) = (arc_value given ≡ tree) × (held ≡ attrs)
  IsStartOf tree attrs other = ⊥

  -- the answer to a request that begins with this session
  abbrev pub IsBegun : List KeptSession → List Entry → Parts P → Option Session → Done P → Type 0
  IsBegun opened history parts session done =
      Tells (reply.Begun parts.begins parts.version (number_in session)) done × IsStartOf parts.tree (attrs_in opened history session) done.given.gift

  -- the tree and the attributes that a picture shows
  abbrev pub IsPictureOf : List File → List (List ℕ × Datum) → List (List ℕ × Datum) → Gift P → Type 0
  IsPictureOf tree app attrs (Picture given shown held) = (arc_value given ≡ tree) × (shown ≡ app) × (held ≡ attrs)
  IsPictureOf tree app attrs other = ⊥

  -- the picture with this session
  abbrev pub IsPictured : List KeptSession → List Entry → Parts P → Option Session → Done P → Type 0
  IsPictured opened history parts session done =
      Tells (reply.Snapped parts.version (number_in session)) done × IsPictureOf parts.tree parts.app (attrs_in opened history session) done.given.gift

  -- the value is given
  abbrev pub IsGiftOf : P → Gift P → Type 0
  IsGiftOf v (Made made) = arc_value made ≡ v
  IsGiftOf v other = ⊥

  -- what was found, or nothing
  abbrev pub IsFound : Option P → Done P → Type 0
  IsFound None done = Tells (reply.Fetched false) done
  IsFound (Some v) done = Tells (reply.Fetched true) done × IsGiftOf v done.given.gift
