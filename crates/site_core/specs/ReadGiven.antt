-- What a port answers by what it was given.
use Rattle.std.specs.Prelude.{◌≡◌, ⊤, Bool, true, false, Option, Some, None}
use Rattle.std.specs.Arc.{arc_value}
use Rattle.std.specs.declared.sync.Arc.{Arc}
use Rattle.site_words.specs.declared.port.Begun.{Begun}
use Rattle.site_words.specs.declared.port.Fresh.{Fresh}
use Rattle.site_words.specs.declared.port.Snapped.{Snapped}
use Rattle.site_words.specs.declared.words.Reply.{Reply}
use Rattle.site_words.specs.declared.words.Reply.TheVariants as reply
use Rattle.site_state.specs.declared.gift.Gift.{Gift}
use Rattle.site_state.specs.declared.gift.Gift.TheVariants.{Start, Made, Id, Picture}

module _ {P : Type 0} where
  -- a request that has begun, by the reply and the gift; with others there is none
  abbrev pub IsBegunBy : Reply → Gift P → Begun → Type 0
  IsBegunBy (reply.Begun request version session) (Start tree attrs) begun = begun ≡ record { request = request; version = version; session = session; tree = tree; attrs = attrs }
  IsBegunBy r gift begun = ⊥

  -- a session that was made
  abbrev pub IsFreshBy : Reply → Gift P → Fresh → Type 0
  IsFreshBy (reply.Made session) (Id id) fresh = fresh ≡ record { session = session; id = id }
  IsFreshBy r gift fresh = ⊥

  -- a picture
  abbrev pub IsSnappedBy : Reply → Gift P → Snapped → Type 0
  IsSnappedBy (reply.Snapped version session) (Picture tree app attrs) snapped = snapped ≡ record { version = version; session = session; tree = tree; app = app; attrs = attrs }
  IsSnappedBy r gift snapped = ⊥

  -- the value that was given with a hit
  abbrev pub IsHitBy : {Z : Type 0} → Bool → Gift P → Option (Arc P Z) → Type 0
  IsHitBy false gift found = found ≡ None
  IsHitBy true (Made v) (Some w) = arc_value v ≡ arc_value w
  IsHitBy true gift found = ⊥

  -- what a Fetch found
  abbrev pub IsFoundBy : {Z : Type 0} → Reply → Gift P → Option (Arc P Z) → Type 0
  IsFoundBy (reply.Fetched hit) gift found = IsHitBy hit gift found
  IsFoundBy r gift found = ⊥

  -- a reply and a gift of a kind
  abbrev pub CanBegin : Reply → Gift P → Type 0
  CanBegin (reply.Begun request version session) (Start tree attrs) = ⊤
  CanBegin r gift = ⊥

  abbrev pub CanName : Reply → Gift P → Type 0
  CanName (reply.Made session) (Id id) = ⊤
  CanName r gift = ⊥

  abbrev pub CanShow : Reply → Gift P → Type 0
  CanShow (reply.Snapped version session) (Picture tree app attrs) = ⊤
  CanShow r gift = ⊥

  abbrev pub CanFind : Reply → Gift P → Type 0
  CanFind (reply.Fetched false) gift = ⊤
  CanFind (reply.Fetched true) (Made v) = ⊤
  CanFind r gift = ⊥
