-- What goes with a reply.
use Rattle.std.specs.Prelude.{◌≡◌, ℕ, Bool, true, false, List, Option, Some, None, ⊤}
use Rattle.std.specs.Arc.{arc_value}
use Rattle.std.specs.declared.sync.Arc.{Arc}
use Rattle.source_tree.specs.declared.file.File.{File}
use Rattle.site_words.specs.declared.words.Entry.{Entry}
use Rattle.site_words.specs.declared.words.Op.{Op}
use Rattle.site_words.specs.declared.words.Op.TheVariants as op
use Rattle.site_words.specs.declared.words.Opening.{Opening}
use Rattle.site_words.specs.declared.words.Reply.{Reply}
use Rattle.site_words.specs.declared.words.Reply.TheVariants as reply
use Rattle.site_words.specs.declared.words.Run.{Run}
use Rattle.site_words.specs.Answers.{ForRun}
use Rattle.site_words.specs.Ids.{id_of}
use Rattle.site_words.specs.Runs.{UnderWay, under_at, tree_in}
use Rattle.site_words.specs.Sessions.{attrs_of, moment_after}
use Rattle.site_words.specs.State.{State}
use Rattle.site_words.specs.Step.{begun_session, snapped_session}
use Rattle.site_state.specs.declared.gift.Gift.{Gift}
use Rattle.site_state.specs.declared.gift.Gift.TheVariants.{Start, Made, Id, Picture}

-- the value in a handle
abbrev pub value_in : {P Z : Type 0} → Option (Arc P Z) → Option P
value_in None = None
value_in (Some v) = Some (arc_value v)

module _ {P : Type 0} where
  -- a request that begins is given the latest tree and the attributes of its session
  abbrev pub IsStart : Opening → State → List ℕ → ℕ → Gift P → Type 0
  IsStart x s cookie moment (Start tree attrs) = (arc_value tree ≡ s.tree) × (attrs ≡ attrs_of (begun_session x s cookie moment))
  IsStart x s cookie moment other = ⊥

  -- a session that is made is given its id
  abbrev pub IsId : Opening → State → Gift P → Type 0
  IsId x s (Id text) = text ≡ id_of x.seed s.freshes
  IsId x s other = ⊥

  -- a picture has the latest tree, the application's attributes and those of the session
  abbrev pub IsPicture : Opening → State → List ℕ → Gift P → Type 0
  IsPicture x s cookie (Picture tree app attrs) = (arc_value tree ≡ s.tree) × (app ≡ s.app) × (attrs ≡ attrs_of (snapped_session x s cookie))
  IsPicture x s cookie other = ⊥

module _ {P : Type 0} (made : P → List File → List ℕ → Type 0) where
  -- the value that is given is made from the tree
  abbrev pub IsMadeGift : List File → List ℕ → Gift P → Type 0
  IsMadeGift tree path (Made v) = made (arc_value v) tree path
  IsMadeGift tree path other = ⊥

  -- a value is given where a path was found
  abbrev pub FitsHit : Bool → List File → List ℕ → Gift P → Type 0
  FitsHit true tree path gift = IsMadeGift tree path gift
  FitsHit false tree path gift = ⊤

  -- what is given with the reply to a Fetch
  abbrev pub FitsFetch : List File → List ℕ → Reply → Gift P → Type 0
  FitsFetch tree path (reply.Fetched hit) gift = FitsHit hit tree path gift
  FitsFetch tree path other gift = ⊤

  -- what goes with the reply to an operation of a pass in this state
  abbrev pub FitsGift : Opening → State → ℕ → Op → Reply → Gift P → Type 0
  FitsGift x s pass (op.Begin cookie moment) r gift = IsStart x s cookie (moment_after s.moment (op.Begin cookie moment)) gift
  FitsGift x s pass (op.Fresh request) r gift = IsId x s gift
  FitsGift x s pass (op.Fetch request path) r gift = FitsFetch (tree_in (under_at s.runs pass)) path r gift
  FitsGift x s pass (op.Snapshot cookie) r gift = IsPicture x s cookie gift
  FitsGift x s pass other r gift = ⊤

  -- a value was made for this
  abbrev pub IsValueFor : (P → Type 0) → Option P → Type 0
  IsValueFor fits None = ⊥
  IsValueFor fits (Some v) = fits v

  -- what comes with an Offer is made from the tree of the request
  abbrev pub IsMade : Opening → List Entry → Option Run → Op → Option P → Type 0
  IsMade x front run (op.Offer request path) v = IsValueFor (λ (value : P). ForRun x front run (λ tree. made value tree path)) v
  IsMade x front run other v = ⊤

  -- the same by the request that is under way
  abbrev pub IsMadeHere : Option UnderWay → Op → Option P → Type 0
  IsMadeHere under (op.Offer request path) v = IsValueFor (λ (value : P). made value (tree_in under) path) v
  IsMadeHere under other v = ⊤
