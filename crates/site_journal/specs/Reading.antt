-- Which journals there are, and that what begins with one begins with no other.
use Rattle.std.specs.Prelude.{◌≡◌, ℕ, ◌<◌, ◌++◌, Bool, true, false, List, [], ◌∷◌, length, Option, ⊤}
use Rattle.pg_text.specs.Names.{AreInOrder as NamesRise}
use Rattle.pg_text.specs.Normal.{IsNormal}
use Rattle.pg_value.specs.Attrs.{AreInOrder as KeysRise}
use Rattle.pg_value.specs.Datum.{Datum, null, truth, number, text, list, rec, Items, no_items, item, Entries, no_entries, entry, entries_of, entry_list}
use Rattle.pg_value.specs.Value.{datum_of}
use Rattle.site_words.specs.declared.words.AppReply.{AppReply}
use Rattle.site_words.specs.declared.words.AppReply.TheVariants as answer
use Rattle.site_words.specs.declared.words.AppStep.{AppStep}
use Rattle.site_words.specs.declared.words.AppStep.TheVariants as step
use Rattle.site_words.specs.declared.words.Entry.{Entry as TheEntry}
use Rattle.site_words.specs.declared.words.KeptSession.{KeptSession}
use Rattle.site_words.specs.declared.words.Op.{Op}
use Rattle.site_words.specs.declared.words.Op.TheVariants as op
use Rattle.site_words.specs.declared.words.Opening.{Opening}
use Rattle.site_words.specs.declared.words.Reply.{Reply}
use Rattle.site_words.specs.declared.words.Reply.TheVariants as reply
use Rattle.source_tree.specs.Order.{IsInOrder}
use Rattle.source_tree.specs.declared.edit.Edit.{Edit}
use Rattle.source_tree.specs.declared.edit.Edit.TheVariants.{Put, Delete}
use Rattle.source_tree.specs.declared.file.File.{File}
use Rattle.site_journal.specs.Codes.{AreBytes, IsInt, IsList, IsNumber, IsOption, IsText}
use Rattle.site_journal.specs.Journal.{entry_count, item_count, journal, kind_of, replied_kind}
use Rattle.site_journal.specs.declared.talk.Talk.{Talk}

-- a path in normal form
abbrev pub IsPath : List ℕ → Type 0
IsPath t = IsText t × IsNormal t

-- a value: integers of 64 bits, texts in UTF-8, the keys of a record rising
abbrev mutual
  pub IsDatum : Datum → Type 0
  IsDatum null = ⊤
  IsDatum (truth b) = ⊤
  IsDatum (number n) = IsInt n
  IsDatum (text t) = IsText t
  IsDatum (list is) = IsNumber (item_count is) × AreItems is
  IsDatum (rec es) = IsNumber (entry_count es) × KeysRise (entry_list es) × AreEntries es

  pub AreItems : Items → Type 0
  AreItems no_items = ⊤
  AreItems (item d is) = IsDatum d × AreItems is

  pub AreEntries : Entries → Type 0
  AreEntries no_entries = ⊤
  AreEntries (entry key d es) = IsText key × IsDatum d × AreEntries es

abbrev pub AreAttrs : List (List ℕ × Datum) → Type 0
AreAttrs attrs = IsNumber (entry_count (entries_of attrs)) × KeysRise attrs × AreEntries (entries_of attrs)

abbrev pub IsFile : File → Type 0
IsFile file = IsPath file.path × IsNumber file.stamp × IsText file.text

abbrev pub IsSession : KeptSession → Type 0
IsSession kept = IsNumber kept.number × IsNumber kept.used × AreAttrs kept.attrs

-- the counts of an opening
pub record HasCounts (x : Opening) : Type 0 where
  pub limit : IsNumber x.limit
  pub passes : x.passes < 256
  pub idle : IsNumber x.idle
  pub version : IsNumber x.version
  pub begins : IsNumber x.begins
  pub freshes : IsNumber x.freshes
  pub moment : IsNumber x.moment

pub record IsOpening (x : Opening) : Type 0 where
  pub seed : length x.seed ≡ 32
  pub counts : HasCounts x
  pub app : AreAttrs x.app
  pub files : IsList IsFile x.tree
  pub order : IsInOrder x.tree
  pub sessions : IsList IsSession x.sessions

abbrev pub IsEdit : Edit → Type 0
IsEdit (Put path t) = IsPath path × IsText t
IsEdit (Delete path) = IsPath path

abbrev pub IsStep : AppStep → Type 0
IsStep (step.Get name) = IsText name
IsStep (step.Set name value) = IsText name × IsDatum (datum_of value)
IsStep (step.Remove name) = IsText name
IsStep (step.Ensure name value) = IsText name × IsDatum (datum_of value)
IsStep step.All = ⊤

abbrev pub IsAnswer : AppReply → Type 0
IsAnswer (answer.Value value) = IsDatum (datum_of value)
IsAnswer answer.Done = ⊤
IsAnswer answer.Created = ⊤
IsAnswer (answer.Large weight) = IsNumber weight

abbrev pub IsOp : Op → Type 0
IsOp (op.Publish base edits) = IsOption IsNumber base × IsList IsEdit edits
IsOp (op.Begin cookie moment) = IsText cookie × IsNumber moment
IsOp (op.App request step) = IsNumber request × IsStep step
IsOp (op.Fresh request) = IsNumber request
IsOp (op.Fetch request path) = IsNumber request × IsPath path
IsOp (op.Offer request path) = IsNumber request × IsPath path
IsOp (op.End request attrs) = IsNumber request × AreAttrs attrs
IsOp (op.Abandon request) = IsNumber request
IsOp (op.Snapshot cookie) = IsText cookie
IsOp op.Roll = ⊤

abbrev pub IsReply : Reply → Type 0
IsReply (reply.Published version dirty) = IsNumber version × IsList IsPath dirty × NamesRise dirty
IsReply (reply.Begun request version session) = IsNumber request × IsNumber version × IsOption IsNumber session
IsReply (reply.App answer) = IsAnswer answer
IsReply (reply.Made session) = IsNumber session
IsReply (reply.Fetched hit) = ⊤
IsReply (reply.Offered kept) = ⊤
IsReply reply.Ended = ⊤
IsReply reply.Dropped = ⊤
IsReply (reply.Snapped version session) = IsNumber version × IsOption IsNumber session
IsReply reply.Rolled = ⊤

pub record IsEntry (e : TheEntry) : Type 0 where
  pub pass : e.pass < 256
  pub fits : replied_kind e.reply ≡ kind_of e.op
  pub op_is : IsOp e.op
  pub reply_is : IsReply e.reply

-- the parts of an entry: such as have a code
pub record HasParts (e : TheEntry) : Type 0 where
  pub pass : e.pass < 256
  pub op_is : IsOp e.op
  pub reply_is : IsReply e.reply

pub record IsTalk (talk : Talk) : Type 0 where
  pub bytes : AreBytes talk.bytes
  pub moments : IsList IsNumber talk.moments
  pub answers : AreBytes talk.answers
  pub ended : talk.ended < 256

-- the last entry is a Roll, and no other
abbrev pub is_roll : TheEntry → Bool
is_roll e = rolls e.op
  where
    rolls : Op → Bool
    rolls op.Roll = true
    rolls other = false

abbrev pub EndsByRoll : List TheEntry → Type 0
EndsByRoll [] = ⊥
EndsByRoll (e ∷ []) = is_roll e ≡ true
EndsByRoll (e ∷ next ∷ entries) = (is_roll e ≡ false) × EndsByRoll (next ∷ entries)

-- all parts are such as have a code, whichever replies the operations have, and wherever a Roll stands
pub record HasCode (x : Opening) (history : List TheEntry) (talk : Option Talk) : Type 0 where
  pub opening : IsOpening x
  pub entries : IsList HasParts history
  pub talk_is : IsOption IsTalk talk

-- a journal of this opening, this history and this talk
pub record IsJournal (x : Opening) (history : List TheEntry) (talk : Option Talk) : Type 0 where
  pub opening : IsOpening x
  pub entries : IsList IsEntry history
  pub rolls : EndsByRoll history
  pub talk_is : IsOption IsTalk talk

-- what begins with a text that stands for a value begins with no other, and stands for no other value
abbrev pub StandsApart : {A : Type 0} → (A → Type 0) → (A → List ℕ) → Type 0
StandsApart {A = A} Is of = (a b : A) (s t : List ℕ) → Is a → Is b → of a ++ s ≡ of b ++ t → (a ≡ b) × (s ≡ t)

-- what begins with a journal begins with no other, and what follows it is one
abbrev pub JournalsStandApart : Type 0
JournalsStandApart =
    (x y : Opening) (old new : List TheEntry) (talk other : Option Talk) (s t : List ℕ) → IsJournal x old talk → IsJournal y new other
    → journal x old talk ++ s ≡ journal y new other ++ t → (x ≡ y) × (old ≡ new) × (talk ≡ other) × (s ≡ t)
