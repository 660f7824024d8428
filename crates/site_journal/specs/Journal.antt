-- The journal of a site as bytes.
use Rattle.std.specs.Prelude.{ℕ, ◌+◌, ◌++◌, List, [], ◌∷◌, codes, Option}
use Rattle.pg_value.specs.Datum.{Datum, null, truth, number, text, list, rec, Items, no_items, item, Entries, no_entries, entry, entries_of}
use Rattle.pg_value.specs.Value.{datum_of}
use Rattle.pg_value.specs.declared.value.Value.{Value}
use Rattle.site_words.specs.declared.words.AppReply.{AppReply}
use Rattle.site_words.specs.declared.words.AppReply.TheVariants as answer
use Rattle.site_words.specs.declared.words.AppStep.{AppStep}
use Rattle.site_words.specs.declared.words.AppStep.TheVariants as step
use Rattle.site_words.specs.declared.words.Entry.{Entry as TheEntry}
use Rattle.site_words.specs.declared.words.KeptSession.{KeptSession}
use Rattle.site_words.specs.declared.words.Op.{Op}
use Rattle.site_words.specs.declared.words.Op.TheVariants as op
use Rattle.site_words.specs.declared.words.Opening.{Opening}
use Rattle.site_words.specs.declared.words.Reply.{Reply}
use Rattle.site_words.specs.declared.words.Reply.TheVariants as reply
use Rattle.source_tree.specs.declared.edit.Edit.{Edit}
use Rattle.source_tree.specs.declared.edit.Edit.TheVariants.{Put, Delete}
use Rattle.source_tree.specs.declared.file.File.{File}
use Rattle.site_journal.specs.Codes.{of_number, of_int, of_truth, of_bytes, of_list, of_option}
use Rattle.site_journal.specs.declared.talk.Talk.{Talk}

-- values

-- how many items, or entries, there are
abbrev pub item_count : Items → ℕ
item_count no_items = 0
item_count (item d is) = item_count is + 1

abbrev pub entry_count : Entries → ℕ
entry_count no_entries = 0
entry_count (entry key d es) = entry_count es + 1

-- a value: a byte for its kind, and its content; a record is its keys, each with what stands under it
abbrev mutual
  pub of_datum : Datum → List ℕ
  of_datum null = 0 ∷ []
  of_datum (truth b) = 1 ∷ of_truth b
  of_datum (number n) = 2 ∷ of_int n
  of_datum (text t) = 3 ∷ of_bytes t
  of_datum (list is) = 4 ∷ of_number (item_count is) ++ of_items is
  of_datum (rec es) = 5 ∷ of_number (entry_count es) ++ of_entries es

  pub of_items : Items → List ℕ
  of_items no_items = []
  of_items (item d is) = of_datum d ++ of_items is

  pub of_entries : Entries → List ℕ
  of_entries no_entries = []
  of_entries (entry key d es) = of_bytes key ++ of_datum d ++ of_entries es

abbrev pub of_value : Value → List ℕ
of_value value = of_datum (datum_of value)

-- attributes: the content of a record
abbrev pub of_attrs : List (List ℕ × Datum) → List ℕ
of_attrs attrs = of_number (entry_count (entries_of attrs)) ++ of_entries (entries_of attrs)

-- the opening

-- a file: its path, its stamp, its text
abbrev pub of_file : File → List ℕ
of_file file = of_bytes file.path ++ of_number file.stamp ++ of_bytes file.text

-- a session: its number, the moment of its last use, its attributes
abbrev pub of_session : KeptSession → List ℕ
of_session kept = of_number kept.number ++ of_number kept.used ++ of_attrs kept.attrs

-- the counts of an opening
abbrev pub of_counts : Opening → List ℕ
of_counts x = of_number x.limit ++ of_number x.passes ++ of_number x.idle ++ of_number x.version ++ of_number x.begins ++ of_number x.freshes ++ of_number x.moment

-- an opening: the seed, the counts, the application's attributes, the files, the sessions
abbrev pub of_opening : Opening → List ℕ
of_opening x = x.seed ++ of_counts x ++ of_attrs x.app ++ of_list of_file x.tree ++ of_list of_session x.sessions

-- entries

abbrev pub of_edit : Edit → List ℕ
of_edit (Put path t) = 0 ∷ of_bytes path ++ of_bytes t
of_edit (Delete path) = 1 ∷ of_bytes path

abbrev pub of_step : AppStep → List ℕ
of_step (step.Get name) = 0 ∷ of_bytes name
of_step (step.Set name value) = 1 ∷ of_bytes name ++ of_value value
of_step (step.Remove name) = 2 ∷ of_bytes name
of_step (step.Ensure name value) = 3 ∷ of_bytes name ++ of_value value
of_step step.All = 4 ∷ []

abbrev pub of_answer : AppReply → List ℕ
of_answer (answer.Value value) = 0 ∷ of_value value
of_answer answer.Done = 1 ∷ []
of_answer answer.Created = 2 ∷ []
of_answer (answer.Large weight) = 3 ∷ of_number weight

-- the kind of an operation
abbrev pub kind_of : Op → ℕ
kind_of (op.Publish base edits) = 1
kind_of (op.Begin cookie moment) = 2
kind_of (op.App request step) = 3
kind_of (op.Fresh request) = 4
kind_of (op.Fetch request path) = 5
kind_of (op.Offer request path) = 6
kind_of (op.End request attrs) = 7
kind_of (op.Abandon request) = 8
kind_of (op.Snapshot cookie) = 9
kind_of op.Roll = 10

-- the parts of an operation
abbrev pub of_op : Op → List ℕ
of_op (op.Publish base edits) = of_option of_number base ++ of_list of_edit edits
of_op (op.Begin cookie moment) = of_bytes cookie ++ of_number moment
of_op (op.App request step) = of_number request ++ of_step step
of_op (op.Fresh request) = of_number request
of_op (op.Fetch request path) = of_number request ++ of_bytes path
of_op (op.Offer request path) = of_number request ++ of_bytes path
of_op (op.End request attrs) = of_number request ++ of_attrs attrs
of_op (op.Abandon request) = of_number request
of_op (op.Snapshot cookie) = of_bytes cookie
of_op op.Roll = []

-- the kind of the operation that is replied so
abbrev pub replied_kind : Reply → ℕ
replied_kind (reply.Published version dirty) = 1
replied_kind (reply.Begun request version session) = 2
replied_kind (reply.App answer) = 3
replied_kind (reply.Made session) = 4
replied_kind (reply.Fetched hit) = 5
replied_kind (reply.Offered kept) = 6
replied_kind reply.Ended = 7
replied_kind reply.Dropped = 8
replied_kind (reply.Snapped version session) = 9
replied_kind reply.Rolled = 10

-- the parts of a reply
abbrev pub of_reply : Reply → List ℕ
of_reply (reply.Published version dirty) = of_number version ++ of_list of_bytes dirty
of_reply (reply.Begun request version session) = of_number request ++ of_number version ++ of_option of_number session
of_reply (reply.App answer) = of_answer answer
of_reply (reply.Made session) = of_number session
of_reply (reply.Fetched hit) = of_truth hit
of_reply (reply.Offered kept) = of_truth kept
of_reply reply.Ended = []
of_reply reply.Dropped = []
of_reply (reply.Snapped version session) = of_number version ++ of_option of_number session
of_reply reply.Rolled = []

-- an entry: the pass as a byte, the kind as a byte, and the parts of the operation, then of the reply
abbrev pub of_entry : TheEntry → List ℕ
of_entry e = e.pass ∷ kind_of e.op ∷ of_op e.op ++ of_reply e.reply

-- the whole

-- a talk: its bytes, its moments, its answers, and how it ended as a byte
abbrev pub of_talk : Talk → List ℕ
of_talk talk = of_bytes talk.bytes ++ of_list of_number talk.moments ++ of_bytes talk.answers ++ talk.ended ∷ []

-- the mark at the beginning of a journal
abbrev pub mark : List ℕ
mark = codes "PGJRNL1\n"

-- the journal of this opening, this history and this talk
abbrev pub journal : Opening → List TheEntry → Option Talk → List ℕ
journal x history talk = mark ++ of_opening x ++ of_list of_entry history ++ of_option of_talk talk

-- a history up to its Roll
abbrev pub rolled : List TheEntry → List TheEntry
rolled history = history ++ record { pass = 0; op = op.Roll; reply = reply.Rolled } ∷ []
