-- The texts of entries, openings and whole journals stand apart.
use Rattle.std.proofs.Common.{◌≡◌, ◌<◌, ℕ, List, [], ◌∷◌, ◌++◌, length, refl, sym, ap, ◌∙◌, append_assoc, arith, Option}
use Rattle.pg_value.specs.Datum.{Datum}
use Rattle.pg_value.specs.Value.{datum_of, value_of}
use Rattle.pg_value.specs.declared.value.Value.{Value}
use Rattle.pg_value.specs.declared.value.Value.TheVariants as variant
use Rattle.site_words.specs.declared.words.AppReply.TheVariants as answer
use Rattle.site_words.specs.declared.words.AppStep.{AppStep}
use Rattle.site_words.specs.declared.words.AppStep.TheVariants as step
use Rattle.site_words.specs.declared.words.Entry.{Entry as TheEntry}
use Rattle.site_words.specs.declared.words.KeptSession.{KeptSession}
use Rattle.site_words.specs.declared.words.Op.{Op}
use Rattle.site_words.specs.declared.words.Op.TheVariants as op
use Rattle.site_words.specs.declared.words.Opening.{Opening}
use Rattle.site_words.specs.declared.words.Reply.{Reply}
use Rattle.site_words.specs.declared.words.Reply.TheVariants as reply
use Rattle.source_tree.specs.declared.edit.Edit.{Edit}
use Rattle.source_tree.specs.declared.edit.Edit.TheVariants.{Put, Delete}
use Rattle.source_tree.specs.declared.file.File.{File}
use Rattle.site_journal.proofs.Apart.{IsByte, byte_apart, bytes_apart, fronts_same, head_same, list_apart, number_apart, option_apart, seen_apart, tail_same, text_apart, truth_apart, two_apart}
use Rattle.site_journal.proofs.DatumApart.{attrs_apart, back, datum_apart, items_back}
use Rattle.site_journal.specs.Codes.{AreBytes, IsList, IsNumber, IsOption, IsText, of_bytes, of_list, of_number, of_option}
use Rattle.site_journal.specs.Journal.{kind_of, mark, of_answer, of_attrs, of_datum, of_edit, of_entry, of_file, of_op, of_opening, of_reply, of_session, of_step, of_talk, of_value, replied_kind}
use Rattle.site_journal.specs.Reading.{AreAttrs, IsAnswer, IsDatum, IsEdit, IsEntry, IsFile, IsOp, IsOpening, IsPath, IsReply, IsSession, IsStep, IsTalk, JournalsStandApart, StandsApart}
use Rattle.site_journal.specs.declared.talk.Talk.{Talk}

path_apart : StandsApart IsPath of_bytes
path_apart a b s t is also e = text_apart a b s t is.0 also.0 e

-- a value is the datum that it is
pub value_back : (v : Value) → value_of (datum_of v) ≡ v
value_back variant.Null = refl
value_back (variant.Bool b) = refl
value_back (variant.Int n) = refl
value_back (variant.Text t) = refl
value_back (variant.List ds) = ap variant.List (items_back ds)
value_back (variant.Rec es) = ap variant.Rec (back es)

pub value_apart : StandsApart (λ v. IsDatum (datum_of v)) of_value
value_apart = seen_apart (λ v. IsDatum (datum_of v)) IsDatum of_value of_datum datum_of value_of value_back (λ v is. is) (λ v. refl) datum_apart

-- files, sessions, edits

pub file_apart : StandsApart IsFile of_file
file_apart a b s t is also e =
    let both = two_apart (λ (x : List ℕ × ℕ). IsPath x.0 × IsNumber x.1) IsText (λ x. of_bytes x.0 ++ of_number x.1) of_bytes (two_apart IsPath IsNumber of_bytes of_number path_apart number_apart) text_apart
    ((a.path, a.stamp), a.text) ((b.path, b.stamp), b.text) s t ((is.0, is.1), is.2) ((also.0, also.1), also.2) e in
    (ap (λ (x : (List ℕ × ℕ) × List ℕ). let f : File = record { path = x.0.0; text = x.1; stamp = x.0.1 } in f) both.0, both.1)

pub session_apart : StandsApart IsSession of_session
session_apart a b s t is also e =
    let both = two_apart (λ (x : ℕ × ℕ). IsNumber x.0 × IsNumber x.1) AreAttrs (λ x. of_number x.0 ++ of_number x.1) of_attrs (two_apart IsNumber IsNumber of_number of_number number_apart number_apart) attrs_apart
    ((a.number, a.used), a.attrs) ((b.number, b.used), b.attrs) s t ((is.0, is.1), is.2) ((also.0, also.1), also.2) e in
    (ap (λ (x : (ℕ × ℕ) × List (List ℕ × Datum)). let k : KeptSession = record { number = x.0.0; used = x.0.1; attrs = x.1 } in k) both.0, both.1)

pub edit_apart : StandsApart IsEdit of_edit
edit_apart (Put p a) (Put q b) s t is also e =
    let both = two_apart IsPath IsText of_bytes of_bytes path_apart text_apart (p, a) (q, b) s t is also (tail_same 0 0 ((of_bytes p ++ of_bytes a) ++ s) ((of_bytes q ++ of_bytes b) ++ t) e) in
    (ap (λ (x : List ℕ × List ℕ). Put x.0 x.1) both.0, both.1)
edit_apart (Delete p) (Delete q) s t is also e =
    let both = path_apart p q s t is also (tail_same 1 1 (of_bytes p ++ s) (of_bytes q ++ t) e) in
    (ap Delete both.0, both.1)
edit_apart a b s t is also e = absurd (cc)

-- steps and answers

step_apart : StandsApart IsStep of_step
step_apart (step.Get a) (step.Get b) s t is also e =
    let both = text_apart a b s t is also (tail_same 0 0 (of_bytes a ++ s) (of_bytes b ++ t) e) in
    (ap step.Get both.0, both.1)
step_apart (step.Set a v) (step.Set b w) s t is also e =
    let both = two_apart IsText (λ x. IsDatum (datum_of x)) of_bytes of_value text_apart value_apart (a, v) (b, w) s t is also (tail_same 1 1 ((of_bytes a ++ of_value v) ++ s) ((of_bytes b ++ of_value w) ++ t) e) in
    (ap (λ (x : List ℕ × Value). step.Set x.0 x.1) both.0, both.1)
step_apart (step.Remove a) (step.Remove b) s t is also e =
    let both = text_apart a b s t is also (tail_same 2 2 (of_bytes a ++ s) (of_bytes b ++ t) e) in
    (ap step.Remove both.0, both.1)
step_apart (step.Ensure a v) (step.Ensure b w) s t is also e =
    let both = two_apart IsText (λ x. IsDatum (datum_of x)) of_bytes of_value text_apart value_apart (a, v) (b, w) s t is also (tail_same 3 3 ((of_bytes a ++ of_value v) ++ s) ((of_bytes b ++ of_value w) ++ t) e) in
    (ap (λ (x : List ℕ × Value). step.Ensure x.0 x.1) both.0, both.1)
step_apart step.All step.All s t is also e = (refl, tail_same 4 4 s t e)
step_apart a b s t is also e = absurd (cc)

answer_apart : StandsApart IsAnswer of_answer
answer_apart (answer.Value v) (answer.Value w) s t is also e =
    let both = value_apart v w s t is also (tail_same 0 0 (of_value v ++ s) (of_value w ++ t) e) in
    (ap answer.Value both.0, both.1)
answer_apart answer.Done answer.Done s t is also e = (refl, tail_same 1 1 s t e)
answer_apart answer.Created answer.Created s t is also e = (refl, tail_same 2 2 s t e)
answer_apart (answer.Large a) (answer.Large b) s t is also e =
    let both = number_apart a b s t is also (tail_same 3 3 (of_number a ++ s) (of_number b ++ t) e) in
    (ap answer.Large both.0, both.1)
answer_apart a b s t is also e = absurd (cc)

-- operations of one kind, and their replies

number_option_apart : StandsApart (IsOption IsNumber) (of_option of_number)
number_option_apart = option_apart IsNumber of_number number_apart

numbered_path_apart : StandsApart (λ (x : ℕ × List ℕ). IsNumber x.0 × IsPath x.1) (λ x. of_number x.0 ++ of_bytes x.1)
numbered_path_apart = two_apart IsNumber IsPath of_number of_bytes number_apart path_apart

op_apart : (a b : Op) (s t : List ℕ) → kind_of a ≡ kind_of b → IsOp a → IsOp b → of_op a ++ s ≡ of_op b ++ t → (a ≡ b) × (s ≡ t)
op_apart (op.Publish base edits) (op.Publish other more) s t same is also e =
    let both = two_apart (IsOption IsNumber) (IsList IsEdit) (of_option of_number) (of_list of_edit) number_option_apart (list_apart IsEdit of_edit edit_apart) (base, edits) (other, more) s t is also e in
    (ap (λ (x : Option ℕ × List Edit). op.Publish x.0 x.1) both.0, both.1)
op_apart (op.Begin a m) (op.Begin b n) s t same is also e =
    let both = two_apart IsText IsNumber of_bytes of_number text_apart number_apart (a, m) (b, n) s t is also e in
    (ap (λ (x : List ℕ × ℕ). op.Begin x.0 x.1) both.0, both.1)
op_apart (op.App a x) (op.App b y) s t same is also e =
    let both = two_apart IsNumber IsStep of_number of_step number_apart step_apart (a, x) (b, y) s t is also e in
    (ap (λ (x : ℕ × AppStep). op.App x.0 x.1) both.0, both.1)
op_apart (op.Fresh a) (op.Fresh b) s t same is also e =
    let both = number_apart a b s t is also e in
    (ap op.Fresh both.0, both.1)
op_apart (op.Fetch a p) (op.Fetch b q) s t same is also e =
    let both = numbered_path_apart (a, p) (b, q) s t is also e in
    (ap (λ (x : ℕ × List ℕ). op.Fetch x.0 x.1) both.0, both.1)
op_apart (op.Offer a p) (op.Offer b q) s t same is also e =
    let both = numbered_path_apart (a, p) (b, q) s t is also e in
    (ap (λ (x : ℕ × List ℕ). op.Offer x.0 x.1) both.0, both.1)
op_apart (op.End a p) (op.End b q) s t same is also e =
    let both = two_apart IsNumber AreAttrs of_number of_attrs number_apart attrs_apart (a, p) (b, q) s t is also e in
    (ap (λ (x : ℕ × List (List ℕ × Datum)). op.End x.0 x.1) both.0, both.1)
op_apart (op.Abandon a) (op.Abandon b) s t same is also e =
    let both = number_apart a b s t is also e in
    (ap op.Abandon both.0, both.1)
op_apart (op.Snapshot a) (op.Snapshot b) s t same is also e =
    let both = text_apart a b s t is also e in
    (ap op.Snapshot both.0, both.1)
op_apart op.Roll op.Roll s t same is also e = (refl, e)
op_apart a b s t same is also e = absurd (omega (arith, same))

reply_apart : (a b : Reply) (s t : List ℕ) → replied_kind a ≡ replied_kind b → IsReply a → IsReply b → of_reply a ++ s ≡ of_reply b ++ t → (a ≡ b) × (s ≡ t)
reply_apart (reply.Published m d) (reply.Published n f) s t same is also e =
    let both = two_apart IsNumber (IsList IsPath) of_number (of_list of_bytes) number_apart (list_apart IsPath of_bytes path_apart) (m, d) (n, f) s t (is.0, is.1) (also.0, also.1) e in
    (ap (λ (x : ℕ × List (List ℕ)). reply.Published x.0 x.1) both.0, both.1)
reply_apart (reply.Begun a m p) (reply.Begun b n q) s t same is also e =
    let both = two_apart (λ (x : ℕ × ℕ). IsNumber x.0 × IsNumber x.1) (IsOption IsNumber) (λ x. of_number x.0 ++ of_number x.1) (of_option of_number) (two_apart IsNumber IsNumber of_number of_number number_apart number_apart) number_option_apart
    ((a, m), p) ((b, n), q) s t ((is.0, is.1), is.2) ((also.0, also.1), also.2) e in
    (ap (λ (x : (ℕ × ℕ) × Option ℕ). reply.Begun x.0.0 x.0.1 x.1) both.0, both.1)
reply_apart (reply.App a) (reply.App b) s t same is also e =
    let both = answer_apart a b s t is also e in
    (ap reply.App both.0, both.1)
reply_apart (reply.Made a) (reply.Made b) s t same is also e =
    let both = number_apart a b s t is also e in
    (ap reply.Made both.0, both.1)
reply_apart (reply.Fetched a) (reply.Fetched b) s t same is also e =
    let both = truth_apart a b s t tt tt e in
    (ap reply.Fetched both.0, both.1)
reply_apart (reply.Offered a) (reply.Offered b) s t same is also e =
    let both = truth_apart a b s t tt tt e in
    (ap reply.Offered both.0, both.1)
reply_apart reply.Ended reply.Ended s t same is also e = (refl, e)
reply_apart reply.Dropped reply.Dropped s t same is also e = (refl, e)
reply_apart (reply.Snapped m p) (reply.Snapped n q) s t same is also e =
    let both = two_apart IsNumber (IsOption IsNumber) of_number (of_option of_number) number_apart number_option_apart (m, p) (n, q) s t is also e in
    (ap (λ (x : ℕ × Option ℕ). reply.Snapped x.0 x.1) both.0, both.1)
reply_apart reply.Rolled reply.Rolled s t same is also e = (refl, e)
reply_apart a b s t same is also e = absurd (omega (arith, same))

pub entry_apart : StandsApart IsEntry of_entry
entry_apart a b s t is also e =
    let pass = head_same a.pass b.pass (kind_of a.op ∷ ((of_op a.op ++ of_reply a.reply) ++ s)) (kind_of b.op ∷ ((of_op b.op ++ of_reply b.reply) ++ t)) e in
    let rest = tail_same a.pass b.pass (kind_of a.op ∷ ((of_op a.op ++ of_reply a.reply) ++ s)) (kind_of b.op ∷ ((of_op b.op ++ of_reply b.reply) ++ t)) e in
    let kind = head_same (kind_of a.op) (kind_of b.op) ((of_op a.op ++ of_reply a.reply) ++ s) ((of_op b.op ++ of_reply b.reply) ++ t) rest in
    let parts = tail_same (kind_of a.op) (kind_of b.op) ((of_op a.op ++ of_reply a.reply) ++ s) ((of_op b.op ++ of_reply b.reply) ++ t) rest in
    let one = op_apart a.op b.op (of_reply a.reply ++ s) (of_reply b.reply ++ t) kind is.op_is also.op_is (sym (append_assoc (of_op a.op) (of_reply a.reply) s) ∙ parts ∙ append_assoc (of_op b.op) (of_reply b.reply) t) in
    let other = reply_apart a.reply b.reply s t (is.fits ∙ kind ∙ sym also.fits) is.reply_is also.reply_is one.1 in (
      ap (λ p. let f : TheEntry = record { pass = p; op = a.op; reply = a.reply } in f) pass ∙ ap (λ o. let f : TheEntry = record { pass = b.pass; op = o; reply = a.reply } in f) one.0
          ∙ ap (λ r. let f : TheEntry = record { pass = b.pass; op = b.op; reply = r } in f) other.0,
      other.1,
    )

-- the whole

seed_apart : StandsApart (λ seed. length seed ≡ 32) (λ seed. seed)
seed_apart a b s t is also e = fronts_same a b s t (is ∙ sym also) e

mark_apart : StandsApart (λ m. m ≡ mark) (λ m. m)
mark_apart a b s t is also e = fronts_same a b s t (ap length is ∙ sym (ap length also)) e

abbrev Pair : Type 0
Pair = ℕ × ℕ

-- the seven counts, from left to right
abbrev Counts : Type 0
Counts = (((((ℕ × ℕ) × ℕ) × ℕ) × ℕ) × ℕ) × ℕ

abbrev two : {A : Type 0} (P : A → Type 0) (f : A → List ℕ) → StandsApart P f → StandsApart (λ (x : A × ℕ). P x.0 × IsNumber x.1) (λ x. f x.0 ++ of_number x.1)
two P f apart = two_apart P IsNumber f of_number apart number_apart

abbrev counts_of : Opening → Counts
counts_of x = ((((((x.limit, x.passes), x.idle), x.version), x.begins), x.freshes), x.moment)

abbrev AreCounts : Counts → Type 0
AreCounts c = (((((IsNumber c.0.0.0.0.0.0 × IsNumber c.0.0.0.0.0.1) × IsNumber c.0.0.0.0.1) × IsNumber c.0.0.0.1) × IsNumber c.0.0.1) × IsNumber c.0.1) × IsNumber c.1

abbrev counts_text : Counts → List ℕ
counts_text c = of_number c.0.0.0.0.0.0 ++ of_number c.0.0.0.0.0.1 ++ of_number c.0.0.0.0.1 ++ of_number c.0.0.0.1 ++ of_number c.0.0.1 ++ of_number c.0.1 ++ of_number c.1

counts_apart : StandsApart AreCounts counts_text
counts_apart a b s t is also e =
    two (λ (x : ((((ℕ × ℕ) × ℕ) × ℕ) × ℕ) × ℕ). ((((IsNumber x.0.0.0.0.0 × IsNumber x.0.0.0.0.1) × IsNumber x.0.0.0.1) × IsNumber x.0.0.1) × IsNumber x.0.1) × IsNumber x.1) (λ x. of_number x.0.0.0.0.0 ++ of_number x.0.0.0.0.1 ++ of_number x.0.0.0.1 ++ of_number x.0.0.1 ++ of_number x.0.1 ++ of_number x.1)
    (two (λ (x : (((ℕ × ℕ) × ℕ) × ℕ) × ℕ). (((IsNumber x.0.0.0.0 × IsNumber x.0.0.0.1) × IsNumber x.0.0.1) × IsNumber x.0.1) × IsNumber x.1) (λ x. of_number x.0.0.0.0 ++ of_number x.0.0.0.1 ++ of_number x.0.0.1 ++ of_number x.0.1 ++ of_number x.1)
    (two (λ (x : ((ℕ × ℕ) × ℕ) × ℕ). ((IsNumber x.0.0.0 × IsNumber x.0.0.1) × IsNumber x.0.1) × IsNumber x.1) (λ x. of_number x.0.0.0 ++ of_number x.0.0.1 ++ of_number x.0.1 ++ of_number x.1)
    (two (λ (x : (ℕ × ℕ) × ℕ). (IsNumber x.0.0 × IsNumber x.0.1) × IsNumber x.1) (λ x. of_number x.0.0 ++ of_number x.0.1 ++ of_number x.1)
    (two (λ (x : ℕ × ℕ). IsNumber x.0 × IsNumber x.1) (λ x. of_number x.0 ++ of_number x.1)
    (two IsNumber of_number number_apart)))))
    a b s t is also e

abbrev Parts : Type 0
Parts = (((List ℕ × Counts) × List (List ℕ × Datum)) × List File) × List KeptSession

abbrev parts_of : Opening → Parts
parts_of x = ((((x.seed, counts_of x), x.app), x.tree), x.sessions)

abbrev with_parts : Parts → Opening
with_parts p = record {
  seed = p.0.0.0.0;
  limit = p.0.0.0.1.0.0.0.0.0.0;
  passes = p.0.0.0.1.0.0.0.0.0.1;
  idle = p.0.0.0.1.0.0.0.0.1;
  version = p.0.0.0.1.0.0.0.1;
  begins = p.0.0.0.1.0.0.1;
  freshes = p.0.0.0.1.0.1;
  moment = p.0.0.0.1.1;
  app = p.0.0.1;
  tree = p.0.1;
  sessions = p.1;
}

abbrev ArePartsOf : Parts → Type 0
ArePartsOf p = ((((length p.0.0.0.0 ≡ 32) × AreCounts p.0.0.0.1) × AreAttrs p.0.0.1) × IsList IsFile p.0.1) × IsList IsSession p.1

abbrev parts_text : Parts → List ℕ
parts_text p = p.0.0.0.0 ++ counts_text p.0.0.0.1 ++ of_attrs p.0.0.1 ++ of_list of_file p.0.1 ++ of_list of_session p.1

parts_apart : StandsApart ArePartsOf parts_text
parts_apart a b s t is also e =
    two_apart (λ (x : ((List ℕ × Counts) × List (List ℕ × Datum)) × List File). (((length x.0.0.0 ≡ 32) × AreCounts x.0.0.1) × AreAttrs x.0.1) × IsList IsFile x.1) (IsList IsSession)
    (λ x. x.0.0.0 ++ counts_text x.0.0.1 ++ of_attrs x.0.1 ++ of_list of_file x.1) (of_list of_session)
    (two_apart (λ (x : (List ℕ × Counts) × List (List ℕ × Datum)). ((length x.0.0 ≡ 32) × AreCounts x.0.1) × AreAttrs x.1) (IsList IsFile) (λ x. x.0.0 ++ counts_text x.0.1 ++ of_attrs x.1) (of_list of_file)
    (two_apart (λ (x : List ℕ × Counts). (length x.0 ≡ 32) × AreCounts x.1) AreAttrs (λ x. x.0 ++ counts_text x.1) of_attrs
    (two_apart (λ (x : List ℕ). length x ≡ 32) AreCounts (λ x. x) counts_text seed_apart counts_apart) attrs_apart)
    (list_apart IsFile of_file file_apart)) (list_apart IsSession of_session session_apart)
    a b s t is also e

-- 256 passes at most are a number of 64 bits
passes_number : (n : ℕ) → n < 256 → IsNumber n
passes_number n small = omega (arith, small)

opening_parts : (x : Opening) → IsOpening x → ArePartsOf (parts_of x)
opening_parts x is =
    let c = is.counts in
    ((((is.seed, ((((((c.limit, passes_number x.passes c.passes), c.idle), c.version), c.begins), c.freshes), c.moment)), is.app), is.files), is.sessions)

pub opening_apart : StandsApart IsOpening of_opening
opening_apart a b s t is also e =
    let both = parts_apart (parts_of a) (parts_of b) s t (opening_parts a is) (opening_parts b also) (let h : parts_text (parts_of a) ++ s ≡ parts_text (parts_of b) ++ t = spread a s ∙ e ∙ sym (spread b t) in h) in
    (ap with_parts both.0, both.1)
  where
    spread : (x : Opening) (s : List ℕ) → parts_text (parts_of x) ++ s ≡ of_opening x ++ s
    spread x s = refl

pub talk_apart : StandsApart IsTalk of_talk
talk_apart a b s t is also e =
    let both = two_apart (λ (x : (List ℕ × List ℕ) × List ℕ). (AreBytes x.0.0 × IsList IsNumber x.0.1) × AreBytes x.1) IsByte (λ x. of_bytes x.0.0 ++ of_list of_number x.0.1 ++ of_bytes x.1) (λ n. n ∷ [])
    (two_apart (λ (x : List ℕ × List ℕ). AreBytes x.0 × IsList IsNumber x.1) AreBytes (λ x. of_bytes x.0 ++ of_list of_number x.1) of_bytes
    (two_apart AreBytes (IsList IsNumber) of_bytes (of_list of_number) bytes_apart (list_apart IsNumber of_number number_apart)) bytes_apart) byte_apart
    (((a.bytes, a.moments), a.answers), a.ended) (((b.bytes, b.moments), b.answers), b.ended) s t (((is.bytes, is.moments), is.answers), tt) (((also.bytes, also.moments), also.answers), tt) e in
    (ap (λ (x : ((List ℕ × List ℕ) × List ℕ) × ℕ). let k : Talk = record { bytes = x.0.0.0; moments = x.0.0.1; answers = x.0.1; ended = x.1 } in k) both.0, both.1)

pub journals_stand_apart : JournalsStandApart
journals_stand_apart x y old new talk other s t is also e =
    let both = two_apart (λ (j : (List ℕ × Opening) × List TheEntry). ((j.0.0 ≡ mark) × IsOpening j.0.1) × IsList IsEntry j.1) (IsOption IsTalk) (λ j. j.0.0 ++ of_opening j.0.1 ++ of_list of_entry j.1) (of_option of_talk)
    (two_apart (λ (j : List ℕ × Opening). (j.0 ≡ mark) × IsOpening j.1) (IsList IsEntry) (λ j. j.0 ++ of_opening j.1) (of_list of_entry)
    (two_apart (λ (m : List ℕ). m ≡ mark) IsOpening (λ m. m) of_opening mark_apart opening_apart) (list_apart IsEntry of_entry entry_apart)) (option_apart IsTalk of_talk talk_apart)
    (((mark, x), old), talk) (((mark, y), new), other) s t (((refl, is.opening), is.entries), is.talk_is) (((refl, also.opening), also.entries), also.talk_is) e in (
      ap (λ (j : ((List ℕ × Opening) × List TheEntry) × Option Talk). j.0.0.1) both.0,
      ap (λ (j : ((List ℕ × Opening) × List TheEntry) × Option Talk). j.0.1) both.0,
      ap (λ (j : ((List ℕ × Opening) × List TheEntry) × Option Talk). j.1) both.0,
      both.1,
    )
