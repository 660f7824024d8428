-- What operations with their replies are made of, kind by kind.
use Rattle.std.proofs.Common.{◌≡◌, ℕ, List, ◌++◌, refl, append-nil, arith, Option, Bool}
use Rattle.std.specs.Prelude.{⊤}
use Rattle.journal_reader.proofs.Views.{IsMadeOf}
use Rattle.journal_reader.specs.Acts.{IsActOf, of_act}
use Rattle.pg_text.specs.Names.{AreInOrder}
use Rattle.pg_value.specs.Datum.{Datum}
use Rattle.site_journal.specs.Codes.{IsList, IsNumber, IsOption, IsText, of_bytes, of_list, of_number, of_option, of_truth}
use Rattle.site_journal.specs.Journal.{of_answer, of_attrs, of_edit, of_step}
use Rattle.site_journal.specs.Reading.{AreAttrs, IsAnswer, IsEdit, IsPath, IsStep}
use Rattle.site_words.specs.declared.words.AppReply.{AppReply}
use Rattle.site_words.specs.declared.words.AppStep.{AppStep}
use Rattle.site_words.specs.declared.words.Op.{Op}
use Rattle.site_words.specs.declared.words.Op.TheVariants as op
use Rattle.site_words.specs.declared.words.Reply.{Reply}
use Rattle.site_words.specs.declared.words.Reply.TheVariants as reply
use Rattle.source_tree.specs.declared.edit.Edit.{Edit}

abbrev Parts : {A : Type 0} → ℕ → (A → Type 0) → (A → List ℕ) → (A → Op × Reply) → Type 0
Parts {A = A} kind I k make = (y : Op × Reply) → IsActOf kind y → (a : A) × I a × (of_act y ≡ k a) × (y ≡ make a)

-- operations of this kind, with their replies, are made of these
abbrev AreMadeOf : {A : Type 0} → ℕ → (A → Type 0) → (A → List ℕ) → (A → Op × Reply) → Type 0
AreMadeOf kind I k make = IsMadeOf I k (IsActOf kind) of_act make

abbrev pub Publishing : Type 0
Publishing = (Option ℕ × List Edit) × (ℕ × List (List ℕ))

abbrev pub IsPublishing : Publishing → Type 0
IsPublishing a = (IsOption IsNumber a.0.0 × IsList IsEdit a.0.1) × (IsNumber a.1.0 × (IsList IsPath a.1.1 × AreInOrder a.1.1))

abbrev pub of_publishing : Publishing → List ℕ
of_publishing a = (of_option of_number a.0.0 ++ of_list of_edit a.0.1) ++ (of_number a.1.0 ++ of_list of_bytes a.1.1)

abbrev pub publishing : Publishing → Op × Reply
publishing a = (op.Publish a.0.0 a.0.1, reply.Published a.1.0 a.1.1)

pub publishing_made : AreMadeOf 1 IsPublishing of_publishing publishing
publishing_made = record { parts = parts; text = λ a. refl }
  where
    parts : Parts 1 IsPublishing of_publishing publishing
    parts (op.Publish base edits, reply.Published version dirty) is = (((base, edits), (version, dirty)), (is.op, (is.reply.0, (is.reply.1, is.reply.2))), refl, refl)
    parts (o, r) is = absurd (omega (arith, is.is_kind, is.fits))

pub publishing_is : (a : Publishing) → IsPublishing a → IsActOf 1 (publishing a)
publishing_is a is = record { is_kind = refl; fits = refl; op = (is.0.0, is.0.1); reply = (is.1.0, is.1.1.0, is.1.1.1) }

abbrev pub Beginning : Type 0
Beginning = (List ℕ × ℕ) × ((ℕ × ℕ) × Option ℕ)

abbrev pub IsBeginning : Beginning → Type 0
IsBeginning a = (IsText a.0.0 × IsNumber a.0.1) × ((IsNumber a.1.0.0 × IsNumber a.1.0.1) × IsOption IsNumber a.1.1)

abbrev pub of_beginning : Beginning → List ℕ
of_beginning a = (of_bytes a.0.0 ++ of_number a.0.1) ++ ((of_number a.1.0.0 ++ of_number a.1.0.1) ++ of_option of_number a.1.1)

abbrev pub beginning : Beginning → Op × Reply
beginning a = (op.Begin a.0.0 a.0.1, reply.Begun a.1.0.0 a.1.0.1 a.1.1)

pub beginning_made : AreMadeOf 2 IsBeginning of_beginning beginning
beginning_made = record { parts = parts; text = λ a. refl }
  where
    parts : Parts 2 IsBeginning of_beginning beginning
    parts (op.Begin cookie moment, reply.Begun request version session) is = (((cookie, moment), ((request, version), session)), (is.op, ((is.reply.0, is.reply.1), is.reply.2)), refl, refl)
    parts (o, r) is = absurd (omega (arith, is.is_kind, is.fits))

pub beginning_is : (a : Beginning) → IsBeginning a → IsActOf 2 (beginning a)
beginning_is a is = record { is_kind = refl; fits = refl; op = is.0; reply = (is.1.0.0, is.1.0.1, is.1.1) }

abbrev pub Application : Type 0
Application = (ℕ × AppStep) × AppReply

abbrev pub IsApplication : Application → Type 0
IsApplication a = (IsNumber a.0.0 × IsStep a.0.1) × IsAnswer a.1

abbrev pub of_application : Application → List ℕ
of_application a = (of_number a.0.0 ++ of_step a.0.1) ++ of_answer a.1

abbrev pub application : Application → Op × Reply
application a = (op.App a.0.0 a.0.1, reply.App a.1)

pub application_made : AreMadeOf 3 IsApplication of_application application
application_made = record { parts = parts; text = λ a. refl }
  where
    parts : Parts 3 IsApplication of_application application
    parts (op.App request step, reply.App answer) is = (((request, step), answer), (is.op, is.reply), refl, refl)
    parts (o, r) is = absurd (omega (arith, is.is_kind, is.fits))

pub application_is : (a : Application) → IsApplication a → IsActOf 3 (application a)
application_is a is = record { is_kind = refl; fits = refl; op = is.0; reply = is.1 }

abbrev pub Making : Type 0
Making = ℕ × ℕ

abbrev pub IsMaking : Making → Type 0
IsMaking a = IsNumber a.0 × IsNumber a.1

abbrev pub of_making : Making → List ℕ
of_making a = of_number a.0 ++ of_number a.1

abbrev pub making : Making → Op × Reply
making a = (op.Fresh a.0, reply.Made a.1)

pub making_made : AreMadeOf 4 IsMaking of_making making
making_made = record { parts = parts; text = λ a. refl }
  where
    parts : Parts 4 IsMaking of_making making
    parts (op.Fresh request, reply.Made session) is = ((request, session), (is.op, is.reply), refl, refl)
    parts (o, r) is = absurd (omega (arith, is.is_kind, is.fits))

pub making_is : (a : Making) → IsMaking a → IsActOf 4 (making a)
making_is a is = record { is_kind = refl; fits = refl; op = is.0; reply = is.1 }

abbrev pub Fetching : Type 0
Fetching = (ℕ × List ℕ) × Bool

abbrev pub IsFetching : Fetching → Type 0
IsFetching a = (IsNumber a.0.0 × IsPath a.0.1) × ⊤

abbrev pub of_fetching : Fetching → List ℕ
of_fetching a = (of_number a.0.0 ++ of_bytes a.0.1) ++ of_truth a.1

abbrev pub fetching : Fetching → Op × Reply
fetching a = (op.Fetch a.0.0 a.0.1, reply.Fetched a.1)

pub fetching_made : AreMadeOf 5 IsFetching of_fetching fetching
fetching_made = record { parts = parts; text = λ a. refl }
  where
    parts : Parts 5 IsFetching of_fetching fetching
    parts (op.Fetch request path, reply.Fetched hit) is = (((request, path), hit), (is.op, tt), refl, refl)
    parts (o, r) is = absurd (omega (arith, is.is_kind, is.fits))

pub fetching_is : (a : Fetching) → IsFetching a → IsActOf 5 (fetching a)
fetching_is a is = record { is_kind = refl; fits = refl; op = is.0; reply = tt }

abbrev pub Offering : Type 0
Offering = (ℕ × List ℕ) × Bool

abbrev pub IsOffering : Offering → Type 0
IsOffering a = (IsNumber a.0.0 × IsPath a.0.1) × ⊤

abbrev pub of_offering : Offering → List ℕ
of_offering a = (of_number a.0.0 ++ of_bytes a.0.1) ++ of_truth a.1

abbrev pub offering : Offering → Op × Reply
offering a = (op.Offer a.0.0 a.0.1, reply.Offered a.1)

pub offering_made : AreMadeOf 6 IsOffering of_offering offering
offering_made = record { parts = parts; text = λ a. refl }
  where
    parts : Parts 6 IsOffering of_offering offering
    parts (op.Offer request path, reply.Offered kept) is = (((request, path), kept), (is.op, tt), refl, refl)
    parts (o, r) is = absurd (omega (arith, is.is_kind, is.fits))

pub offering_is : (a : Offering) → IsOffering a → IsActOf 6 (offering a)
offering_is a is = record { is_kind = refl; fits = refl; op = is.0; reply = tt }

abbrev pub Ending : Type 0
Ending = ℕ × List (List ℕ × Datum)

abbrev pub IsEnding : Ending → Type 0
IsEnding a = IsNumber a.0 × AreAttrs a.1

abbrev pub of_ending : Ending → List ℕ
of_ending a = of_number a.0 ++ of_attrs a.1

abbrev pub ending : Ending → Op × Reply
ending a = (op.End a.0 a.1, reply.Ended)

pub ending_made : AreMadeOf 7 IsEnding of_ending ending
ending_made = record { parts = parts; text = λ a. append-nil (of_number a.0 ++ of_attrs a.1) }
  where
    parts : Parts 7 IsEnding of_ending ending
    parts (op.End request attrs, reply.Ended) is = ((request, attrs), is.op, append-nil (of_number request ++ of_attrs attrs), refl)
    parts (o, r) is = absurd (omega (arith, is.is_kind, is.fits))

pub ending_is : (a : Ending) → IsEnding a → IsActOf 7 (ending a)
ending_is a is = record { is_kind = refl; fits = refl; op = is; reply = tt }

abbrev pub IsAbandoning : ℕ → Type 0
IsAbandoning a = IsNumber a

abbrev pub of_abandoning : ℕ → List ℕ
of_abandoning a = of_number a

abbrev pub abandoning : ℕ → Op × Reply
abandoning a = (op.Abandon a, reply.Dropped)

pub abandoning_made : AreMadeOf 8 IsAbandoning of_abandoning abandoning
abandoning_made = record { parts = parts; text = λ a. append-nil (of_number a) }
  where
    parts : Parts 8 IsAbandoning of_abandoning abandoning
    parts (op.Abandon request, reply.Dropped) is = (request, is.op, append-nil (of_number request), refl)
    parts (o, r) is = absurd (omega (arith, is.is_kind, is.fits))

pub abandoning_is : (a : ℕ) → IsAbandoning a → IsActOf 8 (abandoning a)
abandoning_is a is = record { is_kind = refl; fits = refl; op = is; reply = tt }

abbrev pub Looking : Type 0
Looking = List ℕ × (ℕ × Option ℕ)

abbrev pub IsLooking : Looking → Type 0
IsLooking a = IsText a.0 × (IsNumber a.1.0 × IsOption IsNumber a.1.1)

abbrev pub of_looking : Looking → List ℕ
of_looking a = of_bytes a.0 ++ (of_number a.1.0 ++ of_option of_number a.1.1)

abbrev pub looking : Looking → Op × Reply
looking a = (op.Snapshot a.0, reply.Snapped a.1.0 a.1.1)

pub looking_made : AreMadeOf 9 IsLooking of_looking looking
looking_made = record { parts = parts; text = λ a. refl }
  where
    parts : Parts 9 IsLooking of_looking looking
    parts (op.Snapshot cookie, reply.Snapped version session) is = ((cookie, (version, session)), (is.op, is.reply), refl, refl)
    parts (o, r) is = absurd (omega (arith, is.is_kind, is.fits))

pub looking_is : (a : Looking) → IsLooking a → IsActOf 9 (looking a)
looking_is a is = record { is_kind = refl; fits = refl; op = is.0; reply = is.1 }

-- a Roll

pub rolling_only : (y : Op × Reply) → IsActOf 10 y → y ≡ (op.Roll, reply.Rolled)
rolling_only (op.Roll, reply.Rolled) is = refl
rolling_only (o, r) is = absurd (omega (arith, is.is_kind, is.fits))
