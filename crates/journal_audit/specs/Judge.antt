-- What is said of one journal behind another.
use Rattle.std.specs.Prelude.{◌≡◌, List, Option, Some, None, ⊤}
use Rattle.std.specs.Option.{option_map}
use Rattle.journal_audit.specs.declared.judging.Judged.{Judged}
use Rattle.journal_audit.specs.declared.judging.Judged.TheVariants.{Right, Wrong}
use Rattle.journal_audit.specs.declared.verdict.Why.{Why}
use Rattle.journal_audit.specs.declared.verdict.Why.TheVariants as why
use Rattle.journal_reader.specs.declared.journal.Journal.{Journal as ReadJournal}
use Rattle.recorded_talk.specs.Talked.{HasTalk}
use Rattle.right_journal.specs.Right.{FailsAt, HasRightTalk, IsRight, Journal, goes_on_as}
use Rattle.right_journal.specs.Verdict.{IsWrong, at_entry, at_opening, at_talk}
use Rattle.right_journal.specs.Verdict as Verdict
use Rattle.site_journal.specs.declared.talk.Talk.{Talk}
use Rattle.site_words.specs.Law.{Legal}
use Rattle.site_words.specs.Trees.{Needs}
use Rattle.site_words.specs.declared.words.Entry.{Entry}
use Rattle.site_words.specs.declared.words.Opening.{Opening}

-- a journal as it was read
abbrev pub seen : ReadJournal → Journal
seen j = record { opening = j.opening; history = j.history; talk = j.talk }

-- the opening that goes on from a journal, where one stands before
abbrev pub GoesOnAs : Needs → Option Journal → Option Opening → Type 0
GoesOnAs needs last before = before ≡ option_map (goes_on_as needs) last

abbrev pub part_of : Why → Verdict.Why
part_of why.Opening = at_opening
part_of (why.Entry place) = at_entry place
part_of why.Talk = at_talk

abbrev pub IsJudged : Needs → Option Journal → Journal → Judged → Type 0
IsJudged needs last j (Right next) = IsRight needs last j × (next ≡ goes_on_as needs j)
IsJudged needs last j (Wrong why) = IsWrong needs last j (part_of why)

-- of a journal whose opening is right: its entries, its talk, and the opening that goes on from it
abbrev pub IsOpenedJudged : Needs → Opening → List Entry → Option Talk → Judged → Type 0
IsOpenedJudged needs x history talk (Right next) = Legal needs x history × HasRightTalk needs x history talk × (next ≡ goes_on_as needs (record { opening = x; history = history; talk = talk }))
IsOpenedJudged needs x history talk (Wrong why.Opening) = ⊥
IsOpenedJudged needs x history talk (Wrong (why.Entry place)) = FailsAt needs x history place
IsOpenedJudged needs x history talk (Wrong why.Talk) = Legal needs x history × (HasRightTalk needs x history talk → ⊥)

-- a talk, where there is one, is right for the entries before the Roll
abbrev pub HasTalkIf : Needs → Opening → List Entry → Option Talk → Type 0
HasTalkIf needs x front None = ⊤
HasTalkIf needs x front (Some talk) = HasTalk needs x front talk

-- of a journal whose entries are right: its talk, and the opening that goes on
abbrev pub IsTalkJudged : Needs → Opening → List Entry → Option Talk → Opening → Judged → Type 0
IsTalkJudged needs x front talk next (Right given) = HasTalkIf needs x front talk × (given ≡ next)
IsTalkJudged needs x front talk next (Wrong why.Opening) = ⊥
IsTalkJudged needs x front talk next (Wrong (why.Entry place)) = ⊥
IsTalkJudged needs x front talk next (Wrong why.Talk) = HasTalkIf needs x front talk → ⊥
