-- A talk that is done again.
use Rattle.std.proofs.Common.{◌≡◌, ℕ, Bool, true, List, [], ◌∷◌, Option, Some, None, refl, sym, ap, subst, ◌∙◌, arith}
use Rattle.std.specs.Bool.{Decides}
use Rattle.conversation.specs.Conversation.{Tells}
use Rattle.conversation.specs.declared.ended.Ended.{Ended}
use Rattle.conversation.specs.declared.ended.Ended.TheVariants as ended
use Rattle.edges.specs.Clock.{Moments}
use Rattle.page_answers.specs.Standing.{standing_of}
use Rattle.pass_course.specs.Course.{IsIdle}
use Rattle.right_journal.specs.Right.{IsNumberOf}
use Rattle.site_core.specs.Lived.{Lived}
use Rattle.site_journal.specs.declared.talk.Talk.{Talk}
use Rattle.site_words.specs.Invariants.{AllRest}
use Rattle.site_words.specs.Law.{own, run_of}
use Rattle.site_words.specs.Trees.{Needs}
use Rattle.site_words.specs.declared.words.Entry.{Entry}
use Rattle.site_words.specs.declared.words.Opening.{Opening}
use Rattle.source_tree.specs.declared.edit.Edit.{Edit}
use Rattle.talk_law.specs.OneTalk.{IsByBytes}
use Rattle.talk_law.specs.RightTalk.{Ran, RunsAgain, RunsComeToIt, RunsShowIt, only, with_two}
use Rattle.talk_words.specs.Connection.{stand_of}
use Rattle.talk_words.specs.Noted.{telling}
use Rattle.talk_words.specs.Said.{IsLeft, IsSaid}
use Rattle.recorded_talk.specs.Rerun.{IsRerun, IsSameTalk}
use Rattle.recorded_talk.specs.Talked.{HasTalk, IsByNumber}
use Rattle.recorded_talk.specs.declared.talking.Rerun.{Rerun}

-- no request is under way before the first entry

pub rests_at_start : (x : Opening) (history : List Entry) → history ≡ [] → AllRest x history
rests_at_start x history empty k within = subst (λ h. run_of (own k h) ≡ None) (sym empty) refl

pub idle_at_start : (site before : Lived) → before ≡ site → site.opening.passes ≡ 1 → site.history ≡ [] → IsIdle before.opening 0 before.history
idle_at_start site before same one empty = subst (λ (s : Lived). IsIdle s.opening 0 s.history) (sym same) (omega (arith, one), subst (λ h. run_of (own 0 h) ≡ None) (sym empty) refl)

-- the number of an end

one_number : (end : Ended) (m n : ℕ) → IsNumberOf m end → IsNumberOf n end → m ≡ n
one_number ended.Done m n a b = a ∙ sym b
one_number (ended.Refused fault) m n a b = a ∙ sym b
one_number ended.ReadFault m n a b = absurd a
one_number ended.WriteFault m n a b = absurd a
one_number ended.NoMemory m n a b = absurd a

-- what a connection came to, over a source, a sink and a clock in memory
pub ran : (needs : Needs) (x : Opening) (site before : Lived) (seen : List Entry) (bytes given moments told ahead gone answers : List ℕ) (draft : List Edit) (later : Option (List ℕ)) (first risen steps count : ℕ) (end : Ended)
    → site.opening ≡ x → site.history ≡ [] → before ≡ site → given ≡ bytes → told ≡ with_two moments → gone ≡ [] → steps ≡ 0 → IsByBytes end
    → Tells (IsSaid (only needs before.opening)) (IsLeft (only needs before.opening)) (stand_of [] (standing_of before.history (telling told) steps)) (stand_of draft (standing_of seen (telling ahead) count)) (Some given) later first risen (Some gone)
    (Some answers) end
    → Ran needs x bytes moments seen (telling ahead) (Some answers) end
ran needs x site before seen bytes given moments told ahead gone answers draft later first risen steps count end opening empty at_first came clock silent none by tells =
    let opening_is : before.opening ≡ x = ap (λ (l : Lived). l.opening) at_first ∙ opening in
    let history_is : before.history ≡ [] = ap (λ (l : Lived). l.history) at_first ∙ empty in
    record {
      by_bytes = by;
      draft = draft;
      later = later;
      steps = count;
      before = first;
      after_it = risen;
      talk = rw (opening_is, history_is, clock, none, came, silent) at tells;
    }

-- the run comes to the talk exactly where it is right
pub right_where_same : (needs : Needs) (x : Opening) (history : List Entry) (talk : Talk) (again : Rerun) (same : Bool) → RunsComeToIt → RunsShowIt → x.passes ≡ 1 → IsRerun needs x talk.bytes talk.moments again
    → Decides same (IsSameTalk again talk.answers talk.ended history) → Decides same (HasTalk needs x history talk)
right_where_same needs x history talk again same comes shows one rerun decides = (right, back)
  where
    right : same ≡ true → HasTalk needs x history talk
    right is =
        let c : IsSameTalk again talk.answers talk.ended history = decides.0 is in (
          rerun.end,
          subst (λ n. IsNumberOf n rerun.end) c.number rerun.by_number.1,
          shows needs x history again.site.history talk.bytes talk.moments talk.answers (telling again.clock) (Some again.sink.taken) rerun.end rerun.end one rerun.ran
              (record { entries = c.entries; moments = ap telling c.moments; answers_are = ap (λ l. Some l) c.answers_are; ends = refl }),
        )

    back : HasTalk needs x history talk → same ≡ true
    back has =
        let a : RunsAgain history again.site.history talk.answers (telling again.clock) (Some again.sink.taken) has.0 rerun.end =
        comes needs x history again.site.history talk.bytes talk.moments talk.answers (telling again.clock) (Some again.sink.taken) has.0 rerun.end has.2 rerun.ran in
        let left : Some again.clock ≡ Some (0 ∷ 0 ∷ []) = ap (λ (m : Moments). m.ahead) a.moments in
        let took : Some again.sink.taken ≡ Some talk.answers = a.answers_are in
        decides.1 (record {
          number = one_number has.0 again.number talk.ended (subst (λ e. IsNumberOf again.number e) a.ends rerun.by_number.1) has.1;
          answers_are = cc;
          moments = cc;
          entries = a.entries;
        })

-- what was run again, by what each call left
pub reran : (needs : Needs) (x : Opening) (bytes moments : List ℕ) (again : Rerun) (end : Ended) (seen : List Entry) → again.site.history ≡ seen → IsByNumber again.number end
    → Ran needs x bytes moments seen (telling again.clock) (Some again.sink.taken) end → IsRerun needs x bytes moments again
reran needs x bytes moments again end seen same by ran =
    record { end = end; by_number = by; ran = subst (λ h. Ran needs x bytes moments h (telling again.clock) (Some again.sink.taken) end) (sym same) ran }
