-- Courses: from calls, one after the other, and what they make of what is counted from a pass's own entries.
use Rattle.std.proofs.Common.{◌≡◌, ℕ, List, [], ◌∷◌, ◌++◌, length, map, refl, sym, ap, subst, ◌∙◌, append_assoc, append-nil}
use Rattle.std.proofs.lemmas.List.{map-append}
use Rattle.std.specs.List.{fold}
use Rattle.edges.proofs.Own.{front_both, front_push, front_same}
use Rattle.edges.specs.History.{IsFront}
use Rattle.edges.specs.declared.acted.Acted.{Acted}
use Rattle.edges.specs.declared.acted.Acted.TheVariants.{Did, Refused, NoMemory}
use Rattle.pass_course.specs.Course.{HasDone, call_of}
use Rattle.pass_course.specs.Laws.{CallsAreCourses, CoursesJoin, called}
use Rattle.site_words.proofs.Items.{fold-both}
use Rattle.site_words.specs.Calls.{Acts, Calls, Stays}
use Rattle.site_words.specs.Law.{Legal, own}
use Rattle.site_words.specs.Trees.{Needs}
use Rattle.site_words.specs.declared.words.Entry.{Entry}
use Rattle.site_words.specs.declared.words.Op.{Op}
use Rattle.site_words.specs.declared.words.Opening.{Opening}
use Rattle.site_words.specs.declared.words.Refusal.{Refusal}
use Rattle.site_words.specs.declared.words.Reply.{Reply}

-- where nothing was done

pub done_stays : (needs : Needs) (x : Opening) (pass : ℕ) (old new : List Entry) → Stays needs x pass old new → HasDone needs x pass old new []
done_stays needs x pass old new stays =
    record { longer = stays.longer; entries = []; grown = stays.same ∙ sym (append-nil (own pass old)); calls_are = refl; is_legal = stays.is_legal }

pub done_none : (needs : Needs) (x : Opening) (pass : ℕ) (seen : List Entry) → Legal needs x seen → HasDone needs x pass seen seen []
done_none needs x pass seen legal = record { longer = front_same seen; entries = []; grown = sym (append-nil (own pass seen)); calls_are = refl; is_legal = legal }

-- one operation
pub done_acts : (needs : Needs) (x : Opening) (pass : ℕ) (old new : List Entry) (o : Op) (r : Reply) → Acts needs x pass old new o r → HasDone needs x pass old new ((o, r) ∷ [])
done_acts needs x pass old new o r acts = record {
  longer = front_both old acts.front new acts.stays.longer (acts.entry ∷ [], acts.seen);
  entries = (length acts.front, acts.entry) ∷ [];
  grown = acts.grown;
  calls_are = ap (λ (e : Entry). (e.op, e.reply) ∷ []) acts.said;
  is_legal = acts.is_legal;
}

pub calls_are_courses : CallsAreCourses
calls_are_courses needs x pass old new o (Did r) calls = done_acts needs x pass old new o r calls
calls_are_courses needs x pass old new o (Refused refusal) calls = done_stays needs x pass old new calls.0
calls_are_courses needs x pass old new o NoMemory calls = done_stays needs x pass old new calls

-- one after the other
pub courses_join : CoursesJoin
courses_join needs x pass old mid new calls more first second = record {
  longer = front_both old mid new first.longer second.longer;
  entries = first.entries ++ second.entries;
  grown = second.grown ∙ (ap (λ l. l ++ second.entries) first.grown ∙ append_assoc (own pass old) first.entries second.entries);
  calls_are = map-append call_of first.entries second.entries ∙ (ap (λ l. l ++ map call_of second.entries) first.calls_are ∙ ap (λ l. calls ++ l) second.calls_are);
  is_legal = second.is_legal;
}

-- what is counted from own entries, after a course

abbrev pub counted : {B : Type 0} → (B → Op → Reply → B) → B → List (ℕ × Entry) → B
counted h start entries = fold (λ b (e : ℕ × Entry). h b e.1.op e.1.reply) start entries

abbrev pub counted_on : {B : Type 0} → (B → Op → Reply → B) → B → List (Op × Reply) → B
counted_on h start calls = fold (λ b (c : Op × Reply). h b c.0 c.1) start calls

counted_calls : {B : Type 0} (h : B → Op → Reply → B) (start : B) (entries : List (ℕ × Entry)) → counted h start entries ≡ counted_on h start (map call_of entries)
counted_calls h start [] = refl
counted_calls h start (e ∷ entries) = counted_calls h (h start e.1.op e.1.reply) entries

pub done_counts : {B : Type 0} (h : B → Op → Reply → B) (start : B) (needs : Needs) (x : Opening) (pass : ℕ) (old new : List Entry) (calls : List (Op × Reply)) → HasDone needs x pass old new calls
    → counted h start (own pass new) ≡ counted_on h (counted h start (own pass old)) calls
done_counts h start needs x pass old new calls done =
    ap (counted h start) done.grown
    ∙ (fold-both (λ b (e : ℕ × Entry). h b e.1.op e.1.reply) start (own pass old) done.entries
    ∙ (counted_calls h (counted h start (own pass old)) done.entries ∙ ap (counted_on h (counted h start (own pass old))) done.calls_are))
