-- There is one verdict on the bytes of journals.
use Rattle.std.proofs.Common.{◌≡◌, ℕ, suc, ◌+◌, List, [], ◌∷◌, ◌++◌, length, refl, sym, ap, subst, ◌∙◌, append_assoc, Option, Some, None}
use Rattle.std.specs.List.{fold}
use Rattle.std.specs.Prelude.{flat_map}
use Rattle.right_journal.specs.Right.{FailsAt, IsRight, Journal}
use Rattle.right_journal.specs.Verdict.{AllRight, Begins, BeginsWithNone, BeginsWrong, CanBe, Holds, IsWrong, Verdict, VerdictsAreOne, Why, at_entry, at_opening, at_talk, entries_in, last_of, no, no_journal, of_journal, yes}
use Rattle.site_journal.specs.Reading.{JournalsStandApart}
use Rattle.site_words.specs.Law.{Follows, Legal, LegalFrom}
use Rattle.site_words.specs.State.{State, moved, start_of}
use Rattle.site_words.specs.Trees.{Needs}
use Rattle.site_words.specs.declared.words.Entry.{Entry}
use Rattle.site_words.specs.declared.words.Opening.{Opening}

-- the first entry that fails

module _ (needs : Needs) (x : Opening) where
  abbrev on : State → List Entry → State
  on s entries = fold (moved needs x) s entries

  one_failure : (s : State) (front other : List Entry) (e f : Entry) (back rest : List Entry) → front ++ e ∷ back ≡ other ++ f ∷ rest → LegalFrom needs x s front → LegalFrom needs x s other
      → (Follows needs x (on s front) e → ⊥) → (Follows needs x (on s other) f → ⊥) → length front ≡ length other
  one_failure s [] [] e f back rest same legal also fails fails_too = refl
  one_failure s [] (b ∷ other) e f back rest same legal also fails fails_too = let head : e ≡ b = cc in absurd (fails (subst (Follows needs x s) (sym head) also.0))
  one_failure s (a ∷ front) [] e f back rest same legal also fails fails_too = let head : f ≡ a = cc in absurd (fails_too (subst (Follows needs x s) (sym head) legal.0))
  one_failure s (a ∷ front) (b ∷ other) e f back rest same legal also fails fails_too =
      let head : b ≡ a = cc in
      let tail : front ++ e ∷ back ≡ other ++ f ∷ rest = cc in
      ap suc (one_failure (moved needs x s a) front other e f back rest tail legal.1 (subst (λ c. LegalFrom needs x (moved needs x s c) other) head also.1) fails
      (subst (λ c. Follows needs x (on (moved needs x s c) other) f → ⊥) head fails_too))

  no_failure : (s : State) (front : List Entry) (e : Entry) (back : List Entry) → LegalFrom needs x s (front ++ e ∷ back) → Follows needs x (on s front) e
  no_failure s [] e back legal = legal.0
  no_failure s (a ∷ front) e back legal = no_failure (moved needs x s a) front e back legal.1

  one_place : (history : List Entry) (p q : ℕ) → FailsAt needs x history p → FailsAt needs x history q → p ≡ q
  one_place history p q a b = sym a.at ∙ one_failure (start_of x) a.front b.front a.entry b.entry a.back b.back (sym a.is ∙ b.is) a.legal b.legal a.fails b.fails ∙ b.at

  never_fails : (history : List Entry) (p : ℕ) → Legal needs x history → FailsAt needs x history p → ⊥
  never_fails history p legal a = a.fails (no_failure (start_of x) a.front a.entry a.back (subst (Legal needs x) a.is legal))

module _ (needs : Needs) (before : Option Journal) (j : Journal) where
  one_why : (v w : Why) → IsWrong needs before j v → IsWrong needs before j w → v ≡ w
  one_why at_opening at_opening a b = refl
  one_why at_opening (at_entry q) a b = absurd (a b.0)
  one_why at_opening at_talk a b = absurd (a b.0)
  one_why (at_entry p) at_opening a b = absurd (b a.0)
  one_why (at_entry p) (at_entry q) a b = ap at_entry (one_place needs j.opening j.history p q a.1 b.1)
  one_why (at_entry p) at_talk a b = absurd (never_fails needs j.opening j.history p b.1 a.1)
  one_why at_talk at_opening a b = absurd (b a.0)
  one_why at_talk (at_entry q) a b = absurd (never_fails needs j.opening j.history q a.1 b.1)
  one_why at_talk at_talk a b = refl

  not_both : (why : Why) → IsWrong needs before j why → IsRight needs before j → ⊥
  not_both at_opening wrong right = wrong right.opening
  not_both (at_entry p) wrong right = never_fails needs j.opening j.history p right.entries wrong.1
  not_both at_talk wrong right = wrong.2 right.talk

-- two ways to read right journals from the same bytes

module _ (apart : JournalsStandApart) (needs : Needs) where
  one_journal : (j k : Journal) (s t : List ℕ) → CanBe j → CanBe k → of_journal j ++ s ≡ of_journal k ++ t → (j ≡ k) × (s ≡ t)
  one_journal j k s t is also e =
      let same = apart j.opening k.opening j.history k.history j.talk k.talk s t is also e in (
        ap (λ x. let l : Journal = record { opening = x; history = j.history; talk = j.talk } in l) same.0 ∙ ap (λ h. let l : Journal = record { opening = k.opening; history = h; talk = j.talk } in l) same.1
            ∙ ap (λ t. let l : Journal = record { opening = k.opening; history = k.history; talk = t } in l) same.2,
        same.3,
      )

  not_empty : (j : Journal) (s : List ℕ) → [] ≡ of_journal j ++ s → ⊥
  not_empty j s e = absurd (cc)

  -- what stands behind right journals where a verdict ends
  abbrev Ends : Option Journal → List ℕ → Verdict → Type 0
  Ends last rest (yes count entries) = rest ≡ []
  Ends last rest (no count why) = BeginsWrong needs last rest why
  Ends last rest (no_journal count) = BeginsWithNone rest

  -- no right journal stands there
  stops : (last : Option Journal) (rest : List ℕ) (v : Verdict) → Ends last rest v → (j : Journal) (more : List ℕ) → CanBe j → IsRight needs last j → rest ≡ of_journal j ++ more → ⊥
  stops last rest (yes count entries) end j more can right at = not_empty j more (sym end ∙ at)
  stops last rest (no count why) end j more can right at =
      let same = (one_journal end.journal j end.more more end.can_be can (sym end.is ∙ at)).0 in
      not_both needs last j why (subst (λ k. IsWrong needs last k why) same end.wrong) right
  stops last rest (no_journal count) end j more can right at = end.1 j more can at

  one_list : (before : Option Journal) (js ks : List Journal) (r s : List ℕ) (v w : Verdict) → AllRight needs before js → AllRight needs before ks → flat_map of_journal js ++ r ≡ flat_map of_journal ks ++ s
      → Ends (last_of before js) r v → Ends (last_of before ks) s w → (js ≡ ks) × (r ≡ s)
  one_list before [] [] r s v w all also e end end_too = (refl, e)
  one_list before [] (k ∷ ks) r s v w all also e end end_too =
      absurd (stops before r v end k (flat_map of_journal ks ++ s) also.0 also.1 (e ∙ append_assoc (of_journal k) (flat_map of_journal ks) s))
  one_list before (j ∷ js) [] r s v w all also e end end_too =
      absurd (stops before s w end_too j (flat_map of_journal js ++ r) all.0 all.1 (sym e ∙ append_assoc (of_journal j) (flat_map of_journal js) r))
  one_list before (j ∷ js) (k ∷ ks) r s v w all also e end end_too =
      let same = one_journal j k (flat_map of_journal js ++ r) (flat_map of_journal ks ++ s) all.0 also.0
      (sym (append_assoc (of_journal j) (flat_map of_journal js) r) ∙ e ∙ append_assoc (of_journal k) (flat_map of_journal ks) s) in
      let rest = one_list (Some j) js ks r s v w all.2 (subst (λ l. AllRight needs (Some l) ks) (sym same.0) also.2) same.1 end (subst (λ l. Ends (last_of (Some l) ks) s w) (sym same.0) end_too) in
      (ap (λ l. l ∷ js) same.0 ∙ ap (λ ls. k ∷ ls) rest.0, rest.1)

  -- the journals that a verdict counts, and its numbers
  abbrev Counts : Verdict → List Journal → Type 0
  Counts (yes count entries) js = (count ≡ length js) × (entries ≡ entries_in js)
  Counts (no count why) js = count ≡ length js
  Counts (no_journal count) js = count ≡ length js

  found : (bytes : List ℕ) (v : Verdict) → Holds needs bytes v → (js : List Journal) × (rest : List ℕ) × Begins needs bytes js rest × Counts v js × Ends (last_of None js) rest v
  found bytes (yes count entries) h = (h.0, [], h.1, (h.2, h.3), refl)
  found bytes (no count why) h = h
  found bytes (no_journal count) h = h

  one_end : (last : Option Journal) (rest : List ℕ) (js : List Journal) (v w : Verdict) → Counts v js → Counts w js → Ends last rest v → Ends last rest w → v ≡ w
  one_end last rest js (yes m n) (yes o p) a b end end_too = ap (λ c. yes c n) (a.0 ∙ sym b.0) ∙ ap (yes o) (a.1 ∙ sym b.1)
  one_end last rest js (yes m n) (no o why) a b end end_too = absurd (not_empty end_too.journal end_too.more (sym end ∙ end_too.is))
  one_end last rest js (yes m n) (no_journal o) a b end end_too = absurd (end_too.0 end)
  one_end last rest js (no m why) (yes o p) a b end end_too = absurd (not_empty end.journal end.more (sym end_too ∙ end.is))
  one_end last rest js (no m why) (no o other) a b end end_too =
      let same = (one_journal end.journal end_too.journal end.more end_too.more end.can_be end_too.can_be (sym end.is ∙ end_too.is)).0 in
      ap (λ c. no c why) (a ∙ sym b) ∙ ap (no o) (one_why needs last end_too.journal why other (subst (λ k. IsWrong needs last k why) same end.wrong) end_too.wrong)
  one_end last rest js (no m why) (no_journal o) a b end end_too = absurd (end_too.1 end.journal end.more end.can_be end.is)
  one_end last rest js (no_journal m) (yes o p) a b end end_too = absurd (end.0 end_too)
  one_end last rest js (no_journal m) (no o why) a b end end_too = absurd (end.1 end_too.journal end_too.more end_too.can_be end_too.is)
  one_end last rest js (no_journal m) (no_journal o) a b end end_too = ap no_journal (a ∙ sym b)

  one_of : (bytes : List ℕ) (v w : Verdict) → Holds needs bytes v → Holds needs bytes w → v ≡ w
  one_of bytes v w h i =
      let a = found bytes v h in
      let b = found bytes w i in
      let same = one_list None a.0 b.0 a.1 b.1 v w a.2.right b.2.right (sym a.2.is ∙ b.2.is) a.4 b.4 in
      one_end (last_of None b.0) b.1 b.0 v w (subst (Counts v) same.0 a.3) b.3 (subst (λ r. Ends (last_of None b.0) r v) same.1 (subst (λ ks. Ends (last_of None ks) a.1 v) same.0 a.4)) b.4

pub verdicts_are_one : JournalsStandApart → VerdictsAreOne
verdicts_are_one apart needs bytes v w h i = one_of apart needs bytes v w h i
