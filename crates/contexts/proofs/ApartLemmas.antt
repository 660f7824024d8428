-- What is done to one context is nothing to another.
use Rattle.std.proofs.Common.{◌≡◌, ℕ, ◌==◌, Bool, true, false, List, [], ◌∷◌, ◌++◌, Some, refl, sym, ap, subst, ◌∙◌}
use Rattle.std.specs.Prelude.{set, if◌then◌else◌}
use Rattle.std.specs.List.{slice_get}
use Rattle.std.proofs.lemmas.Bool.{eq-eqb, eqb-true}
use Rattle.context_names.proofs.Places.{get_set, get_set_other, same_some}
use Rattle.edges.specs.declared.acted.Acted.{Acted}
use Rattle.edges.specs.declared.acted.Acted.TheVariants.{Did, Refused, NoMemory}
use Rattle.source_tree.specs.declared.file.File.{File}
use Rattle.site_words.specs.State.{after}
use Rattle.site_words.specs.Step.{step}
use Rattle.site_words.specs.Trees.{Needs}
use Rattle.site_words.specs.declared.words.Op.{Op}
use Rattle.site_words.specs.declared.words.Refusal.{Refusal}
use Rattle.site_words.specs.declared.words.Reply.{Reply}
use Rattle.site_state.specs.declared.gift.Given.{Given}
use Rattle.site_core.specs.Applies.{Applies}
use Rattle.site_core.specs.Lived.{Lived, with_entry}
use Rattle.contexts.specs.Apart.{AreApplied, Done, IsApart, IsSameInTwoWorlds, all_asked, all_told, asked, share, told}
use Rattle.contexts.specs.Sites.{AppliesAt}

module _ {P : Type 0} (needs : Needs) (made : P → List File → List ℕ → Type 0) where
  -- where a context comes to by these
  abbrev Comes : (new : List Lived) → (context : ℕ) → (before : Lived) → List (Done P) → Type 0
  Comes new context before done = (now : Lived) × (slice_get new context ≡ Some now) × AreApplied needs made before done now

  one_more : (old mid new : List Lived) (asked : ℕ) (d : Done P) (rest : List (Done P)) (context : ℕ) (before : Lived) → AppliesAt needs made old mid asked d.pass d.op d.answer → slice_get old context ≡ Some before
      → ((now : Lived) → slice_get mid context ≡ Some now → Comes new context now rest)
      → (test : Bool) → (asked == context) ≡ test → Comes new context before ((if test then d ∷ [] else []) ++ rest)
  one_more old mid new asked d rest context before one at more true same =
      let asked_is : asked ≡ context = eqb-true asked context same in
      let one_site : one.before ≡ before = same_some one.before before (sym one.before_is ∙ (ap (λ k. slice_get old k) asked_is ∙ at)) in
      let now : slice_get mid context ≡ Some one.after = ap (λ sites. slice_get sites context) one.sites_are ∙ (ap (λ k. slice_get (set old asked one.after) k) (sym asked_is) ∙ get_set old asked one.after one.before one.before_is) in
      let comes = more one.after now in
      (comes.0, comes.1, (one.after, subst (λ (s : Lived). Applies needs made s one.after d.pass d.op d.answer) one_site one.applies, comes.2))
  one_more old mid new asked d rest context before one at more false other =
      let apart : (asked ≡ context → ⊥) = λ same. absurd (let t : (asked == context) ≡ true = ap (λ k. asked == k) (sym same) ∙ eq-eqb asked asked refl in cc) in
      more before (ap (λ sites. slice_get sites context) one.sites_are ∙ (get_set_other old asked context one.after apart ∙ at))

  pub is_apart : IsApart needs made
  is_apart old new [] context before same at = (before, subst (λ (sites : List Lived). slice_get sites context ≡ Some before) (sym same) at, refl)
  is_apart old new (d ∷ more) context before done at =
      one_more old done.0 new d.0 d.1 (share context more) context before done.1 at (λ now is_now. is_apart done.0 new more context now done.2 is_now) (d.0 == context) refl

  -- what a site answers, and what it leaves, by the operations alone

  abbrev step_at : Lived → ℕ → Op → Acted Reply Refusal
  step_at s pass o = step needs s.opening (after needs s.opening s.history) pass o

  abbrev moved_by : Lived → ℕ → Op → Acted Reply Refusal → Lived
  moved_by s pass o (Did r) = with_entry s pass o r
  moved_by s pass o (Refused refusal) = s
  moved_by s pass o NoMemory = s

  abbrev replies_of : Lived → List (ℕ × Op) → List ((ℕ × Op) × Acted Reply Refusal)
  replies_of s [] = []
  replies_of s (o ∷ more) = (o, step_at s o.0 o.1) ∷ replies_of (moved_by s o.0 o.1 (step_at s o.0 o.1)) more

  abbrev end_of : Lived → List (ℕ × Op) → Lived
  end_of s [] = s
  end_of s (o ∷ more) = end_of (moved_by s o.0 o.1 (step_at s o.0 o.1)) more

  -- these replies came of these operations, and this was left
  abbrev Came : Lived → List (ℕ × Op) → List ((ℕ × Op) × Acted Reply Refusal) → Lived → Type 0
  Came s ops replies now = (replies ≡ replies_of s ops) × (now ≡ end_of s ops)

  came_more : (s : Lived) (pass : ℕ) (o : Op) (r : Acted Reply Refusal) (ops : List (ℕ × Op)) (replies : List ((ℕ × Op) × Acted Reply Refusal)) (now : Lived) → step_at s pass o ≡ r → Came (moved_by s pass o r) ops replies now
      → Came s ((pass, o) ∷ ops) (((pass, o), r) ∷ replies) now
  came_more s pass o r ops replies now is came = (
    subst (λ (a : Acted Reply Refusal). ((pass, o), r) ∷ replies ≡ ((pass, o), a) ∷ replies_of (moved_by s pass o a) ops) (sym is) (ap (λ l. ((pass, o), r) ∷ l) came.0),
    subst (λ (a : Acted Reply Refusal). now ≡ end_of (moved_by s pass o a) ops) (sym is) came.1,
  )

  one_came : (before mid : Lived) (pass : ℕ) (o : Op) (answer : Acted (Given P) Refusal) (ops : List (ℕ × Op)) (replies : List ((ℕ × Op) × Acted Reply Refusal)) (now : Lived)
      → Applies needs made before mid pass o answer → Came mid ops replies now → Came before (asked pass o answer ++ ops) (told pass o answer ++ replies) now
  one_came before mid pass o NoMemory ops replies now same came = subst (λ (s : Lived). Came s ops replies now) same came
  one_came before mid pass o (Did given) ops replies now applies came =
      came_more before pass o (Did given.reply) ops replies now applies.0.stepped (subst (λ (s : Lived). Came s ops replies now) applies.1 came)
  one_came before mid pass o (Refused refusal) ops replies now applies came =
      came_more before pass o (Refused refusal) ops replies now applies.0 (subst (λ (s : Lived). Came s ops replies now) applies.1 came)

  all_came : (before now : Lived) (done : List (Done P)) → AreApplied needs made before done now → Came before (all_asked done) (all_told done) now
  all_came before now [] same = (refl, same)
  all_came before now (d ∷ more) done = one_came before done.0 d.pass d.op d.answer (all_asked more) (all_told more) now done.1 (all_came done.0 now more done.2)

  pub same_in_two_worlds : IsSameInTwoWorlds needs made
  same_in_two_worlds old new old' new' done done' context before was was' at at' same =
      let one = is_apart old new done context before was at in
      let two = is_apart old' new' done' context before was' at' in
      let came = all_came before one.0 (share context done) one.2 in
      let came' = all_came before two.0 (share context done') two.2 in (
        came.0 ∙ (ap (λ ops. replies_of before ops) same ∙ sym came'.0),
        one.1 ∙ (ap Some (came.1 ∙ (ap (λ ops. end_of before ops) same ∙ sym came'.1)) ∙ sym two.1),
      )
