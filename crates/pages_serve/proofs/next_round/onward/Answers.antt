use Rattle.std.proofs.Common.{◌≡◌, List, [], None, inl, inr, refl, subst, sym}
use Rattle.site_core.specs.Lived.{Lived}
use Rattle.site_words.specs.Invariants.{AllRest}
use Rattle.site_words.specs.Law.{own, run_of}
use Rattle.site_words.specs.declared.words.Entry.{Entry}
use Rattle.site_words.specs.declared.words.Opening.{Opening}
use Rattle.pages_serve.proofs.next_round.onward.Goals as goal

-- no request is under way before the first entry
rests_at_start : (x : Opening) (history : List Entry) → history ≡ [] → AllRest x history
rests_at_start x history empty k within = subst (λ h. run_of (own k h) ≡ None) (sym empty) refl

-- nor where the site is as it was
rests_as_before : (site next : Lived) → next ≡ site → AllRest site.opening site.history → AllRest next.opening next.history
rests_as_before site next same rests = subst (λ (s : Lived). AllRest s.opening s.history) (sym same) rests

pub returns-in-Done-clause-goes_on : goal.returns-in-Done-clause-goes_on
returns-in-Done-clause-goes_on g c = inl c.in-Done.ensures.rolls

pub returns-in-Done-clause-rest : goal.returns-in-Done-clause-rest
returns-in-Done-clause-rest g c = rests_at_start c.in-Done.next.opening c.in-Done.next.history c.in-Done.ensures.rolls.history

pub returns-in-WriteFault-clause-goes_on : goal.returns-in-WriteFault-clause-goes_on
returns-in-WriteFault-clause-goes_on g c = inr (inl c.in-WriteFault.ensures.rolls)

pub returns-in-WriteFault-clause-rest : goal.returns-in-WriteFault-clause-rest
returns-in-WriteFault-clause-rest g c = rests_as_before _ _ c.in-WriteFault.ensures.rolls.same c.requires

pub returns-in-Spent-clause-goes_on : goal.returns-in-Spent-clause-goes_on
returns-in-Spent-clause-goes_on g c = inr (inr c.in-Spent.ensures.rolls.0)

pub returns-in-Spent-clause-rest : goal.returns-in-Spent-clause-rest
returns-in-Spent-clause-rest g c = rests_as_before _ _ c.in-Spent.ensures.rolls.0.same c.requires

pub returns-in-NoMemory-clause-goes_on : goal.returns-in-NoMemory-clause-goes_on
returns-in-NoMemory-clause-goes_on g c = inr (inr c.in-NoMemory.ensures.rolls)

pub returns-in-NoMemory-clause-rest : goal.returns-in-NoMemory-clause-rest
returns-in-NoMemory-clause-rest g c = rests_as_before _ _ c.in-NoMemory.ensures.rolls.same c.requires
