use Rattle.std.proofs.Common.{sym, ap, subst, ◌∙◌}
use Rattle.site_state.specs.declared.session_list.SessionList.TheInside.{Inside}
use Rattle.site_state.specs.LastUses.{AreListed, sessions_in}
use Rattle.site_state.specs.ReadSessions.{touched}
use Rattle.site_state.proofs.UseLemmas.{listed_set, touched_at, touched_none}
use Rattle.site_state.proofs.session_list.SessionList.touch.Goals as goal
use Rattle.site_state.proofs.session_list.SessionList.touch.Goals.{in-Some, in-None}

pub invariant_of-self : goal.invariant_of-self
invariant_of-self c = elim c.match-peek_mut.branch [
  | in-Some w ↦ subst AreListed (sym (ap (λ (inside : Inside). inside.uses) w.self-inside-is)) (listed_set c.args.number c.self.inside.uses _ c.self.invariant)
  | in-None w ↦ subst AreListed (sym (ap (λ (inside : Inside). inside.uses) w.self-inside-is)) c.self.invariant
]

pub returns : goal.returns
returns c = elim c.match-peek_mut.branch [
  | in-Some w ↦ ap (λ (inside : Inside). sessions_in inside.uses.entries) w.self-inside-is
      ∙ (touched_at c.args.number c.args.moment c.self.inside.uses.entries w.in-Some.last.now c.self.invariant.apart (sym w.in-Some.ensures.value) ∙ ap (touched c.args.number c.args.moment) c.self.view_is)
  | in-None w ↦ ap (λ (inside : Inside). sessions_in inside.uses.entries) w.self-inside-is
      ∙ (touched_none c.args.number c.args.moment c.self.inside.uses.entries (sym w.in-None.ensures.value) ∙ ap (touched c.args.number c.args.moment) c.self.view_is)
]
