use Rattle.std.proofs.Common.{ℕ, sym, ap, subst, ◌∙◌}
use Rattle.lru.specs.LruCache.{LruCache}
use Rattle.site_state.specs.declared.session.LastUse.{LastUse}
use Rattle.site_state.specs.LastUses.{AreListed, sessions_in}
use Rattle.site_state.specs.ReadSessions.{others}
use Rattle.site_state.proofs.UseLemmas.{listed_without, removed}
use Rattle.site_state.proofs.session_list.SessionList.remove.Goals as goal

pub invariant_of-self : goal.invariant_of-self
invariant_of-self c = subst AreListed (sym c.pop.ensures.entries) (listed_without c.args.number c.self.inside.uses c.self.invariant)

pub returns : goal.returns
returns c =
    ap (λ (uses : LruCache ℕ LastUse). sessions_in uses.entries) c.pop.ensures.entries
    ∙ (removed c.args.number c.self.inside.uses.entries c.self.invariant.apart ∙ ap (others c.args.number) c.self.view_is)
