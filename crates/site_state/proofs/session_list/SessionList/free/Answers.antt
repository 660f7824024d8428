use Rattle.std.proofs.Common.{ℕ, ◌<◌, ◌^◌, ◌++◌, ◌∷◌, [], sym, ap, subst, ◌∙◌, arith}
use Rattle.lru.specs.LruCache.{LruCache}
use Rattle.site_state.specs.declared.session.LastUse.{LastUse}
use Rattle.site_state.specs.declared.session.Session.{Session}
use Rattle.site_state.specs.LastUses.{AreListed, session_with, sessions_in}
use Rattle.site_state.specs.ReadSessions.{has_named, others}
use Rattle.site_state.proofs.UseLemmas.{listed_again, sessions_again, there}
use Rattle.site_state.proofs.session_list.SessionList.free.Goals as goal

pub unreachable-requires : goal.unreachable-requires
unreachable-requires c =
    let n = c.args.session.number in
    let went = c.in_default.ensures.succeeds (there n c.self.inside.uses.entries (ap (has_named n) c.self.view_is ∙ c.requires)) in
    absurd (cc)

pub invariant_of-self : goal.invariant_of-self
invariant_of-self c =
    let n = c.args.session.number in
    let small : c.args.session.number < 2 ^ 64 = omega arith in
    subst AreListed (sym c.in-Ok.ensures.entries) (listed_again n c.self.inside.uses c.last_use.result c.self.invariant (ap (has_named n) c.self.view_is ∙ c.requires) small)

pub returns : goal.returns
returns c =
    let n = c.args.session.number in
    ap (λ (uses : LruCache ℕ LastUse). sessions_in uses.entries) c.in-Ok.ensures.entries
    ∙ (sessions_again n c.self.inside.uses c.last_use.result c.self.invariant (ap (has_named n) c.self.view_is ∙ c.requires)
    ∙ (ap (λ l. others n l ++ session_with n c.last_use.result ∷ []) c.self.view_is ∙ ap (λ (session : Session). others n c.args.self.now ++ session ∷ []) c.last_use.ensures))
