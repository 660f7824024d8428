use Rattle.std.proofs.Common.{ℕ, ◌<◌, ◌^◌, ◌++◌, ◌∷◌, [], length, sym, ap, subst, ◌∙◌, arith}
use Rattle.lru.specs.LruCache.{LruCache}
use Rattle.site_state.specs.declared.session.LastUse.{LastUse}
use Rattle.site_state.specs.declared.session.Session.{Session}
use Rattle.site_state.specs.LastUses.{AreListed, session_with, sessions_in}
use Rattle.site_state.specs.ReadSessions.{has_named}
use Rattle.site_state.proofs.UseLemmas.{listed_new, sessions_new}
use Rattle.site_state.proofs.session_list.SessionList.push.Goals as goal

pub invariant_of-self-2 : goal.invariant_of-self-2
invariant_of-self-2 c =
    let n = c.args.session.number in
    let small : c.args.session.number < 2 ^ 64 = omega arith in
    let short : length c.self.inside.uses.entries < 2 ^ 63 = subst (λ k. k < 2 ^ 63) c.len.ensures.len c.len.ensures.fits in
    subst AreListed (sym c.in_ok-put.ensures.entries) (listed_new n c.self.inside.uses c.last_use.result c.self.invariant (ap (has_named n) c.self.view_is ∙ c.requires) short small)

pub returns-clause-ok : goal.returns-clause-ok
returns-clause-ok c =
    let n = c.args.session.number in
    let short : length c.self.inside.uses.entries < 2 ^ 63 = subst (λ k. k < 2 ^ 63) c.len.ensures.len c.len.ensures.fits in
    ap (λ (uses : LruCache ℕ LastUse). sessions_in uses.entries) c.in_ok-put.ensures.entries
    ∙ (sessions_new n c.self.inside.uses c.last_use.result c.self.invariant (ap (has_named n) c.self.view_is ∙ c.requires) short
    ∙ (ap (λ l. l ++ session_with n c.last_use.result ∷ []) c.self.view_is ∙ ap (λ (session : Session). c.args.self.now ++ session ∷ []) c.last_use.ensures))
