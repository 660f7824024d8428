use Rattle.std.proofs.Common.{◌≡◌, map, Option, IfSome, List, true, sym, ap, subst, ◌∙◌, ℕ}
use Rattle.site_state.specs.declared.session.Session.{Session}
use Rattle.site_state.specs.LastUses.{sessions_in}
use Rattle.site_state.specs.Parts.{under_in}
use Rattle.site_state.specs.ReadSessions.{has_named, others_if, roomy}
use Rattle.site_state.proofs.UseLemmas.{first_there, room_full, room_short}
use Rattle.site_state.proofs.session_list.SessionList.surplus.Goals as goal

pub returns-then-len-lt-MAX_SESSIONS-clause-rest : goal.returns-then-len-lt-MAX_SESSIONS-clause-rest
returns-then-len-lt-MAX_SESSIONS-clause-rest c =
    subst (λ (sessions : List Session). sessions ≡ roomy (map under_in c.args.runs.now) sessions) c.self.view_is
    (room_short (map under_in c.args.runs.now) c.self.inside.uses.entries c.len.result c.len.ensures.len c.if-len-lt-MAX_SESSIONS.true)

pub returns-clause-rest : goal.returns-clause-rest
returns-clause-rest c =
    subst (λ (sessions : List Session). others_if c.first_free.result sessions ≡ roomy (map under_in c.args.runs.now) sessions) c.self.view_is
    (ap (λ (first : Option ℕ). others_if first (sessions_in c.self.inside.uses.entries)) c.first_free.ensures
    ∙ room_full (map under_in c.args.runs.now) c.self.inside.uses.entries c.len.result c.len.ensures.len c.if-len-lt-MAX_SESSIONS.false)

pub returns-clause-there : goal.returns-clause-there
returns-clause-there c =
    subst (λ (sessions : List Session). IfSome c.first_free.result (λ n. has_named n sessions ≡ true)) c.self.view_is
    (subst (λ (first : Option ℕ). IfSome first (λ n. has_named n (sessions_in c.self.inside.uses.entries) ≡ true)) (sym c.first_free.ensures)
    (first_there (map under_in c.args.runs.now) (sessions_in c.self.inside.uses.entries)))
