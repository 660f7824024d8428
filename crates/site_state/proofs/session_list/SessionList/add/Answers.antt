use Rattle.std.proofs.Common.{◌++◌, ◌∷◌, [], List, ap, ◌∙◌}
use Rattle.site_state.specs.declared.session.Session.{Session}
use Rattle.site_state.specs.ReadSessions.{others_if}
use Rattle.site_state.proofs.UseLemmas.{room_before}
use Rattle.site_state.proofs.session_list.SessionList.add.Goals as goal

pub returns-clause-ok : goal.returns-clause-ok
returns-clause-ok c =
    c.remove_found.ensures
    ∙ (ap (others_if c.surplus-surplus.result) c.in_ok-push.ensures.ok
    ∙ (room_before c.surplus-surplus.result c.args.self.now c.args.session c.requires c.surplus-surplus.ensures.there ∙ ap (λ (sessions : List Session). sessions ++ c.args.session ∷ []) c.surplus-surplus.ensures.rest))
