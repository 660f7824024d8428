use Rattle.std.proofs.Common.{map, refl, ap, ◌∙◌}
use Rattle.site_state.specs.Parts.{parts_of, under_in}
use Rattle.site_state.specs.ReadSessions.{dropped_list}
use Rattle.site_state.proofs.RequestSteps.{abandon_done}
use Rattle.site_state.proofs.held.Held.abandon.Goals as goal

pub returns : goal.returns
returns g c =
    abandon_done g.P.Compiled.needs g.P.Compiled.made c.args.at.opening.now c.args.at.history.now.items (parts_of c.args.self.now) _ c.args.at.pass c.args.request c.args.weight c.saturating_add-self.result c.plain.result
    c.free_as_it_was.new.sessions (map under_in c.seat.new.runs.items) c.requires.can refl
    (c.free_as_it_was.ensures ∙ ap (λ n. dropped_list n c.args.self.now.moment c.args.self.now.sessions) c.session_of-session.ensures)
    c.seat.ensures
    c.saturating_add-self.ensures c.requires.weight c.plain.ensures.reply c.plain.ensures.told
