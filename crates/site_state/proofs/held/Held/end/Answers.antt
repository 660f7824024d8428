use Rattle.std.proofs.Common.{length, map, refl, ap, ◌∙◌}
use Rattle.site_state.specs.Parts.{parts_of, under_in}
use Rattle.site_state.specs.declared.session.Source.TheVariants.{Ended}
use Rattle.site_state.specs.ReadSessions.{freed_list}
use Rattle.site_state.proofs.RequestSteps.{end_done}
use Rattle.site_state.proofs.held.Held.end.Goals as goal

pub returns : goal.returns
returns g c =
    end_done g.P.Compiled.needs g.P.Compiled.made c.args.at.opening.now c.args.at.history.now.items (parts_of c.args.self.now) _ c.args.at.pass c.args.request c.args.weight c.saturating_add-self.result c.args.attrs.now c.plain.result
    c.free.new.sessions (map under_in c.seat.new.runs.items) c.requires.can refl
    (c.free.ensures ∙ ap (λ place. freed_list c.session_of-session.result c.args.self.now.moment (Ended place) c.args.self.now.sessions) c.len.ensures ∙ ap (λ n. freed_list n c.args.self.now.moment (Ended (length c.args.at.history.now.items)) c.args.self.now.sessions) c.session_of-session.ensures)
    c.seat.ensures
    c.saturating_add-self.ensures c.requires.weight c.plain.ensures.reply c.plain.ensures.told
