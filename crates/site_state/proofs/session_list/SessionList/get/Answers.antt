use Rattle.std.proofs.Common.{◌<◌, ◌^◌, option_map, Some, ap, subst, ◌∙◌}
use Rattle.std.specs.List.{All}
use Rattle.site_state.specs.declared.session.Session.{Session}
use Rattle.site_state.specs.LastUses.{session_with}
use Rattle.site_state.specs.ReadSessions.{named}
use Rattle.site_state.proofs.UseLemmas.{found, numbers_in}
use Rattle.site_state.proofs.session_list.SessionList.get.Goals as goal

pub returns-in-Some-clause-session : goal.returns-in-Some-clause-session
returns-in-Some-clause-session c =
    let n = c.args.number in
    ap Some c.session_with.ensures ∙ (ap (option_map (session_with n)) c.in-Some.ensures ∙ (found n c.self.inside.uses.entries c.self.invariant.apart ∙ ap (named n) c.self.view_is))

pub returns-in-Some-clause-numbers : goal.returns-in-Some-clause-numbers
returns-in-Some-clause-numbers c = subst (All (λ (session : Session). session.number < 2 ^ 64)) c.self.view_is (numbers_in c.self.inside.uses.entries c.self.invariant.numbers)

pub returns-in-None-clause-session : goal.returns-in-None-clause-session
returns-in-None-clause-session c =
    let n = c.args.number in
    ap (option_map (session_with n)) c.in-None.ensures ∙ (found n c.self.inside.uses.entries c.self.invariant.apart ∙ ap (named n) c.self.view_is)

pub returns-in-None-clause-numbers : goal.returns-in-None-clause-numbers
returns-in-None-clause-numbers c = subst (All (λ (session : Session). session.number < 2 ^ 64)) c.self.view_is (numbers_in c.self.inside.uses.entries c.self.invariant.numbers)
