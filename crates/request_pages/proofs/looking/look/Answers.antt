use Rattle.std.proofs.Common.{◌≡◌, ◌≤◌, ap, arith, subst, sym, ◌∙◌}
use Rattle.run_pages.specs.Run.{StandsFor}
use Rattle.request_pages.proofs.LookLemmas.{charged, found_stands, look_room}
use Rattle.request_pages.proofs.looking.look.Goals as goal
use Rattle.request_pages.proofs.looking.look.Goals.{in-Page, in-Bad, in-Plain, in-Absent}
use Rattle.request_pages.specs.Looked.{looked_at}
use Rattle.site_words.specs.PageSteps.{page_charge}

pub page-requires : goal.page-requires
page-requires g c =
    let claim = c.page_charge-charge.ensures in
    let short : page_charge c.args.path.now ≤ 2208 = omega (arith, claim.charge, claim.short) in
    record { room = look_room c.args.around.now (g.P.AppPort.asking c.args.port.now) c.args.path.now short c.requires.charge c.requires.funded }

pub returns-clause-looked : goal.returns-clause-looked
returns-clause-looked g c = λ origin scopes held taken faults s stands.
    let charge = c.page_charge-charge.result in
    let counted : c.match-found.around ≡ charged c.in-Ok.found charge c.args.around.now =
    elim c.match-found.branch [
      | in-Page w ↦ w.around-is ∙ ap (λ what. charged what charge c.args.around.now) (sym w.in-Page.is)
      | in-Bad w ↦ w.around-is ∙ ap (λ what. charged what charge c.args.around.now) (sym w.in-Bad.is)
      | in-Plain w ↦ w.around-is ∙ ap (λ what. charged what charge c.args.around.now) (sym w.in-Plain.is)
      | in-Absent w ↦ w.around-is ∙ ap (λ what. charged what charge c.args.around.now) (sym w.in-Absent.is)
    ] in
    let behind = found_stands g.P.AppPort.made g.P.AppPort.faulty (g.P.AppPort.tree c.args.port.now) origin scopes held taken faults c.args.around.now (g.P.AppPort.asking c.args.port.now) (g.P.AppPort.asking c.page.new.self) c.args.path.now s charge
    c.page_charge-charge.ensures.charge c.in-Ok.found c.in-Ok.ensures.paged c.in-Ok.ensures.looked stands in
    (c.in-Ok.ensures.paged, subst (λ around. StandsFor origin scopes held taken faults around (g.P.AppPort.asking c.page.new.self) (looked_at c.args.path.now c.in-Ok.found s)) (sym counted) behind, c.in-Ok.ensures.looked.answers)
