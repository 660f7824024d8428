use Rattle.std.proofs.Common.{sym, ap, subst, ◌∙◌}
use Rattle.std.specs.Prelude.{slice_index_or}
use Rattle.pages_server.proofs.Numbers.{map_same, zipped}
use Rattle.pages_server.specs.Worked.{Leads}
use Rattle.pages_server.proofs.working.workers.Goals as goal

pub returns-clause-numbers : goal.returns-clause-numbers
returns-clause-numbers g c =
    map_same (λ served. g.H.Handler.number served.token) c.args.tokens.now c.for_each_mut.new.s (sym c.for_each_mut.auto.s)
    (λ k d low.
    let changed = (c.for_each_mut.ensures k d low).1 in
    ap (λ served. g.H.Handler.number served.token) (sym changed.left) ∙ (changed.call.2 ∙ ap (λ served. g.H.Handler.number served.token) changed.argument_is))

pub returns-clause-worked : goal.returns-clause-worked
returns-clause-worked g c =
    zipped (λ old new. Leads (g.H.Handler.handled c.args.endpoint.now.handler) old.token new.token) c.args.tokens.now c.for_each_mut.new.s (sym c.for_each_mut.auto.s)
    (λ k d low.
    let changed = (c.for_each_mut.ensures k d low).1 in
    subst (λ new. Leads (g.H.Handler.handled c.args.endpoint.now.handler) (slice_index_or c.args.tokens.now k d).token new.token) changed.left
    (subst (λ old. Leads (g.H.Handler.handled c.args.endpoint.now.handler) old.token changed.after_call.now.token) changed.argument_is changed.call.3))
