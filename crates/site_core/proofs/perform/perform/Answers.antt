use Rattle.edges.specs.Acted.{IsDid}
use Rattle.std.proofs.Common.{sym, subst}
use Rattle.site_words.specs.Law.{May, Sure, own, run_of}
use Rattle.site_state.specs.Gifts.{IsMade, value_in}
use Rattle.site_state.specs.Parts.{parts_of}
use Rattle.site_core.specs.Applies.{Applies}
use Rattle.site_core.proofs.Next.{few_runs, still, sure_last}
use Rattle.site_core.proofs.perform.perform.Goals as goal

pub reserve-requires-clause-few : goal.reserve-requires-clause-few
reserve-requires-clause-few g c = few_runs g.P.Compiled.needs g.P.Compiled.made c.args.opening.now c.args.history.now.items (parts_of c.args.held.now) c.args.history.now.room c.requires.site

pub reserve-requires-clause-spare : goal.reserve-requires-clause-spare
reserve-requires-clause-spare g c = c.requires.site.spare

pub perform_reserved-requires-clause-site : goal.perform_reserved-requires-clause-site
perform_reserved-requires-clause-site g c =
    still g.P.Compiled.needs g.P.Compiled.made c.args.opening.now c.args.history.now.items c.reserve.new.history.items (parts_of c.args.held.now) c.args.history.now.room c.reserve.new.history.room
    c.requires.site c.reserve.ensures.items c.reserve.ensures.spare

pub perform_reserved-requires-clause-may : goal.perform_reserved-requires-clause-may
perform_reserved-requires-clause-may g c = subst (λ h. May c.args.opening.now h c.args.pass (own c.args.pass h) c.args.act.op) (sym c.reserve.ensures.items) c.requires.may

pub perform_reserved-requires-clause-made : goal.perform_reserved-requires-clause-made
perform_reserved-requires-clause-made g c =
    subst (λ h. IsMade g.P.Compiled.made c.args.opening.now h (run_of (own c.args.pass h)) c.args.act.op (value_in c.args.act.made)) (sym c.reserve.ensures.items) c.requires.made

pub perform_reserved-requires-clause-room : goal.perform_reserved-requires-clause-room
perform_reserved-requires-clause-room g c = c.in-Ok.ensures.room

pub returns-in_default-clause-site : goal.returns-in_default-clause-site
returns-in_default-clause-site g c =
    still g.P.Compiled.needs g.P.Compiled.made c.args.opening.now c.args.history.now.items c.reserve.new.history.items (parts_of c.args.held.now) c.args.history.now.room c.reserve.new.history.room
    c.requires.site c.reserve.ensures.items c.reserve.ensures.spare

pub returns-in_default-clause-applies : goal.returns-in_default-clause-applies
returns-in_default-clause-applies g c = λ i. record { opening = c.args.opening.now; history = c.reserve.ensures.items i }

pub returns-in_default-clause-sure : goal.returns-in_default-clause-sure
returns-in_default-clause-sure g c = λ sure.
    let went = c.in_default.ensures.last (sure_last c.args.opening.now c.args.history.now.items c.args.pass (own c.args.pass c.args.history.now.items) c.args.act.op sure) in
    absurd (cc)

pub returns-clause-site : goal.returns-clause-site
returns-clause-site g c = c.perform_reserved.ensures.site

pub returns-clause-applies : goal.returns-clause-applies
returns-clause-applies g c =
    subst (λ h. Applies g.P.Compiled.needs g.P.Compiled.made (record { opening = c.args.opening.now; history = h }) (record { opening = c.args.opening.now; history = c.perform_reserved.new.history.items }) c.args.pass c.args.act.op c.perform_reserved.result)
    c.reserve.ensures.items c.perform_reserved.ensures.applies

pub returns-clause-sure : goal.returns-clause-sure
returns-clause-sure g c =
    subst (λ h. Sure c.args.opening.now h c.args.pass (own c.args.pass h) c.args.act.op → IsDid c.perform_reserved.result) c.reserve.ensures.items c.perform_reserved.ensures.sure
