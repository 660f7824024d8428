use Rattle.edges.specs.Acted.{IsDid}
use Rattle.std.proofs.Common.{sym, subst}
use Rattle.site_words.specs.Law.{May, Sure, own, run_of}
use Rattle.site_state.specs.Gifts.{IsMade, value_in}
use Rattle.site_core.specs.Applies.{Applies}
use Rattle.site_core.specs.Lived.{Lived}
use Rattle.site_core.proofs.site.Site.apply.Goals as goal

pub perform-requires-clause-site : goal.perform-requires-clause-site
perform-requires-clause-site g c = c.self.invariant

pub perform-requires-clause-may : goal.perform-requires-clause-may
perform-requires-clause-may g c = subst (λ (v : Lived). May v.opening v.history c.args.pass (own c.args.pass v.history) c.args.act.op) (sym c.self.view_is) c.requires.may

pub perform-requires-clause-made : goal.perform-requires-clause-made
perform-requires-clause-made g c =
    subst (λ (v : Lived). IsMade g.P.Compiled.made v.opening v.history (run_of (own c.args.pass v.history)) c.args.act.op (value_in c.args.act.made)) (sym c.self.view_is) c.requires.made

pub invariant_of-self : goal.invariant_of-self
invariant_of-self g c = c.perform.ensures.site

pub returns-clause-applies : goal.returns-clause-applies
returns-clause-applies g c =
    subst (λ (v : Lived). Applies g.P.Compiled.needs g.P.Compiled.made v (record { opening = c.self.inside.opening; history = c.perform.new.history.items }) c.args.pass c.args.act.op c.perform.result) c.self.view_is c.perform.ensures.applies

pub returns-clause-sure : goal.returns-clause-sure
returns-clause-sure g c =
    subst (λ (v : Lived). Sure v.opening v.history c.args.pass (own c.args.pass v.history) c.args.act.op → IsDid c.perform.result) c.self.view_is c.perform.ensures.sure
