use Rattle.std.specs.Arc.{arc_value}
use Rattle.site_words.specs.Law.{own, run_of}
use Rattle.site_core_tests.proofs.Fit.{fit_may, made_anywhere}
use Rattle.site_core_tests.proofs.calls.ask.Goals as goal

pub apply-requires-clause-may : goal.apply-requires-clause-may
apply-requires-clause-may g c = fit_may g.P.Compiled.needs c.args.site.now.opening c.args.site.now.history c.args.pass c.args.op c.law.ensures.legal c.requires.other c.requires.fit

pub apply-requires-clause-made : goal.apply-requires-clause-made
apply-requires-clause-made g c =
    made_anywhere g.P.Compiled.made c.args.site.now.opening c.args.site.now.history (run_of (own c.args.pass c.args.site.now.history)) c.args.op (arc_value c.args.made) c.requires.made
    (fit_may g.P.Compiled.needs c.args.site.now.opening c.args.site.now.history c.args.pass c.args.op c.law.ensures.legal c.requires.other c.requires.fit).1
