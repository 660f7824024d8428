use Rattle.std.proofs.Common.{ap, ◌∙◌}
use Rattle.el_ops.specs.Indexing.{or_null}
use Rattle.run_parts.proofs.ObjectLemmas.{copied_entry, held_is}
use Rattle.run_parts.proofs.objects.held_entry.Goals as goal

pub returns-in-Some : goal.returns-in-Some
returns-in-Some c = copied_entry c.args.scopes.now c.args.scope c.args.name.now c.in-Some.value.now c.copy.result c.in-Some.ensures c.copy.ensures

pub returns-in-None : goal.returns-in-None
returns-in-None c = ap or_null c.in-None.ensures ∙ held_is c.args.scopes.now c.args.scope c.args.name.now
