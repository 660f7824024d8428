use Rattle.run_parts.proofs.ObjectLemmas.{scope_answers}
use Rattle.run_parts.proofs.objects.scope_value.Goals as goal
use Rattle.page_meaning.specs.Implicit.{scope_entries}

pub returns : goal.returns
returns c = scope_answers (scope_entries c.args.scopes.now c.args.scope) c.as_rec.result c.as_rec.ensures
