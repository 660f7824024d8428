use Rattle.std.proofs.Common.{ap, ◌∙◌}
use Rattle.std.specs.Result.{is_ok}
use Rattle.pg_text.proofs.NameOrder.{placed}
use Rattle.pg_text.proofs.names.is_there.Goals as goal

pub returns : goal.returns
returns c = c.is_ok.ensures.value ∙ ap is_ok c.place.ensures ∙ placed c.args.path.now c.args.paths.now c.requires
