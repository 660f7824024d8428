use Rattle.std.proofs.Common.{ap, ◌∙◌}
use Rattle.std.specs.Option.{option_map}
use Rattle.page_directives.specs.Checks.{by_row}
use Rattle.page_directives.specs.Faults.{is_good}
use Rattle.page_directives.specs.Rows.{check_of}
use Rattle.page_directives.proofs.FaultLemmas.{is_good-in_order}
use Rattle.page_directives.proofs.giving.is_taken.Goals as goal

pub returns : goal.returns
returns c = c.is_empty.ensures ∙ (ap is_good c.by_row.ensures ∙ is_good-in_order (by_row (option_map check_of c.args.row) c.args.attribute.now))
