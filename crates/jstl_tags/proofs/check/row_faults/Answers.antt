use Rattle.std.proofs.Common.{ap, ◌∙◌}
use Rattle.std.specs.Prelude.{map}
use Rattle.page_pieces.specs.Settings.{contains_text}
use Rattle.page_directives.specs.Faults.{in_order}
use Rattle.jstl_tags.specs.Elements.{opened_of}
use Rattle.jstl_tags.specs.Rows.{row_made}
use Rattle.jstl_tags.specs.Standing.{standing_made}
use Rattle.jstl_tags.proofs.RowLemmas.{action_is}
use Rattle.jstl_tags.proofs.check.row_faults.Goals as goal

pub returns : goal.returns
returns c = λ tree is.
    c.action_faults.ensures
    ∙ ap in_order (action_is (λ prefix. contains_text prefix c.args.library.now) (row_made c.args.row.now) (opened_of c.args.element.now) tree
    (map standing_made c.args.body.standing.now) (map standing_made c.args.body.inner.now) is.0 is.1)
