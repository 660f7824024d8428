use Rattle.std.proofs.Common.{ap, ◌∙◌}
use Rattle.std.specs.Prelude.{map}
use Rattle.page_directives.specs.Faults.{in_order}
use Rattle.jstl_tags.specs.Elements.{opened_of}
use Rattle.jstl_tags.specs.Standing.{standing_made}
use Rattle.jstl_tags.proofs.RowLemmas.{parts_are}
use Rattle.jstl_tags.proofs.check.split_faults.Goals as goal

pub returns : goal.returns
returns c = λ tree is.
    c.split_faults_by.ensures
    ∙ ap in_order (parts_are (opened_of c.args.element.now).tag tree (map standing_made c.args.body.standing.now) c.is_split-split.result c.others_stand.result is.0 c.is_split-split.ensures c.others_stand.ensures)
