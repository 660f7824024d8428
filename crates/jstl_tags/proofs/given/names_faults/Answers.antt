use Rattle.std.proofs.Common.{◌∙◌, sym, ap}
use Rattle.page_directives.specs.Faults.{in_order}
use Rattle.jstl_tags.specs.Check.{names_faults}
use Rattle.jstl_tags.specs.Content.{attribute_names}
use Rattle.jstl_tags.specs.Rows.{row_made}
use Rattle.jstl_tags.specs.Given.{part_names_made}
use Rattle.jstl_tags.proofs.NamesFaults.{names_faults-append}
use Rattle.jstl_tags.proofs.given.names_faults.Goals as goal

pub returns : goal.returns
returns c =
    let row = row_made c.args.row.now in
    let written = attribute_names c.args.given.attributes.now in
    let parts = part_names_made c.args.given in
    c.and.ensures.of (names_faults row written) (names_faults row parts)
    (c.written_faults.ensures ∙ ap (λ attributes. in_order (names_faults row (attribute_names attributes))) c.as_slice.ensures)
    (c.part_faults.ensures ∙ ap (λ names. in_order (names_faults row names)) c.parts.ensures)
    ∙ ap in_order (sym (names_faults-append row written parts))
