use Rattle.std.proofs.Common.{◌≡◌, ◌∙◌, ◌<◌, length, take, ap, arith}
use Rattle.page_directives.specs.Directive.{row_of}
use Rattle.page_directives.specs.Faults.{in_order}
use Rattle.jstl_tags.specs.Check.{name_faults, names_faults}
use Rattle.jstl_tags.specs.Content.{attribute_names}
use Rattle.jstl_tags.specs.Rows.{row_made}
use Rattle.jstl_tags.proofs.NamesFaults.{written_more}
use Rattle.jstl_tags.proofs.given.written_faults.Goals as goal

pub loop-attribute-preserved : goal.loop-attribute-preserved
loop-attribute-preserved c =
    let attributes = c.args.attributes.now in
    let a = c.attribute-item.result in
    let i = c.loop-attribute.attribute-index in
    let row = row_made c.args.row.now in
    let within : i < length attributes = grind arith in
    let one : c.name_faults.result ≡ in_order (name_faults (row_of a.name row.attributes)) = c.name_faults.ensures ∙ ap (λ name. in_order (name_faults (row_of name row.attributes))) c.as_str.ensures in
    c.and-faults.ensures.of (names_faults row (attribute_names (take i attributes))) (name_faults (row_of a.name row.attributes)) c.loop-attribute.invariant one
    ∙ ap in_order (written_more row attributes i a within c.attribute-item.is)
