use Rattle.std.proofs.Common.{◌≡◌, ◌∙◌, ◌<◌, length, take, ap, arith}
use Rattle.std.specs.Option.{option_map}
use Rattle.page_directives.specs.Checks.{attribute_faults, by_row}
use Rattle.page_directives.specs.Directive.{row_of}
use Rattle.page_directives.specs.Faults.{in_order}
use Rattle.page_directives.specs.Rows.{check_of, rows_of}
use Rattle.page_directives.proofs.TableLemmas.{attribute_faults_more}
use Rattle.page_directives.proofs.checks.attribute_faults.Goals as goal

pub loop-attribute-preserved : goal.loop-attribute-preserved
loop-attribute-preserved c =
    let attributes = c.args.attributes.now in
    let a = c.attribute-item.result in
    let i = c.loop-attribute.attribute-index in
    let rows = rows_of c.args.table.now in
    let within : i < length attributes = grind arith in
    let row : option_map check_of c.row_of.result ≡ row_of a.name rows = c.row_of.ensures ∙ ap (λ name. row_of name rows) c.as_str.ensures in
    let one : c.by_row.result ≡ in_order (by_row (row_of a.name rows) a) = c.by_row.ensures ∙ ap (λ row. in_order (by_row row a)) row in
    c.and-faults.ensures.of (attribute_faults rows (take i attributes)) (by_row (row_of a.name rows) a) c.loop-attribute.invariant one
    ∙ ap in_order (attribute_faults_more rows attributes i a within c.attribute-item.is)
