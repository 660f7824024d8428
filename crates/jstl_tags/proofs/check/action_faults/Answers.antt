use Rattle.std.proofs.Common.{ap, ◌∙◌, ◌++◌, ℕ, Bool, List}
use Rattle.std.specs.Prelude.{map}
use Rattle.page_pieces.specs.Settings.{contains_text}
use Rattle.page_directives.specs.Faults.{in_order}
use Rattle.jstl_tags.specs.Check.{given_faults}
use Rattle.jstl_tags.specs.Elements.{opened_of}
use Rattle.jstl_tags.specs.Given.{names_made}
use Rattle.jstl_tags.specs.ReadCheck.{holds_by, split_by}
use Rattle.jstl_tags.specs.Rows.{row_made}
use Rattle.jstl_tags.specs.Standing.{standing_made}
use Rattle.jstl_tags.proofs.RowLemmas.{action_parts}
use Rattle.jstl_tags.proofs.check.action_faults.Goals as goal

pub returns : goal.returns
returns c =
    let library : List ℕ → Bool = λ prefix. contains_text prefix c.args.library.now in
    let row = row_made c.args.row.now in
    let closing = c.args.element.now.closing in
    let split = c.is_split-split.result in
    let beside = c.stands_beside-beside.result in
    let standing = map standing_made c.args.body.standing.now in
    let inner = map standing_made c.args.body.inner.now in
    let within = map standing_made c.body_in-within.result.now in
    let names = names_made c.given_to-given.result in
    let held = holds_by library row.holds closing within in
    c.and-2.ensures.of (given_faults row closing names) (split_by split beside standing ++ held) c.given_faults.ensures
    (c.and.ensures.of (split_by split beside standing) held c.split_faults_by.ensures c.body_faults-held.ensures)
    ∙ ap in_order (action_parts library row (opened_of c.args.element.now) standing inner split beside within names c.is_split-split.ensures c.stands_beside-beside.ensures c.body_in-within.ensures c.given_to-given.ensures.names)
