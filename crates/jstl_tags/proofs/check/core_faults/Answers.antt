use Rattle.std.proofs.Common.{ap, ◌∙◌, ◌++◌, ℕ, Bool, false, List}
use Rattle.std.specs.Prelude.{map}
use Rattle.page_pieces.specs.Settings.{contains_text}
use Rattle.page_directives.specs.Faults.{in_order}
use Rattle.jstl_tags.specs.Check.{core_faults, own_faults, place_faults, row_faults}
use Rattle.jstl_tags.specs.Content.{given_names}
use Rattle.jstl_tags.specs.Elements.{opened_of}
use Rattle.jstl_tags.specs.Hosts.{host_made}
use Rattle.jstl_tags.specs.Rows.{row_made}
use Rattle.jstl_tags.specs.Standing.{standing_made}
use Rattle.jstl_tags.proofs.RowLemmas.{action_is, own_is}
use Rattle.jstl_tags.proofs.check.core_faults.Goals as goal

pub returns : goal.returns
unfolding core_faults
returns c = λ tree is.
    let library : List ℕ → Bool = λ prefix. contains_text prefix c.args.library.now in
    let row = row_made c.args.found.1 in
    let opened = opened_of c.args.element.now in
    let standing = map standing_made c.args.body.standing.now in
    let within = map standing_made c.args.body.inner.now in
    let own = own_faults c.args.found.0 opened tree (given_names opened.tag tree) in
    c.and-2.ensures.of (place_faults false row.stands (map host_made c.args.around.now)) (row_faults library row opened tree ++ own)
    c.place_faults.ensures
    (c.and.ensures.of (row_faults library row opened tree) own
    (c.action_faults.ensures ∙ ap in_order (action_is library row opened tree standing within is.0 is.1))
    (c.own_faults.ensures ∙ ap in_order (own_is c.args.found.0 opened tree standing within is.0 is.1)))
