use Rattle.std.proofs.Common.{◌≡◌, ◌∙◌, false, IfOk, Some, sym, subst}
use Rattle.unit_source.specs.Files.{text_in}
use Rattle.unit_source.specs.Placed.{root_view}
use Rattle.unit_source.specs.Root.{root_at}
use Rattle.unit_words.specs.Unit.{Unit, is_xml}
use Rattle.unit_nodes.specs.Views.{body_view}
use Rattle.unit_build.proofs.BuildingLemmas.{read_is}
use Rattle.unit_build.proofs.building.read_unit.Goals as goal

pub returns : goal.returns
returns c = λ text here.
    let files = text_in c.args.tree.now in
    let plain : is_xml c.args.path.now ≡ false = sym c.is_xml.ensures ∙ c.if-is_xml.false in
    let stands : Some (root_view c.in-Some.root) ≡ root_at files false c.args.path.now = rw (c.in-Some.is, c.new-site.ensures) at c.in_ok-root.ensures.root in
    let met = rw (c.in_ok-root.ensures.site, c.new-site.ensures) at c.in_ok-found.ensures in
    subst (λ (unit : Unit). IfOk c.read_body.result (λ read. unit ≡ record { deps = read.0; body = body_view read.1 })) (sym (read_is files c.args.path.now text (root_view c.in-Some.root) plain stands here))
    (c.read_body.ensures c.args.tree.now met)
