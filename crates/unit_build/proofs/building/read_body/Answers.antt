use Rattle.std.proofs.Common.{◌∙◌, ap}
use Rattle.page_directives.specs.Meet.{nothing_before}
use Rattle.unit_source.specs.Files.{text_in}
use Rattle.unit_source.specs.Placed.{root_view}
use Rattle.unit_words.specs.Unit.{page_met, page_of}
use Rattle.unit_nodes.specs.Views.{page_view}
use Rattle.unit_build.proofs.BuildingLemmas.{good_unit}
use Rattle.unit_build.proofs.building.read_body.Goals as goal

pub returns : goal.returns
returns c = λ files met.
    let page = root_view c.args.root.now in
    good_unit page (page_met (text_in files) page) c.args.found.fault c.in_ok-names.names (page_view c.in_ok-page_of.field-0) met.fault c.in_default.not-Some (c.in_ok-names.ensures ∙ met.names)
    (c.in_ok-page_of.ensures nothing_before ∙ ap (page_of page) met.state)
