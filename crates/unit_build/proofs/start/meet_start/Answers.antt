use Rattle.jstl_tags.specs.Elements.{opened_of}
use Rattle.unit_source.specs.Files.{text_in}
use Rattle.unit_source.specs.InPlace.{flat}
use Rattle.unit_source.specs.Placed.{in_place, root_view}
use Rattle.unit_words.specs.Calls.{Called}
use Rattle.unit_words.specs.Walk.{file_met, nested}
use Rattle.unit_judges.specs.Made.{here_made, kind_made}
use Rattle.unit_build.specs.ReadFound.{state_in}
use Rattle.unit_build.proofs.ReadLemmas.{started}
use Rattle.unit_build.proofs.start.meet_start.Goals as goal

pub returns : goal.returns
returns c =
    let before = c.args.course.now.before in
    let kind = kind_made c.args.beginning.now.kind.now in
    let here = here_made c.args.beginning.now.here in
    let opened = opened_of c.args.beginning.now.element.now.head in
    let file : Called = file_met (text_in c.args.found.now.site) kind opened.tag (nested here (state_in before c.args.found.now)) in
    let called = c.in_ok-faults.ensures before in
    started (root_view c.args.course.now.root) kind here opened (flat (in_place c.args.beginning.now.element.now.body.items)) before file called (c.in_ok-meet_faults.ensures before file.faults called.faults)
