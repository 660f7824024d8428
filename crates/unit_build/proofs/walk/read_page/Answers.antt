use Rattle.std.proofs.Common.{rules}
use Rattle.page_directives.specs.Meet.{nothing_before}
use Rattle.unit_source.specs.Placed.{root_view}
use Rattle.unit_words.specs.State.{needed}
use Rattle.unit_build.specs.ReadFound.{IsMet}
use Rattle.unit_build.proofs.ReadLemmas.{page_read}
use Rattle.unit_build.proofs.walk.read_page.Goals as goal

pub returns : goal.returns
returns c =
    let page = root_view c.args.page.now in
    let names : IsMet c.need.new.self c.need_all.new.self (needed page.names) = search rules in
    page_read c.args.site page c.new-found.ensures.nothing c.in_ok-need.ensures names (c.in_ok-read_root.ensures nothing_before)
