use Rattle.unit_source.specs.Files.{text_in}
use Rattle.jstl_tags.specs.Elements.{opened_of}
use Rattle.unit_words.specs.Counts.{counts_within}
use Rattle.unit_words.specs.Walk.{file_met}
use Rattle.unit_judges.specs.Made.{kind_made}
use Rattle.unit_build.proofs.CalledLemmas.{called_from}
use Rattle.unit_build.proofs.OkLemmas.{if_ok}
use Rattle.unit_build.proofs.start.meet_nested.Goals as goal

pub returns : goal.returns
returns c =
    let old = c.args.found.now in
    if_ok c.meet_file.result c.meet_file.ensures
    (λ answer is before. called_from (file_met (text_in old.site) (kind_made c.args.beginning.kind.now) (opened_of c.args.beginning.element.now.head).tag) before c.nest.new.self (counts_within c.args.beginning.here.deep old.counts) c.nest.ensures (is before))
