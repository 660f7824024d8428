use Rattle.std.proofs.Common.{◌≡◌, ◌++◌, ◌∷◌, [], rules}
use Rattle.page_directives.specs.Faults.{in_order}
use Rattle.unit_source.specs.Placed.{root_view}
use Rattle.unit_words.specs.Directives.{directive_faults, entry_faults}
use Rattle.unit_words.specs.State.{events_at}
use Rattle.unit_build.specs.ReadFound.{IsMet, state_in}
use Rattle.unit_build.proofs.ReadLemmas.{include_read}
use Rattle.unit_build.proofs.include.meet_include.Goals as goal

pub returns-clause-met : goal.returns-clause-met
returns-clause-met c =
    let old = c.args.found.now in
    let before = c.args.course.now.before in
    let root = root_view c.args.course.now.root in
    let d = c.args.directive.now in
    let own : c.in_ok-faults.faults ≡ in_order (directive_faults root before d) = search rules in
    let comes = c.meet_entry-comes.ensures before in
    let all = c.and.ensures.of (directive_faults root before d) (entry_faults c.args.entry (state_in before old)) own comes.faults in
    let stands : c.meet.new.self.before ≡ record { directives = before.directives ++ d ∷ []; prefixes = before.prefixes } = search rules in
    let met : IsMet c.meet_entry-comes.new.found c.meet-2.new.self (events_at d.place c.and.result) = search rules in
    include_read before c.meet.new.self.before root d c.args.entry c.and.result stands comes all met
