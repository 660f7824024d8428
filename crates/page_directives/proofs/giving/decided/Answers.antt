use Rattle.std.proofs.Common.{◌∙◌, ◌<◌, length, sym, arith, Some, None}
use Rattle.page_directives.specs.Rows.{rows_of}
use Rattle.page_directives.proofs.GivenLemmas.{decided_at}
use Rattle.page_directives.proofs.giving.decided.Goals as goal

pub returns-in-Some : goal.returns-in-Some
returns-in-Some c =
    let within : c.loop-directive.directive-index < length c.args.directives.now = grind arith in
    sym (decided_at (rows_of c.args.table.now) c.args.giver.now c.args.name.now c.args.directives.now c.loop-directive.directive-index c.directive-item.result (Some c.in-Some.value.now) within c.directive-item.is c.in-Some.ensures)
    ∙ c.loop-directive.invariant

pub loop-directive-preserved : goal.loop-directive-preserved
loop-directive-preserved c =
    let within : c.loop-directive.directive-index < length c.args.directives.now = grind arith in
    sym (decided_at (rows_of c.args.table.now) c.args.giver.now c.args.name.now c.args.directives.now c.loop-directive.directive-index c.directive-item.result None within c.directive-item.is c.in_default.ensures)
    ∙ c.loop-directive.invariant
