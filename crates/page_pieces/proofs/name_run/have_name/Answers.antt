use Rattle.std.proofs.Common.{◌∙◌, ◌+◌, drop, sym, ap, arith}
use Rattle.std.specs.Prelude.{◌||◌}
use Rattle.page_pieces.specs.ReadNames.{names_in}
use Rattle.page_pieces.specs.Settings.{contains_text}
use Rattle.page_pieces.proofs.NameListLemmas.{contains_from}
use Rattle.page_pieces.proofs.name_run.have_name.Goals as goal

pub returns-then-contains : goal.returns-then-contains
returns-then-contains c =
    let behind = contains_text c.args.name.now (names_in (drop (c.loop-run.run-index + 1) c.args.runs.now)) in
    let here = contains_from c.args.name.now c.args.runs.now c.loop-run.run-index c.run-item.result (omega arith) c.run-item.is in
    sym (sym c.loop-run.invariant ∙ here ∙ ap (λ b. b || behind) (sym c.contains.ensures ∙ c.if-contains.true))

pub loop-run-preserved : goal.loop-run-preserved
loop-run-preserved c =
    let behind = contains_text c.args.name.now (names_in (drop (c.loop-run.run-index + 1) c.args.runs.now)) in
    let here = contains_from c.args.name.now c.args.runs.now c.loop-run.run-index c.run-item.result (omega arith) c.run-item.is in
    sym (here ∙ ap (λ b. b || behind) (sym c.contains.ensures ∙ c.if-contains.false)) ∙ c.loop-run.invariant
